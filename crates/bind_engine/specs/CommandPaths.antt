-- The remaining device path of a `connect` command (UEFI 2.8, 7.3: ConnectController, RemainingDevicePath): it is mapped
-- while the command runs, for all that the command calls.
use Rattle.std.specs.Prelude.{ℕ, Bool, true, false, List, ◌++◌, Option, Some, None}
use Rattle.fw_types.specs.declared.command.PathArg.{PathArg}
use Rattle.fw_types.specs.declared.command.PathArg.TheVariants.{Null, End, Pci}
use Rattle.fw_types.specs.declared.status.Status.{Status}
use Rattle.device_path.specs.DevicePath.{end_node, pci_node}
use Rattle.guest_memory.specs.declared.address_map.TheConstants.{COMMAND_PATH}
use Rattle.world_model.specs.World.{State, on_soft}
use Rattle.world_model.specs.CommandPath.{path_cleared, path_set}
use Rattle.driver_model.specs.declared.request.Connection.{Connection}

-- the bytes of a path, unless it is NULL (UEFI 2.8, 10.3)
abbrev pub path_bytes : PathArg → Option (List ℕ)
path_bytes Null = None
path_bytes End = Some end_node
path_bytes (Pci device function) = Some (pci_node device function ++ end_node)

-- the address that ConnectController is given
abbrev pub path_address : PathArg → ℕ
path_address Null = 0
path_address End = COMMAND_PATH
path_address (Pci device function) = COMMAND_PATH

abbrev pub is_end : PathArg → Bool
is_end Null = false
is_end End = true
is_end (Pci device function) = false

-- what ConnectController is asked for
abbrev pub connection : (controller : ℕ) → (recursive : Bool) → PathArg → Connection
connection controller recursive path = record {
  controller = controller;
  path = path_address path;
  at_end = is_end path;
  recursive = recursive;
}

abbrev pub without_path : Status × State → Status × State
without_path (status, w) = (status, on_soft path_cleared w)

-- runs something with a path in memory, or with none
abbrev pub with_path : Option (List ℕ) → (State → Status × State) → State → Status × State
with_path None run w = run w
with_path (Some bytes) run w = without_path (run (on_soft (path_set bytes) w))
