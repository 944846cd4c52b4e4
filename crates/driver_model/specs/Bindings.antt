-- Driver bindings (UEFI 2.8, 11.1: EFI Driver Binding Protocol), as they are read from their bytes
-- in guest memory.
use Rattle.std.specs.Prelude.{ℕ, List, Option, Some, None, if◌then◌else◌}
use Rattle.std.specs.List.{filter_map}
use Rattle.fw_types.specs.Guid.{known_guid}
use Rattle.fw_types.specs.Layout.{uint32_at, uint64_at}
use Rattle.fw_types.specs.declared.guid.Known.TheVariants.{DriverBinding}
use Rattle.guest_memory.specs.GuestMemory.{bytes_of, is_readable}
use Rattle.handle_db.specs.Database.{handles_with, interface_of}
use Rattle.world_model.specs.World.{Soft}
use Rattle.driver_model.specs.declared.binding.BindingBlock.{BindingBlock}
use Rattle.driver_model.specs.declared.binding.TheConstants.{BINDING_SIZE}

-- a handle's binding, with these bytes at an address
abbrev pub block_of : (handle at : ℕ) → List ℕ → BindingBlock
block_of handle at bytes = record {
  handle = handle;
  at = at;
  supported = uint64_at 0 bytes;
  start = uint64_at 8 bytes;
  stop = uint64_at 16 bytes;
  version = uint32_at 24 bytes;
  image = uint64_at 32 bytes;
}

-- the same, if all its bytes can be read
abbrev pub block_at : (handle at : ℕ) → Soft → Option BindingBlock
block_at handle at soft = if is_readable soft.memory at BINDING_SIZE then Some (block_of handle at (bytes_of soft.memory at BINDING_SIZE)) else None

abbrev pub binding_at : (handle : ℕ) → Option (ℕ × ℕ) → Soft → Option BindingBlock
binding_at handle None soft = None
binding_at handle (Some interface) soft = block_at handle interface.0 soft

-- the binding of a handle: it is live, has a driver binding, and all bytes of the binding can be
-- read
abbrev pub binding : ℕ → Soft → Option BindingBlock
binding handle soft = binding_at handle (interface_of handle (known_guid DriverBinding) soft.database) soft

-- the bindings of these handles, in their order
abbrev pub bindings_of : List ℕ → Soft → List BindingBlock
bindings_of handles soft = filter_map (λ handle. binding handle soft) handles

-- all bindings, by rising handle
abbrev pub all_bindings : Soft → List BindingBlock
all_bindings soft = bindings_of (handles_with (Some (known_guid DriverBinding)) soft.database) soft
