-- What the PCI bus driver answers for a controller and a remaining device path: its Supported, and which functions its
-- Start makes handles for (UEFI 2.8, 14.3.2.1: Driver Binding Protocol for PCI Bus Drivers).
--
-- The rules, in their order:
--  1. UNSUPPORTED if the controller is no root bridge: it has no root bridge I/O of the firmware (`chosen_on`).
--  2. UNSUPPORTED if the path is neither NULL, nor an End node, nor a PCI node (`path_choice`).
--  3. ALREADY_STARTED or ACCESS_DENIED if an open of root bridge I/O BY_DRIVER by the bus driver gets that verdict from the
--     open records (`unless_open`).
--  4. Otherwise the controller is supported. NULL chooses all functions on the bus of the root bridge and below it, an End
--     node chooses none, and a PCI node the function that it names, on the bus itself, if there is one (`chosen`).
use Rattle.std.specs.Prelude.{ℕ, nat_eq, List, [], ◌∷◌, slice_index, Option, Some, None, Result, Ok, Err, if◌then◌else◌}
use Rattle.std.specs.Option.{option_map_or}
use Rattle.std.specs.List.{starts_with}
use Rattle.fw_types.specs.Guid.{known_guid}
use Rattle.fw_types.specs.declared.attr.TheConstants.Attr.{BY_DRIVER}
use Rattle.fw_types.specs.declared.guid.Known.TheVariants.{RootBridgeIo}
use Rattle.fw_types.specs.declared.status.Status.{Status}
use Rattle.fw_types.specs.declared.status.TheConstants.Status.{ACCESS_DENIED, ALREADY_STARTED, SUCCESS, UNSUPPORTED}
use Rattle.pci_model.specs.BoardLines.{find_at}
use Rattle.pci_model.specs.Below.{functions_below}
use Rattle.pci_model.specs.declared.line.BoardLine.{BoardLine}
use Rattle.device_path.specs.DevicePath.{is_end}
use Rattle.guest_memory.specs.GuestMemory.{bytes_of}
use Rattle.open_records.specs.OpenRecords.{records_of}
use Rattle.open_records.specs.Verdicts.{judge}
use Rattle.open_records.specs.declared.verdict.Verdict.{Verdict}
use Rattle.open_records.specs.declared.verdict.Verdict.TheVariants.{Add, Count, Already, Denied, MustDisconnect}
use Rattle.world_model.specs.World.{Soft, State}
use Rattle.world_model.specs.Boards.{root_bus}
use Rattle.world_model.specs.Interfaces.{bus_driver}
use Rattle.driver_model.specs.declared.bus_driver.PathChoice.{PathChoice}
use Rattle.driver_model.specs.declared.bus_driver.PathChoice.TheVariants.{AllFunctions, NoFunction, OneFunction}

-- ---- rule 2: the remaining device path

-- how a PCI node begins: its type, its sub-type and its length (10.3.2.1: PCI Device Path)
abbrev pub pci_header : List ℕ
pci_header = 0x01 ∷ 0x01 ∷ 0x06 ∷ 0x00 ∷ []

-- the function that a PCI node names: its function number comes before its device number
abbrev pub node_choice : (node : List ℕ) → Option PathChoice
node_choice node = if starts_with nat_eq node pci_header then Some (OneFunction (slice_index node 5) (slice_index node 4)) else None

-- what a path asks for, by its first 2 and its first 6 bytes: the 2 bytes of an End node are enough, and a PCI node has 6
abbrev pub choice_by : (end node : List ℕ) → Option PathChoice
choice_by end node = if is_end end then Some NoFunction else node_choice node

-- bytes that can't be read count as no bytes
abbrev pub path_choice : (path : ℕ) → Soft → Option PathChoice
path_choice path soft =
    if nat_eq path 0 then Some AllFunctions else choice_by (bytes_of soft.memory path 2) (bytes_of soft.memory path 6)

-- ---- rule 4

-- the functions, by number: those on the bus by device and then by function number, each bridge followed by those below it
abbrev pub chosen : PathChoice → (bus : ℕ) → List BoardLine → List ℕ
chosen AllFunctions bus lines = functions_below lines bus
chosen NoFunction bus lines = []
chosen (OneFunction device function) bus lines = option_map_or (λ number. number ∷ []) (find_at lines (bus, device, function)) []

-- ---- rule 3

-- the verdict on an open of a controller's root bridge I/O by the bus driver
abbrev pub root_verdict : (controller : ℕ) → Soft → Verdict
root_verdict controller soft =
    judge (records_of soft.records.entries controller (known_guid RootBridgeIo)) bus_driver controller BY_DRIVER

-- An open BY_DRIVER takes the place of no other, so the last case never arises.
abbrev pub refusal_by : Verdict → Option Status
refusal_by Add = None
refusal_by Count = None
refusal_by Already = Some ALREADY_STARTED
refusal_by Denied = Some ACCESS_DENIED
refusal_by (MustDisconnect holder) = Some ACCESS_DENIED

abbrev pub unless_open : Option Status → List ℕ → Result (List ℕ) Status
unless_open None numbers = Ok numbers
unless_open (Some status) numbers = Err status

-- ---- all rules

abbrev pub chosen_on : (bus : Option ℕ) → Option PathChoice → (controller : ℕ) → State → Result (List ℕ) Status
chosen_on None choice controller w = Err UNSUPPORTED
chosen_on (Some bus) None controller w = Err UNSUPPORTED
chosen_on (Some bus) (Some choice) controller w =
    unless_open (refusal_by (root_verdict controller w.soft)) (chosen choice bus w.hard.board.lines)

-- the functions that are chosen, or the status that says why the controller is not supported
unfoldable pub functions_chosen : (controller path : ℕ) → State → Result (List ℕ) Status
functions_chosen controller path w = chosen_on (root_bus controller w) (path_choice path w.soft) controller w

-- what Supported answers
abbrev pub support_status : Result (List ℕ) Status → Status
support_status (Ok numbers) = SUCCESS
support_status (Err status) = status
