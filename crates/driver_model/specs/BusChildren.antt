-- The children of the PCI bus driver: the handle that it makes for a function, and what is below a root bridge (UEFI 2.8,
-- 14.3.2: PCI Bus Drivers).
use Rattle.std.specs.Prelude.{ℕ, Bool, false, ◌||◌, not, nat_eq, is_ok, List, [], ◌∷◌, Option, Some, None, if◌then◌else◌}
use Rattle.std.specs.Option.{option_map_or}
use Rattle.fw_types.specs.Guid.{known_guid}
use Rattle.fw_types.specs.declared.attr.TheConstants.Attr.{BY_CHILD_CONTROLLER, BY_DRIVER}
use Rattle.fw_types.specs.declared.guid.Known.TheVariants.{BusOverride, DevicePath, PciIo, RootBridgeIo}
use Rattle.handle_db.specs.Database.{interface_of}
use Rattle.open_records.specs.Adding.{is_full}
use Rattle.pci_model.specs.Below.{first_bus}
use Rattle.world_model.specs.World.{Soft, State, on_soft}
use Rattle.guest_memory.specs.declared.segment.SegKind.TheVariants.{Firmware}
use Rattle.world_model.specs.Blocks.{block_freed, free_answer}
use Rattle.world_model.specs.Boards.{root_bus}
use Rattle.world_model.specs.BusChildren.{child_function}
use Rattle.world_model.specs.Interfaces.{bus_driver, firmware}
use Rattle.world_model.specs.NewChild.{child_answer, child_made}
use Rattle.world_model.specs.Records.{record_entered}
use Rattle.service_model.specs.declared.call.HandleInterface.{HandleInterface}

-- ---- opens of root bridge I/O by the bus driver

abbrev pub root_entered : (controller child attr : ℕ) → Soft → Soft
root_entered controller child attr soft = record_entered controller (known_guid RootBridgeIo) bus_driver child attr soft

-- whether there is no room for one more record
abbrev pub is_root_record_full : (controller child attr : ℕ) → Soft → Bool
is_root_record_full controller child attr soft = is_full controller (known_guid RootBridgeIo) bus_driver child attr soft.records

-- Start opens it for the controller itself
abbrev pub root_opened : (controller : ℕ) → Soft → Soft
root_opened controller soft = root_entered controller controller BY_DRIVER soft

abbrev pub is_root_full : (controller : ℕ) → Soft → Bool
is_root_full controller soft = is_root_record_full controller controller BY_DRIVER soft

-- ---- a child

-- the state with a new handle for a function, and with root bridge I/O opened for the handle
abbrev pub bus_child_made : (controller function : ℕ) → State → State
bus_child_made controller function w =
    on_soft (root_entered controller w.soft.database.next BY_CHILD_CONTROLLER) (child_made controller function w)

-- whether that meets a limit: of handles, of blocks or of open records
abbrev pub is_bus_child_full : (controller function : ℕ) → State → Bool
is_bus_child_full controller function w =
    not (is_ok (child_answer controller function w)) || is_root_record_full controller w.soft.database.next BY_CHILD_CONTROLLER w.soft

-- ---- what Stop takes away

-- whether a function is on the bus of a root bridge or below it
abbrev pub is_below : Option ℕ → Option ℕ → State → Bool
is_below None function w = false
is_below (Some bus) None w = false
is_below (Some bus) (Some number) w = option_map_or (nat_eq bus) (first_bus w.hard.board.lines number) false

-- whether a handle is a child of the bus, and the controller is the root bridge above it
abbrev pub is_child_of : (controller child : ℕ) → State → Bool
is_child_of controller child w = is_below (root_bus controller w) (child_function child w.soft) w

-- the address of the firmware's interface of a protocol, or 0; an interface of another owner counts as absent
abbrev pub firmware_address : Option (ℕ × ℕ) → ℕ
firmware_address None = 0
firmware_address (Some found) = if nat_eq found.1 firmware then found.0 else 0

abbrev pub interface_to_go : (child : ℕ) → (guid : List ℕ) → Soft → HandleInterface
interface_to_go child guid soft = record { handle = child; guid = guid; interface = firmware_address (interface_of child guid soft.database) }

-- whether an interface is there, and is the firmware's
abbrev pub has_of_firmware : Option (ℕ × ℕ) → Bool
has_of_firmware None = false
has_of_firmware (Some found) = nat_eq found.1 firmware

-- the bus specific driver override, if the child has one
abbrev pub override_to_go : (child : ℕ) → Soft → List HandleInterface
override_to_go child soft =
    if has_of_firmware (interface_of child (known_guid BusOverride) soft.database)
    then interface_to_go child (known_guid BusOverride) soft ∷ [] else []

-- PCI I/O, then the device path, then the bus specific driver override
abbrev pub interfaces_to_go : (child : ℕ) → Soft → List HandleInterface
interfaces_to_go child soft =
    interface_to_go child (known_guid PciIo) soft ∷ interface_to_go child (known_guid DevicePath) soft ∷ override_to_go child soft

-- a block of the firmware is freed, if one begins at the address
abbrev pub firmware_block_freed : (at : ℕ) → Soft → Soft
firmware_block_freed at soft = if is_ok (free_answer at Firmware soft) then block_freed at soft else soft
