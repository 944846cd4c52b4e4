-- A new child of the bus: a handle with a device path, with PCI I/O and, if its function has an option ROM,
-- with the bus specific driver override.
use Rattle.std.specs.Prelude.{◌≡◌, ◌<◌, ℕ, ◌+◌, Bool, true, false, ◌||◌, List, [], ◌∷◌, ◌++◌, length, flat_map, replicate, Option, Some, None, is_some, Result, Ok, Err, is_ok, if◌then◌else◌}
use Rattle.std.specs.Option.{option_map_or}
use Rattle.byteorder.specs.Endian.{little_bytes}
use Rattle.fw_types.specs.Guid.{known_guid}
use Rattle.fw_types.specs.declared.guid.Known.TheVariants.{BusOverride, DevicePath, PciIo}
use Rattle.device_path.specs.DevicePath.{end_node, pci_node, root_node}
use Rattle.pci_model.specs.BoardLines.{Location, roots}
use Rattle.pci_model.specs.Ways.{way_to}
use Rattle.pci_model.specs.declared.line.BoardLine.{BoardLine}
use Rattle.guest_memory.specs.declared.address_map.TheConstants.{BUS_GET_DRIVER, PCI_IO_FUNCTIONS}
use Rattle.guest_memory.specs.declared.segment.SegKind.TheVariants.{Firmware}
use Rattle.handle_db.specs.Database.{protocols_of}
use Rattle.handle_db.specs.Installing.{is_full}
use Rattle.service_thunks.specs.Services.{pci_io_functions}
use Rattle.world_model.specs.declared.fault.WorldFault.{WorldFault}
use Rattle.world_model.specs.declared.fault.WorldFault.TheVariants.{Full}
use Rattle.world_model.specs.World.{Soft, State, on_soft}
use Rattle.world_model.specs.Blocks.{are_blocks_full, block_added, block_room, is_block_full}
use Rattle.world_model.specs.Boards.{rom_of, root_at}
use Rattle.world_model.specs.BusChildren.{child_function, child_noted}
use Rattle.world_model.specs.Interfaces.{firmware, install_answer, interface, interface_added}
use Rattle.world_model.specs.Kept.{IsKept, has_pci_io}
use Rattle.world_model.specs.Marks.{stacks}

-- ---- what it has

-- a PCI node for each location (UEFI 2.8, 10.3.2.1: PCI Device Path)
abbrev pub nodes_of : List Location → List ℕ
nodes_of locations = flat_map (λ (location : Location). pci_node location.1 location.2) locations

-- the device path of a function below the root bridge with a _UID: a PCI node for each bridge on the way and
-- for the function
abbrev pub child_path : List BoardLine → (uid function : ℕ) → List ℕ
child_path lines uid function = root_node uid ++ nodes_of (way_to lines function) ++ end_node

-- PCI I/O: the address of each function, and then RomSize and RomImage, which are 0 (UEFI 2.8, 14.4: EFI PCI
-- I/O Protocol)
unfoldable pub pci_io_block : List ℕ
pci_io_block = flat_map (λ entry. little_bytes 8 (PCI_IO_FUNCTIONS + entry.offset)) pci_io_functions ++ replicate 16 0

-- how many bytes it has
abbrev pub pci_io_size : ℕ
pci_io_size = 160

-- the bus specific driver override: the address of GetDriver (UEFI 2.8, 11.6: EFI Bus Specific Driver Override
-- Protocol)
unfoldable pub override_block : List ℕ
override_block = little_bytes 8 BUS_GET_DRIVER

abbrev pub override_size : ℕ
override_size = 8

-- ---- how it is made

-- an interface of the firmware, which is a block of these bytes
abbrev pub block_interface_added : Option ℕ → (guid bytes : List ℕ) → Soft → Soft
block_interface_added handle guid bytes soft =
    interface_added handle (interface guid soft.next_block firmware) (block_added bytes Firmware soft)

-- the bus specific driver override is for a function with an option ROM
abbrev pub override_added : (has_rom : Bool) → (handle : ℕ) → Soft → Soft
override_added false handle soft = soft
override_added true handle soft = block_interface_added (Some handle) (known_guid BusOverride) override_block soft

-- a new handle with a device path, then with PCI I/O, and then with the override
abbrev pub with_path : (path : List ℕ) → Soft → Soft
with_path path soft = block_interface_added None (known_guid DevicePath) path soft

abbrev pub with_pci_io : (path : List ℕ) → Soft → Soft
with_pci_io path soft = block_interface_added (Some soft.database.next) (known_guid PciIo) pci_io_block (with_path path soft)

abbrev pub with_interfaces : (path : List ℕ) → (has_rom : Bool) → Soft → Soft
with_interfaces path has_rom soft = override_added has_rom soft.database.next (with_pci_io path soft)

-- all of a child: its handle with its interfaces, and its function
abbrev pub child_added : (path : List ℕ) → (has_rom : Bool) → (function : ℕ) → Soft → Soft
child_added path has_rom function soft = child_noted soft.database.next function (with_interfaces path has_rom soft)

-- the sizes of its blocks
abbrev pub child_sizes : (path_size : ℕ) → (has_rom : Bool) → List ℕ
child_sizes path_size false = path_size ∷ pci_io_size ∷ []
child_sizes path_size true = path_size ∷ pci_io_size ∷ override_size ∷ []

-- whether it passes a limit: that of handles, or one of blocks
abbrev pub is_child_full : (path_size : ℕ) → (has_rom : Bool) → Soft → Bool
is_child_full path_size has_rom soft = is_full soft.database || are_blocks_full (child_sizes path_size has_rom) soft

-- ---- a child of a root bridge

-- the _UID of the root bridge of a handle
abbrev pub root_uid : (controller : ℕ) → State → ℕ
root_uid controller w = option_map_or (λ bridge. bridge.0) (root_at controller (roots w.hard.board.lines)) 0

abbrev pub path_below : (controller function : ℕ) → State → List ℕ
path_below controller function w = child_path w.hard.board.lines (root_uid controller w) function

abbrev pub has_rom : (function : ℕ) → State → Bool
has_rom function w = is_some (rom_of function w.hard)

-- what making a child of a root bridge answers: its handle, which is a new one
abbrev pub child_answer : (controller function : ℕ) → State → Result ℕ WorldFault
child_answer controller function w =
    if is_child_full (length (path_below controller function w)) (has_rom function w) w.soft then Err Full else Ok w.soft.database.next

abbrev pub child_made : (controller function : ℕ) → State → State
child_made controller function w = on_soft (child_added (path_below controller function w) (has_rom function w) function) w

-- ---- laws

-- nothing refuses a child: there is room for each of its blocks, and each of its interfaces is accepted; its
-- handle, which is not yet a child's, has PCI I/O of the firmware
pub record IsChildPossible (path : List ℕ) (has_rom : Bool) (soft : Soft) : Type 0 where
  pub path_room : is_block_full (length path) soft ≡ false
  pub path_accepted : is_ok (install_answer None (known_guid DevicePath) soft) ≡ true
  pub pci_io_room : is_block_full pci_io_size (with_path path soft) ≡ false
  pub pci_io_accepted : is_ok (install_answer (Some soft.database.next) (known_guid PciIo) (with_path path soft)) ≡ true
  pub override_room : has_rom ≡ true → is_block_full override_size (with_pci_io path soft) ≡ false
  pub override_accepted : is_ok (install_answer (Some soft.database.next) (known_guid BusOverride) (with_pci_io path soft)) ≡ true
  pub pci_io_there : has_pci_io soft.database.next (with_interfaces path has_rom soft).database ≡ true
  pub handle_new : child_function soft.database.next soft ≡ None

-- if it passes no limit
abbrev pub ChildIsPossible : Type 0
ChildIsPossible =
    (soft : Soft) (path : List ℕ) (has_rom : Bool) → IsKept soft → is_child_full (length path) has_rom soft ≡ false → IsChildPossible path has_rom soft

-- the blocks of PCI I/O and of the override have their sizes
abbrev pub BlocksHaveSizes : Type 0
BlocksHaveSizes = (length pci_io_block ≡ pci_io_size) × (length override_block ≡ override_size)

-- the interfaces of a child, in order, whose blocks lie one after the other from an address on
abbrev pub child_protocols : (at : ℕ) → (path_size : ℕ) → (has_rom : Bool) → List (List ℕ × ℕ × ℕ)
child_protocols at path_size false = (known_guid DevicePath, at, firmware) ∷ (known_guid PciIo, at + block_room path_size, firmware) ∷ []
child_protocols at path_size true =
    (known_guid DevicePath, at, firmware)
    ∷ (known_guid PciIo, at + block_room path_size, firmware)
    ∷ (known_guid BusOverride, at + block_room path_size + pci_io_size, firmware)
    ∷ []

-- a child that is made has its interfaces, and its function if that is one of the board
abbrev pub ChildHasInterfaces : Type 0
ChildHasInterfaces =
    (soft : Soft) (path : List ℕ) (has_rom : Bool) (function : ℕ) → IsKept soft
    → protocols_of soft.database.next (child_added path has_rom function soft).database ≡ child_protocols soft.next_block (length path) has_rom

abbrev pub ChildHasFunction : Type 0
ChildHasFunction =
    (soft : Soft) (path : List ℕ) (has_rom : Bool) (function : ℕ) → IsKept soft → function < length soft.bus_lists
    → child_function soft.database.next (child_added path has_rom function soft) ≡ Some function

-- which levels have a stack does not change
abbrev pub ChildKeepsStacks : Type 0
ChildKeepsStacks =
    (soft : Soft) (path : List ℕ) (has_rom : Bool) (function : ℕ) → stacks (child_added path has_rom function soft) ≡ stacks soft
