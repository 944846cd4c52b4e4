-- Children of the bus and what is known of them.
use Rattle.std.specs.Prelude.{◌≡◌, ℕ, ◌<◌, true, List, length, Option, Some, None}
use Rattle.fw_types.specs.Guid.{known_guid}
use Rattle.fw_types.specs.declared.guid.Known.TheVariants.{PciIo}
use Rattle.handle_db.specs.Database.{interface_of}
use Rattle.pci_model.specs.BoardLines.{functions}
use Rattle.pci_model.specs.Devices.{BoardState}
use Rattle.world_model.specs.World.{Soft, State}
use Rattle.world_model.specs.BusChildren.{bus_list, child_function, pci_at, rom_done, with_bus_list}
use Rattle.world_model.specs.Interfaces.{firmware, interface_removed}
use Rattle.world_model.specs.Kept.{IsKept}
use Rattle.world_model.specs.Opening.{opening}

-- a child of the bus, with its PCI I/O and its function
pub record IsChild (handle this function : ℕ) (soft : Soft) : Type 0 where
  pub function_is : child_function handle soft ≡ Some function
  pub pci_io : interface_of handle (known_guid PciIo) soft.database ≡ Some (this, firmware)
  pub on_board : function < length soft.bus_lists

-- a handle with a function has PCI I/O of the firmware
abbrev pub FunctionIsOfChild : Type 0
FunctionIsOfChild = (soft : Soft) (handle function : ℕ) → IsKept soft → child_function handle soft ≡ Some function → (this : ℕ) × IsChild handle this function soft

-- a function that is found by the address of PCI I/O is that of a child
abbrev pub PciIoIsOfChild : Type 0
PciIoIsOfChild = (soft : Soft) (this function : ℕ) → IsKept soft → pci_at this soft ≡ Some function → (handle : ℕ) × IsChild handle this function soft

-- a handle without its PCI I/O is no child
abbrev pub RemovingForgets : Type 0
RemovingForgets = (soft : Soft) (handle : ℕ) → child_function handle (interface_removed handle (known_guid PciIo) soft) ≡ None

-- an option ROM that was processed has its images
abbrev pub BusListIsSet : Type 0
BusListIsSet =
    (soft : Soft) (function : ℕ) (images : List ℕ) → function < length soft.bus_lists
    → (bus_list function (with_bus_list function images soft) ≡ images) × (rom_done function (with_bus_list function images soft) ≡ true)

-- ---- the board

-- whether there is a bus list for each function of the board
abbrev pub HasBusLists : State → Type 0
HasBusLists w = length w.soft.bus_lists ≡ length (functions w.hard.board.lines)

abbrev pub OpeningHasBusLists : Type 0
OpeningHasBusLists =
    (board : BoardState) (roms : List (Option (List ℕ))) → length roms ≡ length (functions board.lines) → HasBusLists (opening board roms).now
