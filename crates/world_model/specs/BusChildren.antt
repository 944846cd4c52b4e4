-- Children of the PCI bus: handles with PCI I/O (UEFI 2.8, 14.4: EFI PCI I/O Protocol), to each of which a
-- function of the board belongs; and the option ROMs that were processed.
use Rattle.std.specs.Prelude.{ℕ, min, Bool, not, nat_eq, nat_lt, bytes_eq, List, [], ◌∷◌, ◌++◌, length, map, filter, find, slice_get, slice_set, Option, Some, None, is_some, option_map, unwrap_or, if◌then◌else◌}
use Rattle.std.specs.List.{reduce}
use Rattle.std.specs.Option.{option_map_or}
use Rattle.fw_types.specs.Guid.{known_guid}
use Rattle.fw_types.specs.declared.guid.Known.TheVariants.{PciIo}
use Rattle.handle_db.specs.Database.{Database, interface_of}
use Rattle.world_model.specs.declared.bus_child.BusChild.{BusChild}
use Rattle.world_model.specs.World.{Soft}

-- ---- looking

abbrev pub is_child : (handle : ℕ) → BusChild → Bool
is_child handle child = nat_eq child.handle handle

abbrev pub is_of_function : (function : ℕ) → BusChild → Bool
is_of_function function child = nat_eq child.function function

-- whether a child's PCI I/O is at an address
abbrev pub is_pci_io : (this : ℕ) → BusChild → Bool
is_pci_io this child = nat_eq child.pci_io this

-- the function of a handle, if it is among children
abbrev pub function_of : (handle : ℕ) → List BusChild → Option ℕ
function_of handle children = option_map (λ child. child.function) (find (is_child handle) children)

-- the least handle of the children of a function
abbrev pub first_child : (function : ℕ) → List BusChild → Option ℕ
first_child function children = reduce min (map (λ child. child.handle) (filter (is_of_function function) children))

-- the function of the child whose PCI I/O is at an address
abbrev pub function_at : (this : ℕ) → List BusChild → Option ℕ
function_at this children = option_map (λ child. child.function) (find (is_pci_io this) children)

-- the function of a handle, if it is a child of the bus
abbrev pub child_function : (handle : ℕ) → Soft → Option ℕ
child_function handle soft = function_of handle soft.bus_children

-- the child of a function with the least handle, if there is one
abbrev pub child_of : (function : ℕ) → Soft → Option ℕ
child_of function soft = first_child function soft.bus_children

-- the function of the child whose PCI I/O is at an address, if there is one
abbrev pub pci_at : (this : ℕ) → Soft → Option ℕ
pci_at this soft = function_at this soft.bus_children

-- ---- making and leaving

-- the address of a handle's PCI I/O
abbrev pub pci_io_of : (handle : ℕ) → Database → ℕ
pci_io_of handle db = option_map_or (λ found. found.0) (interface_of handle (known_guid PciIo) db) 0

-- A function becomes that of a handle, until the handle's PCI I/O is removed. A number that is not that of a
-- function of the board changes nothing: there is a bus list for each function.
abbrev pub child_noted : (handle function : ℕ) → Soft → Soft
child_noted handle function soft =
    if nat_lt function (length soft.bus_lists)
    then record soft {
      bus_children = soft.bus_children ++ record { handle = handle; pci_io = pci_io_of handle soft.database; function = function } ∷ [];
    }
    else soft

-- children without the one of a handle
abbrev pub without_child : (handle : ℕ) → List BusChild → List BusChild
without_child handle children = filter (λ (child : BusChild). not (nat_eq child.handle handle)) children

-- the children of the bus after a handle's interface of a protocol is removed
abbrev pub children_left : (handle : ℕ) → (guid : List ℕ) → List BusChild → List BusChild
children_left handle guid children = if bytes_eq guid (known_guid PciIo) then without_child handle children else children

-- ---- option ROMs

-- the images that a function's option ROM brought, if it was processed
abbrev pub rom_images : (function : ℕ) → Soft → Option (List ℕ)
rom_images function soft = unwrap_or (slice_get soft.bus_lists function) None

-- whether the option ROM of a function was processed
abbrev pub rom_done : (function : ℕ) → Soft → Bool
rom_done function soft = is_some (rom_images function soft)

-- the bus list of a function: the images that its option ROM brought, in order; none before it is processed
abbrev pub bus_list : (function : ℕ) → Soft → List ℕ
bus_list function soft = unwrap_or (rom_images function soft) []

-- the option ROM of a function was processed, and brought these images
abbrev pub with_bus_list : (function : ℕ) → (images : List ℕ) → Soft → Soft
with_bus_list function images soft = record soft { bus_lists = slice_set soft.bus_lists function (Some images) }
