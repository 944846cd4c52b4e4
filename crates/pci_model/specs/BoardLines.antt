-- A board by its lines: what is looked up in them (PCI Firmware 3.2; PCI Local Bus 3.0, 6: Configuration Space).
use Rattle.std.specs.Prelude.{ℕ, ◌/◌, ◌%◌, List, filter, Bool, false, ◌&&◌, nat_eq, Option, Some, None, option_map, option_and_then, if◌then◌else◌}
use Rattle.std.specs.List.{filter_map, list_any, position, range_with_len, slice_get}
use Rattle.std.specs.Option.{option_map_or}
use Rattle.pci_model.specs.declared.numbers.TheConstants.{BRIDGE_CLASS}
use Rattle.pci_model.specs.declared.line.BoardLine.{BoardLine}
use Rattle.pci_model.specs.declared.line.BoardLine.TheVariants.{Root, Func, Bridge, Bar, Rom}
use Rattle.pci_model.specs.declared.function.Function.{Function}
use Rattle.pci_model.specs.declared.function.BarRange.{BarRange}

-- where a function is: its bus, its device number and its function number
abbrev pub Location : Type 0
Location = ℕ × ℕ × ℕ

abbrev pub is_at : Location → Location → Bool
is_at location other = nat_eq location.0 other.0 && nat_eq location.1 other.1 && nat_eq location.2 other.2

-- ---- what a line gives

-- the _UID of a root bridge, and its bus
abbrev pub root_of : BoardLine → Option (ℕ × ℕ)
root_of (Root uid bus) = Some (uid, bus)
root_of (Func bus device function vendor id class) = None
root_of (Bridge bus device function vendor id secondary) = None
root_of (Bar bus device function index address size) = None
root_of (Rom bus device function name) = None

-- a function. Only a bridge has a bus below it, whatever the class of another function
abbrev pub function_of : BoardLine → Option Function
function_of (Root uid bus) = None
function_of (Func bus device function vendor id class) =
    Some (record { location = (bus, device, function); vendor = vendor; id = id; class = class; secondary = None })
function_of (Bridge bus device function vendor id secondary) =
    Some (record { location = (bus, device, function); vendor = vendor; id = id; class = BRIDGE_CLASS; secondary = Some secondary })
function_of (Bar bus device function index address size) = None
function_of (Rom bus device function name) = None

-- a BAR
abbrev pub range_of : BoardLine → Option BarRange
range_of (Root uid bus) = None
range_of (Func bus device function vendor id class) = None
range_of (Bridge bus device function vendor id secondary) = None
range_of (Bar bus device function index address size) =
    Some (record { location = (bus, device, function); index = index; address = address; size = size })
range_of (Rom bus device function name) = None

-- where the function of a ROM is
abbrev pub rom_location : BoardLine → Option Location
rom_location (Root uid bus) = None
rom_location (Func bus device function vendor id class) = None
rom_location (Bridge bus device function vendor id secondary) = None
rom_location (Bar bus device function index address size) = None
rom_location (Rom bus device function name) = Some (bus, device, function)

-- the name of the file of a ROM, if it is that of the function at a location
abbrev pub name_at : Location → BoardLine → Option (List ℕ)
name_at location (Root uid bus) = None
name_at location (Func bus device function vendor id class) = None
name_at location (Bridge bus device function vendor id secondary) = None
name_at location (Bar bus device function index address size) = None
name_at location (Rom bus device function name) = if is_at (bus, device, function) location then Some name else None

-- the bus that a root bridge or a bridge declares
abbrev pub declared_bus : BoardLine → Option ℕ
declared_bus (Root uid bus) = Some bus
declared_bus (Func bus device function vendor id class) = None
declared_bus (Bridge bus device function vendor id secondary) = Some secondary
declared_bus (Bar bus device function index address size) = None
declared_bus (Rom bus device function name) = None

-- where the function is whose BAR or ROM a line gives
abbrev pub part_location : BoardLine → Option Location
part_location (Root uid bus) = None
part_location (Func bus device function vendor id class) = None
part_location (Bridge bus device function vendor id secondary) = None
part_location (Bar bus device function index address size) = Some (bus, device, function)
part_location (Rom bus device function name) = Some (bus, device, function)

-- where the function is that a line gives, or whose BAR or ROM it gives
abbrev pub named_location : BoardLine → Option Location
named_location (Root uid bus) = None
named_location (Func bus device function vendor id class) = Some (bus, device, function)
named_location (Bridge bus device function vendor id secondary) = Some (bus, device, function)
named_location (Bar bus device function index address size) = Some (bus, device, function)
named_location (Rom bus device function name) = Some (bus, device, function)

-- ---- what lines give together

-- the _UID and the bus of each root bridge, in line order
abbrev pub roots : List BoardLine → List (ℕ × ℕ)
roots lines = filter_map root_of lines

-- the functions, in line order: a function's place in this list, from 0, is its number
abbrev pub functions : List BoardLine → List Function
functions lines = filter_map function_of lines

-- whether a line declares a bus
abbrev pub declares : ℕ → BoardLine → Bool
declares bus line = option_map_or (nat_eq bus) (declared_bus line) false

-- whether a bus is declared
abbrev pub has_bus : List BoardLine → ℕ → Bool
has_bus lines bus = list_any (declares bus) lines

-- the number of the function at a location, if one is there
abbrev pub find_at : List BoardLine → Location → Option ℕ
find_at lines location = position (λ function. is_at function.location location) (functions lines)

-- where a function is
abbrev pub location_of : List BoardLine → ℕ → Option Location
location_of lines number = option_map (λ function. function.location) (slice_get (functions lines) number)

-- the bus below a function, if it is a bridge
abbrev pub secondary_of : List BoardLine → ℕ → Option ℕ
secondary_of lines number = option_and_then (λ function. function.secondary) (slice_get (functions lines) number)

-- the BARs of the function at a location
abbrev pub ranges_at : List BoardLine → Location → List BarRange
ranges_at lines location = filter (λ range. is_at range.location location) (filter_map range_of lines)

-- the name of the file of a function's ROM, if it has one
abbrev pub rom_name_of : List BoardLine → ℕ → Option (List ℕ)
rom_name_of lines number =
    option_and_then (λ location. slice_get (filter_map (name_at location) lines) 0) (location_of lines number)

-- the positions on a bus: PCI counts the 8 functions of each of its 32 devices as one number of 8 bits
unfoldable pub positions_on_bus : List ℕ
positions_on_bus = range_with_len 0 256

-- the numbers of the functions at positions on a bus
abbrev pub functions_at : List BoardLine → ℕ → List ℕ → List ℕ
functions_at lines bus positions = filter_map (λ at. find_at lines (bus, at / 8, at % 8)) positions

-- the functions on a bus, by device, then by function number
abbrev pub functions_on : List BoardLine → ℕ → List ℕ
functions_on lines bus = functions_at lines bus positions_on_bus
