-- Which lines are a board: the rules of its lines.
use Rattle.std.specs.Prelude.{ℕ, ◌+◌, ◌%◌, List, [], ◌∷◌, ◌++◌, length, find, Bool, false, ◌&&◌, ◌||◌, not, nat_eq, nat_lt, nat_le, Option, Some, None, is_none, is_some, option_map, if◌then◌else◌}
use Rattle.std.specs.List.{filter_map, list_any}
use Rattle.std.specs.Option.{option_map_or}
use Rattle.std.specs.Int.{is_power_of_two}
use Rattle.pci_model.specs.BoardLines.{Location, declared_bus, find_at, function_of, functions, has_bus, is_at, named_location, part_location, range_of, rom_location, root_of, roots}
use Rattle.pci_model.specs.declared.numbers.TheConstants.{HIGHEST_BAR, HIGHEST_BRIDGE_BAR, HIGHEST_CLASS, HIGHEST_DEVICE, HIGHEST_FUNCTION, HIGHEST_VENDOR, LARGEST_BAR, MOST_FUNCTIONS, MOST_ROOTS, SMALLEST_BAR}
use Rattle.pci_model.specs.declared.line.BoardLine.{BoardLine}
use Rattle.pci_model.specs.declared.function.Function.{Function}
use Rattle.pci_model.specs.declared.function.BarRange.{BarRange}
use Rattle.pci_model.specs.declared.fault.LineFault.{LineFault}
use Rattle.pci_model.specs.declared.fault.LineFault.TheVariants.{Extra, Number, Duplicate}
use Rattle.pci_model.specs.declared.fault.BoardFault.{BoardFault}
use Rattle.pci_model.specs.declared.fault.BoardFault.TheVariants as board

-- ---- the tests: what a line must not be, given the lines before it

-- a 17th root bridge
abbrev pub is_extra_root : List BoardLine → BoardLine → Bool
is_extra_root before line = is_some (root_of line) && nat_le MOST_ROOTS (length (roots before))

-- a 257th function
abbrev pub is_extra_function : List BoardLine → BoardLine → Bool
is_extra_function before line = is_some (function_of line) && nat_le MOST_FUNCTIONS (length (functions before))

-- a device number over 31, or a function number over 7
abbrev pub is_off_bus : Location → Bool
is_off_bus location = nat_lt HIGHEST_DEVICE location.1 || nat_lt HIGHEST_FUNCTION location.2

abbrev pub has_bad_location : BoardLine → Bool
has_bad_location line = option_map_or is_off_bus (named_location line) false

-- a function of the vendor 0xFFFF, which is no vendor
abbrev pub has_bad_vendor : BoardLine → Bool
has_bad_vendor line = option_map_or (λ function. nat_lt HIGHEST_VENDOR function.vendor) (function_of line) false

-- a class of more than 24 bits
abbrev pub has_bad_class : BoardLine → Bool
has_bad_class line = option_map_or (λ function. nat_lt HIGHEST_CLASS function.class) (function_of line) false

-- a bridge to bus 0
abbrev pub leads_to_bus_0 : BoardLine → Bool
leads_to_bus_0 line =
    option_map_or (λ function. option_map_or (nat_eq 0) function.secondary false) (function_of line) false

-- a function on a bus that is not declared
abbrev pub is_on_undeclared_bus : List BoardLine → BoardLine → Bool
is_on_undeclared_bus before line = option_map_or (λ function. not (has_bus before function.location.0)) (function_of line) false

-- a BAR or a ROM of a function that is not there
abbrev pub is_of_no_function : List BoardLine → BoardLine → Bool
is_of_no_function before line = option_map_or (λ location. is_none (find_at before location)) (part_location line) false

-- whether the function at a location is a bridge
abbrev pub is_bridge_at : Location → Function → Bool
is_bridge_at location function = is_at function.location location && is_some function.secondary

abbrev pub has_bridge : List BoardLine → Location → Bool
has_bridge lines location = list_any (is_bridge_at location) (functions lines)

-- the highest index of a BAR of the function at a location: 1 for a bridge, 5 for another
abbrev pub highest_index : List BoardLine → Location → ℕ
highest_index lines location = if has_bridge lines location then HIGHEST_BRIDGE_BAR else HIGHEST_BAR

-- a BAR of a higher index
abbrev pub has_bad_index : List BoardLine → BoardLine → Bool
has_bad_index before line =
    option_map_or (λ range. nat_lt (highest_index before range.location) range.index) (range_of line) false

-- a BAR whose size is no power of two from 16 to 65,536
abbrev pub has_bad_size : BarRange → Bool
has_bad_size range = not (is_power_of_two range.size) || nat_lt range.size SMALLEST_BAR || nat_lt LARGEST_BAR range.size

-- a BAR with such a size, or whose address is no multiple of its size
abbrev pub has_bad_range : BoardLine → Bool
has_bad_range line =
    option_map_or (λ range. has_bad_size range || not (nat_eq (range.address % range.size) 0)) (range_of line) false

-- a bus that is declared already
abbrev pub repeats_bus : List BoardLine → BoardLine → Bool
repeats_bus before line = option_map_or (has_bus before) (declared_bus line) false

-- a function at a location that already has one
abbrev pub repeats_function : List BoardLine → BoardLine → Bool
repeats_function before line = option_map_or (λ function. is_some (find_at before function.location)) (function_of line) false

-- whether the function of a BAR has one of the same index
abbrev pub is_same_bar : BarRange → BarRange → Bool
is_same_bar range other = is_at other.location range.location && nat_eq other.index range.index

abbrev pub has_bar : List BoardLine → BarRange → Bool
has_bar lines range = list_any (is_same_bar range) (filter_map range_of lines)

-- a BAR with an index that another BAR of the function has already
abbrev pub repeats_bar : List BoardLine → BoardLine → Bool
repeats_bar before line = option_map_or (has_bar before) (range_of line) false

-- whether the function at a location has a ROM
abbrev pub has_rom : List BoardLine → Location → Bool
has_rom lines location = list_any (λ other. is_at other location) (filter_map rom_location lines)

-- a ROM of a function that has one already
abbrev pub repeats_rom : List BoardLine → BoardLine → Bool
repeats_rom before line = option_map_or (has_rom before) (rom_location line) false

-- ---- the table

-- a test, and the fault of a line for which it holds
pub record Rule : Type 0 where
  pub breaks : List BoardLine → BoardLine → Bool
  pub fault : LineFault

-- the rules, in the order in which they count
abbrev pub rules : List Rule
rules =
    record { breaks = is_extra_root; fault = Extra }
    ∷ record { breaks = is_extra_function; fault = Extra }
    ∷ record { breaks = λ before line. has_bad_location line; fault = Number }
    ∷ record { breaks = λ before line. has_bad_vendor line; fault = Number }
    ∷ record { breaks = λ before line. has_bad_class line; fault = Number }
    ∷ record { breaks = λ before line. leads_to_bus_0 line; fault = Number }
    ∷ record { breaks = is_on_undeclared_bus; fault = Number }
    ∷ record { breaks = is_of_no_function; fault = Number }
    ∷ record { breaks = has_bad_index; fault = Number }
    ∷ record { breaks = λ before line. has_bad_range line; fault = Number }
    ∷ record { breaks = repeats_bus; fault = Duplicate }
    ∷ record { breaks = repeats_function; fault = Duplicate }
    ∷ record { breaks = repeats_bar; fault = Duplicate }
    ∷ record { breaks = repeats_rom; fault = Duplicate }
    ∷ []

-- what is wrong with a line, given the lines before it: the first rule that it breaks
unfoldable pub line_fault : List BoardLine → BoardLine → Option LineFault
line_fault before line = option_map (λ rule. rule.fault) (find (λ rule. rule.breaks before line) rules)

-- ---- the lines of a board

-- the fault of a board, for this fault on a line
abbrev pub fault_on : LineFault → ℕ → BoardFault
fault_on Extra line = board.Extra line
fault_on Number line = board.Number line
fault_on Duplicate line = board.Duplicate line

-- the fault of a line, or otherwise that of the lines after it
abbrev pub fault_or : Option LineFault → ℕ → Option BoardFault → Option BoardFault
fault_or None line later = later
fault_or (Some fault) line later = Some (fault_on fault line)

-- what is wrong with lines, given those before them
abbrev pub fault_after : List BoardLine → List BoardLine → Option BoardFault
fault_after before [] = None
fault_after before (line ∷ lines) =
    fault_or (line_fault before line) (length before + 1) (fault_after (before ++ line ∷ []) lines)

-- why lines are no board: the fault of the first line that has one
unfoldable pub board_fault : List BoardLine → Option BoardFault
board_fault lines = fault_after [] lines
