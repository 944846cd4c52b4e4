-- What holds of boards: the laws of their lines, and of what is written to their devices.
use Rattle.std.specs.Prelude.{◌≡◌, ◌≢◌, ◌≤◌, ◌<◌, ◌+◌, ◌-◌, ◌^◌, ℕ, List, [], ◌∷◌, ◌++◌, length, Bool, true, ◌&&◌, nat_eq, nat_le, nat_lt, slice_index, Some, None, Ok, if◌then◌else◌}
use Rattle.std.specs.List.{list_any, filter_map}
use Rattle.byteorder.specs.Endian.{little_bytes}
use Rattle.pci_model.specs.BoardLines.{Location, find_at, functions, functions_on, location_of, name_at, roots}
use Rattle.pci_model.specs.BoardRules.{board_fault, fault_on, line_fault}
use Rattle.fw_types.specs.Layout.{put}
use Rattle.pci_model.specs.Devices.{BoardState, IsSound, bar_read, bar_refusal, bar_written, config_after, config_read, config_written, writable_places}
use Rattle.pci_model.specs.declared.numbers.TheConstants.{CONFIG_SIZE, MOST_FUNCTIONS, MOST_ROOTS}
use Rattle.pci_model.specs.declared.line.BoardLine.{BoardLine}
use Rattle.pci_model.specs.declared.line.BoardLine.TheVariants.{Rom}
use Rattle.pci_model.specs.declared.fault.LineFault.{LineFault}
use Rattle.pci_model.specs.declared.fault.BoardFault.{BoardFault}

-- ---- lines

-- a line has a fault, and none of those before it has one
pub record IsRefusedFor (lines : List BoardLine) (fault : BoardFault) : Type 0 where
  pub before : List BoardLine
  pub line : BoardLine
  pub after : List BoardLine
  pub kind : LineFault
  pub whole : lines ≡ before ++ line ∷ after
  pub board : board_fault before ≡ None
  pub here : line_fault before line ≡ Some kind
  pub fault_is : fault ≡ fault_on kind (length before + 1)

-- lines that are no board are refused for the first line that has a fault
abbrev pub RefusedAtFirst : Type 0
RefusedAtFirst = (lines : List BoardLine) (fault : BoardFault) → board_fault lines ≡ Some fault → IsRefusedFor lines fault

-- each line of a board has no fault, given the lines before it
abbrev pub EachPasses : Type 0
EachPasses = (before after : List BoardLine) (line : BoardLine) → board_fault (before ++ line ∷ after) ≡ None → line_fault before line ≡ None

-- no lines are a board; and if lines are a board and one more has no fault after them, they are a board
-- with it
abbrev pub NoLines : Type 0
NoLines = board_fault [] ≡ None

abbrev pub OneMorePasses : Type 0
OneMorePasses = (before : List BoardLine) (line : BoardLine) → board_fault before ≡ None → line_fault before line ≡ None → board_fault (before ++ line ∷ []) ≡ None

-- a board has at most 16 roots and 256 functions, and so at most 2,064 lines
abbrev pub FewRoots : Type 0
FewRoots = (lines : List BoardLine) → board_fault lines ≡ None → length (roots lines) ≤ MOST_ROOTS

abbrev pub FewFunctions : Type 0
FewFunctions = (lines : List BoardLine) → board_fault lines ≡ None → length (functions lines) ≤ MOST_FUNCTIONS

abbrev pub FewLines : Type 0
FewLines = (lines : List BoardLine) → board_fault lines ≡ None → length lines ≤ 2064

-- ---- locations

-- each function of a board is found at its location, so that no two are at one location
abbrev pub FoundAtLocation : Type 0
FoundAtLocation = (lines : List BoardLine) (number : ℕ) (location : Location) → board_fault lines ≡ None → location_of lines number ≡ Some location → find_at lines location ≡ Some number

-- what is found at a location is there
abbrev pub IsWhereFound : Type 0
IsWhereFound = (lines : List BoardLine) (number : ℕ) (location : Location) → find_at lines location ≡ Some number → location_of lines number ≡ Some location

-- each function of a board is among the functions of its bus
abbrev pub AmongItsBus : Type 0
AmongItsBus = (lines : List BoardLine) (number : ℕ) (location : Location) → board_fault lines ≡ None → location_of lines number ≡ Some location → list_any (nat_eq number) (functions_on lines location.0) ≡ true

-- and each function in that list is on the bus
abbrev pub OnlyOfBus : Type 0
OnlyOfBus = (lines : List BoardLine) (number bus : ℕ) → list_any (nat_eq number) (functions_on lines bus) ≡ true
    → (location : Location) × ((location_of lines number ≡ Some location) × (location.0 ≡ bus))

-- ---- option ROMs

-- if a line names the ROM of a function, no line before it names that ROM
abbrev pub RomIsNew : Type 0
RomIsNew =
    (before after : List BoardLine) (bus device function : ℕ) (name : List ℕ) → board_fault (before ++ Rom bus device function name ∷ after) ≡ None
    → filter_map (name_at (bus, device, function)) before ≡ []

-- ---- writes

-- whether bytes that are written from a place on reach another
abbrev pub is_reached : (at size place : ℕ) → Bool
is_reached at size place = nat_le at place && nat_lt place (at + size)

-- a write to configuration space changes the bytes that it reaches and that can be written, and no other
abbrev pub ConfigByte : Type 0
ConfigByte = (at place : ℕ) (bytes config : List ℕ) → length config ≡ CONFIG_SIZE → slice_index (config_after at bytes config) place
    ≡ (if list_any (nat_eq place) writable_places && is_reached at (length bytes) place then slice_index bytes (place - at) else slice_index config place)

-- a write to a BAR changes the bytes that it reaches, and no other
abbrev pub BarByte : Type 0
BarByte = (at place : ℕ) (bytes bar : List ℕ) → at + length bytes ≤ length bar → slice_index (put at bytes bar) place
    ≡ (if is_reached at (length bytes) place then slice_index bytes (place - at) else slice_index bar place)

-- what is written to configuration space is not read in another function, nor in a BAR
abbrev pub ConfigApart : Type 0
ConfigApart = (board : BoardState) (number other at from n : ℕ) (bytes : List ℕ) → number ≢ other → config_read (config_written number at bytes board) other from n ≡ config_read board other from n

abbrev pub ConfigNotBar : Type 0
ConfigNotBar = (board : BoardState) (number other index at from n : ℕ) (bytes : List ℕ) → bar_read (config_written number at bytes board) other index from n ≡ bar_read board other index from n

-- what is written to a BAR is not read in another BAR, nor in another function, nor in configuration space
abbrev pub BarApart : Type 0
BarApart = (board : BoardState) (number index other at from n : ℕ) (bytes : List ℕ) → index ≢ other → bar_read (bar_written number index at bytes board) number other from n ≡ bar_read board number other from n

abbrev pub BarsApart : Type 0
BarsApart = (board : BoardState) (number other index at from n : ℕ) (bytes : List ℕ) (one : ℕ) → number ≢ other → bar_read (bar_written number index at bytes board) other one from n ≡ bar_read board other one from n

abbrev pub BarNotConfig : Type 0
BarNotConfig = (board : BoardState) (number other index at from n : ℕ) (bytes : List ℕ) → config_read (bar_written number index at bytes board) other from n ≡ config_read board other from n

-- what is written to a BAR is read back
abbrev pub BarReadBack : Type 0
BarReadBack = (board : BoardState) (number index at n value : ℕ) → IsSound board → bar_refusal board.lines number index at n ≡ None → value < 256 ^ n
    → bar_read (bar_written number index at (little_bytes n value) board) number index at n ≡ Ok value
