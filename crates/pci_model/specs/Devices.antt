-- What drivers read and write of a board's devices.
use Rattle.std.specs.Prelude.{◌≡◌, ℕ, zero, suc, ◌+◌, ◌-◌, List, [], ◌∷◌, length, map, fold, drop, find, Bool, ◌&&◌, not, nat_eq, nat_lt, nat_le, slice_index, slice_set, Option, Some, None, Result, Ok, Err, option_map, option_and_then, if◌then◌else◌}
use Rattle.std.specs.List.{list_any, slice_get}
use Rattle.std.specs.Option.{option_map_or}
use Rattle.byteorder.specs.Endian.{little_number}
use Rattle.fw_types.specs.Layout.{put}
use Rattle.pci_model.specs.BoardLines.{functions, location_of, ranges_at}
use Rattle.pci_model.specs.BoardRules.{board_fault}
use Rattle.pci_model.specs.ConfigSpace.{first_device}
use Rattle.pci_model.specs.declared.numbers.TheConstants.{CONFIG_SIZE}
use Rattle.pci_model.specs.declared.line.BoardLine.{BoardLine}
use Rattle.pci_model.specs.declared.function.Function.{Function}
use Rattle.pci_model.specs.declared.function.BarRange.{BarRange}
use Rattle.pci_model.specs.DeviceState.{DeviceState}
use Rattle.pci_model.specs.declared.device.BarBytes.{BarBytes}
use Rattle.pci_model.specs.declared.refusal.DevRefusal.{DevRefusal}
use Rattle.pci_model.specs.declared.refusal.DevRefusal.TheVariants.{NoFunction, NoBar, PastEnd}

-- a board: its lines, and the device of each function now
pub record BoardState : Type 0 where
  pub lines : List BoardLine
  pub devices : List DeviceState

-- the board of lines, before anything is written
abbrev pub board_of : List BoardLine → BoardState
board_of lines = record { lines = lines; devices = map (first_device lines) (functions lines) }

-- ---- refusals, by the lines alone

-- whether so many bytes may be read or written at once
abbrev pub is_access : ℕ → Bool
is_access n = list_any (nat_eq n) (1 ∷ 2 ∷ 4 ∷ 8 ∷ [])

-- whether the board has a function of the number
abbrev pub has_function : List BoardLine → ℕ → Bool
has_function lines number = nat_lt number (length (functions lines))

-- the size of a function's BAR, if it has one of the index
abbrev pub bar_size : List BoardLine → (number index : ℕ) → Option ℕ
bar_size lines number index =
    option_and_then (λ location. option_map (λ range. range.size) (find (λ range. nat_eq range.index index) (ranges_at lines location)))
    (location_of lines number)

-- bytes that end after a size
abbrev pub past_end : (size end : ℕ) → Option DevRefusal
past_end size end = if nat_lt size end then Some PastEnd else None

-- bytes of configuration space
abbrev pub config_refusal : List BoardLine → (number at n : ℕ) → Option DevRefusal
config_refusal lines number at n =
    if not (has_function lines number) then Some NoFunction else past_end CONFIG_SIZE (at + n)

-- bytes of a BAR that has a size, or is not there
abbrev pub past_bar_end : Option ℕ → ℕ → Option DevRefusal
past_bar_end None end = Some NoBar
past_bar_end (Some size) end = past_end size end

abbrev pub bar_refusal : List BoardLine → (number index at n : ℕ) → Option DevRefusal
bar_refusal lines number index at n =
    if not (has_function lines number) then Some NoFunction else past_bar_end (bar_size lines number index) (at + n)

-- a value, unless it is refused
abbrev pub ok_unless : {X : Type 0} → Option DevRefusal → X → Result X DevRefusal
ok_unless None value = Ok value
ok_unless (Some refusal) value = Err refusal

-- ---- reading

-- the configuration space of a function
abbrev pub config_of : BoardState → ℕ → List ℕ
config_of board number = option_map_or (λ device. device.config) (slice_get board.devices number) []

-- the bytes of a device's BAR, if it has one of the index
abbrev pub bar_in : List BarBytes → ℕ → Option (List ℕ)
bar_in bars index = option_map (λ bar. bar.bytes) (find (λ bar. nat_eq bar.index index) bars)

-- the bytes of a device's BAR
abbrev pub bytes_of_bar : List BarBytes → ℕ → List ℕ
bytes_of_bar bars index = option_map_or (λ bar. bar.bytes) (find (λ bar. nat_eq bar.index index) bars) []

-- the bytes of a function's BAR
abbrev pub bar_of : BoardState → (number index : ℕ) → List ℕ
bar_of board number index = option_map_or (λ device. bytes_of_bar device.bars index) (slice_get board.devices number) []

-- the number in n bytes from a place on, lowest byte first
abbrev pub number_at : ℕ → ℕ → List ℕ → ℕ
number_at at n bytes = little_number n (drop at bytes)

-- what a read of configuration space answers, and a read of a BAR
abbrev pub config_read : BoardState → (number at n : ℕ) → Result ℕ DevRefusal
config_read board number at n = ok_unless (config_refusal board.lines number at n) (number_at at n (config_of board number))

abbrev pub bar_read : BoardState → (number index at n : ℕ) → Result ℕ DevRefusal
bar_read board number index at n =
    ok_unless (bar_refusal board.lines number index at n) (number_at at n (bar_of board number index))

-- ---- writing

-- the bytes of configuration space that a write changes: the low and the high byte of the command register,
-- and the interrupt line
abbrev pub writable_places : List ℕ
writable_places = 0x04 ∷ 0x05 ∷ 0x3C ∷ []

-- configuration space with the byte at one place from those that are written from `at` on, if they reach it
abbrev pub with_byte : ℕ → List ℕ → List ℕ → ℕ → List ℕ
with_byte at bytes config place =
    if nat_le at place && nat_lt place (at + length bytes) then slice_set config place (slice_index bytes (place - at)) else config

-- configuration space after a write: each byte that can be written comes from it, if the write reaches it
abbrev pub config_after : ℕ → List ℕ → List ℕ → List ℕ
config_after at bytes config = fold (with_byte at bytes) config writable_places

-- BARs after a write to one
abbrev pub bars_after : ℕ → ℕ → List ℕ → List BarBytes → List BarBytes
bars_after index at bytes [] = []
bars_after index at bytes (bar ∷ bars) =
    if nat_eq bar.index index then record bar { bytes = put at bytes bar.bytes } ∷ bars
    else bar ∷ bars_after index at bytes bars

-- a list with another element at a place
abbrev pub with_change_at : {X : Type 0} → ℕ → (X → X) → List X → List X
with_change_at place change [] = []
with_change_at zero change (x ∷ xs) = change x ∷ xs
with_change_at (suc place) change (x ∷ xs) = x ∷ with_change_at place change xs

-- a board after a write of these bytes to the configuration space of a function, or to one of its BARs, from
-- `at` on; everything else is as before
abbrev pub config_written : (number at : ℕ) → List ℕ → BoardState → BoardState
config_written number at bytes board = record board {
  devices = with_change_at number (λ device. record device { config = config_after at bytes device.config }) board.devices;
}

abbrev pub bar_written : (number index at : ℕ) → List ℕ → BoardState → BoardState
bar_written number index at bytes board = record board {
  devices = with_change_at number (λ device. record device { bars = bars_after index at bytes device.bars }) board.devices;
}

-- ---- what holds of every board

-- the index and the size of a BAR, as its bytes have them and as its line has them
abbrev pub bar_shape : BarBytes → ℕ × ℕ
bar_shape bar = (bar.index, length bar.bytes)

abbrev pub range_shape : BarRange → ℕ × ℕ
range_shape range = (range.index, range.size)

-- how many bytes of configuration space a device has, and the index and the size of each BAR
abbrev pub Shape : Type 0
Shape = ℕ × List (ℕ × ℕ)

abbrev pub shape_of : DeviceState → Shape
shape_of device = (length device.config, map bar_shape device.bars)

-- the same, as the lines say
abbrev pub shape_in_lines : List BoardLine → Function → Shape
shape_in_lines lines function = (CONFIG_SIZE, map range_shape (ranges_at lines function.location))

-- the lines are a board's, and each function has its device, of the size that the lines say
pub record IsSound (board : BoardState) : Type 0 where
  pub lines : board_fault board.lines ≡ None
  pub devices : map shape_of board.devices ≡ map (shape_in_lines board.lines) (functions board.lines)
