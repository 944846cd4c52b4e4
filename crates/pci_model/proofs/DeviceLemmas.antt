-- The devices of a board fit its lines.
use Rattle.std.proofs.Common.{◌≡◌, ◌≤◌, ◌<◌, ◌+◌, ◌-◌, ℕ, zero, suc, Bool, true, false, ◌&&◌, not, nat_eq, nat_lt, nat_le, cond, List, [], ◌∷◌, length, map, take, get_or, set, Option, Some, None, Err, if◌then◌else◌, refl, ap, sym, ◌∙◌, arith}
use Rattle.std.specs.Prelude.{find, is_some, option_and_then, option_map, slice_index}
use Rattle.std.specs.List.{slice_get}
use Rattle.std.specs.Option.{option_map_or}
use Rattle.std.proofs.lemmas.List.{length-take-le}
use Rattle.std.proofs.lemmas.Option.{slice_get-map}
use Rattle.std.proofs.Math.ListN.{length-set}
use Rattle.std.proofs.lemmas.Bool.Decides.{nat_tests}
use Rattle.pci_model.specs.BoardLines.{functions, ranges_at}
use Rattle.pci_model.specs.DeviceState.{DeviceState}
use Rattle.pci_model.specs.Devices.{BoardState, IsSound, Shape, bar_of, bar_shape, bar_read, bar_refusal, bar_size, bar_written, bars_after, bytes_of_bar, with_change_at, config_after, config_read, config_written, ok_unless, has_function, is_access, number_at, past_end, past_bar_end, range_shape, shape_in_lines, shape_of, with_byte}
use Rattle.pci_model.specs.declared.function.Function.{Function}
use Rattle.pci_model.specs.declared.function.BarRange.{BarRange}
use Rattle.pci_model.specs.declared.device.BarBytes.{BarBytes}
use Rattle.pci_model.specs.declared.refusal.DevRefusal.TheVariants.{NoFunction, NoBar}
use Rattle.pci_model.proofs.FieldLemmas.{length-put}

-- ---- lists by their places

some-map : {X Y : Type 0} (f : X → Y) (o : Option X) → is_some (option_map f o) ≡ is_some o
some-map f None = refl
some-map f (Some x) = refl

get-inside : {X : Type 0} (xs : List X) (k : ℕ) → is_some (slice_get xs k) ≡ nat_lt k (length xs)
get-inside [] k = let no : nat_lt k 0 ≡ false = grind (arith, nat_tests) in sym no
get-inside (x ∷ xs) zero = let yes : nat_lt 0 (suc (length xs)) ≡ true = grind (arith, nat_tests) in sym yes
get-inside (x ∷ xs) (suc k) = let same : nat_lt (suc k) (suc (length xs)) ≡ nat_lt k (length xs) = grind (arith, nat_tests) in get-inside xs k ∙ sym same

by_test : {X Y : Type 0} (p : Y → Bool) (f : X → Y) (x : X) (xs : List X) (b : Bool) → find p (map f xs) ≡ option_map f (find (λ x. p (f x)) xs) → cond b (Some (f x)) (find p (map f xs)) ≡ option_map f (cond b (Some x) (find (λ x. p (f x)) xs))
by_test p f x xs true same = refl
by_test p f x xs false same = same

find-map : {X Y : Type 0} (p : Y → Bool) (f : X → Y) (xs : List X) → find p (map f xs) ≡ option_map f (find (λ x. p (f x)) xs)
find-map p f [] = refl
find-map p f (x ∷ xs) = by_test p f x xs (p (f x)) (find-map p f xs)

-- ---- the device of a number

-- devices and functions in a row are of the same shapes
same_shapes : (board : BoardState) (f : ℕ) → IsSound board → option_map shape_of (slice_get board.devices f) ≡ option_map (shape_in_lines board.lines) (slice_get (functions board.lines) f)
same_shapes board f sound =
    sym (slice_get-map shape_of board.devices f) ∙ ap (λ (shapes : List Shape). slice_get shapes f) sound.devices
    ∙ slice_get-map (shape_in_lines board.lines) (functions board.lines) f

-- there is a device exactly if there is a function
pub has_function-is : (board : BoardState) (f : ℕ) → IsSound board → is_some (slice_get board.devices f) ≡ has_function board.lines f
has_function-is board f sound =
    sym (some-map shape_of (slice_get board.devices f)) ∙ ap is_some (same_shapes board f sound)
    ∙ some-map (shape_in_lines board.lines) (slice_get (functions board.lines) f) ∙ get-inside (functions board.lines) f

-- the function of a device
record IsOf (board : BoardState) (f : ℕ) (device : DeviceState) : Type 0 where
  function : Function
  at : slice_get (functions board.lines) f ≡ Some function
  shape : shape_of device ≡ shape_in_lines board.lines function

of_by : (board : BoardState) (f : ℕ) (device : DeviceState) (found : Option Function) → slice_get (functions board.lines) f ≡ found → Some (shape_of device) ≡ option_map (shape_in_lines board.lines) found → IsOf board f device
of_by board f device None at same = absurd cc
of_by board f device (Some function) at same = record { function = function; at = at; shape = cc }

device_of : (board : BoardState) (f : ℕ) (device : DeviceState) → IsSound board → slice_get board.devices f ≡ Some device → IsOf board f device
device_of board f device sound there =
    of_by board f device (slice_get (functions board.lines) f) refl (ap (option_map shape_of) (sym there) ∙ same_shapes board f sound)

-- it has 256 bytes of configuration space
pub config-size : (board : BoardState) (f : ℕ) (device : DeviceState) → IsSound board → slice_get board.devices f ≡ Some device → length device.config ≡ 256
config-size board f device sound there = ap (λ (shape : Shape). shape.0) (device_of board f device sound there).shape

seconds : (bar : Option BarBytes) (range : Option BarRange) → option_map bar_shape bar ≡ option_map range_shape range
    → option_map (λ (bar : BarBytes). length bar.bytes) bar ≡ option_map (λ (range : BarRange). range.size) range
seconds None None same = refl
seconds None (Some range) same = absurd cc
seconds (Some bar) None same = absurd cc
seconds (Some bar) (Some range) same = let both : (bar.index, length bar.bytes) ≡ (range.index, range.size) = cc in ap (λ (shape : ℕ × ℕ). Some shape.1) both

-- the sizes of its BARs
bar_sizes : (bars : List BarBytes) (ranges : List BarRange) (index : ℕ) → map bar_shape bars ≡ map range_shape ranges
    → option_map (λ (bar : BarBytes). length bar.bytes) (find (λ (bar : BarBytes). nat_eq bar.index index) bars) ≡ option_map (λ (range : BarRange). range.size) (find (λ (range : BarRange). nat_eq range.index index) ranges)
bar_sizes bars ranges index same =
    let sizes : option_map bar_shape (find (λ (bar : BarBytes). nat_eq bar.index index) bars)
    ≡ option_map range_shape (find (λ (range : BarRange). nat_eq range.index index) ranges) =
    sym (find-map (λ (shape : ℕ × ℕ). nat_eq shape.0 index) bar_shape bars)
    ∙ ap (find (λ (shape : ℕ × ℕ). nat_eq shape.0 index)) same
    ∙ find-map (λ (shape : ℕ × ℕ). nat_eq shape.0 index) range_shape ranges in
    seconds (find (λ (bar : BarBytes). nat_eq bar.index index) bars) (find (λ (range : BarRange). nat_eq range.index index) ranges) sizes

pub bar_size-is : (board : BoardState) (f index : ℕ) (device : DeviceState) → IsSound board → slice_get board.devices f ≡ Some device
    → bar_size board.lines f index ≡ option_map (λ (bar : BarBytes). length bar.bytes) (find (λ (bar : BarBytes). nat_eq bar.index index) device.bars)
bar_size-is board f index device sound there =
    let is = device_of board f device sound there in
    let ranges = ranges_at board.lines is.function.location in
    ap (λ o. option_and_then (λ place. option_map (λ (range : BarRange). range.size) (find (λ (range : BarRange). nat_eq range.index index) (ranges_at board.lines place))) (option_map (λ (function : Function). function.location) o)) is.at
    ∙ sym (bar_sizes device.bars ranges index (ap (λ (shape : Shape). shape.1) is.shape))

-- ---- reading

pub config_read-none : (board : BoardState) (f at n : ℕ) → IsSound board → slice_get board.devices f ≡ None → config_read board f at n ≡ Err NoFunction
config_read-none board f at n sound none =
    let no : has_function board.lines f ≡ false = sym (has_function-is board f sound) ∙ ap is_some none in
    rw no refl

pub config_read-some : (board : BoardState) (f at n : ℕ) (device : DeviceState) → IsSound board → slice_get board.devices f ≡ Some device → config_read board f at n ≡ ok_unless (past_end (length device.config) (at + n)) (number_at at n device.config)
config_read-some board f at n device sound there =
    let yes : has_function board.lines f ≡ true = sym (has_function-is board f sound) ∙ ap is_some there in
    rw (yes, there, config-size board f device sound there) refl

pub bar_read-none : (board : BoardState) (f index at n : ℕ) → IsSound board → slice_get board.devices f ≡ None → bar_read board f index at n ≡ Err NoFunction
bar_read-none board f index at n sound none =
    let no : has_function board.lines f ≡ false = sym (has_function-is board f sound) ∙ ap is_some none in
    rw no refl

-- what is refused for a BAR of a device
pub bar_refusal-is : (board : BoardState) (f index at n : ℕ) (device : DeviceState) → IsSound board → slice_get board.devices f ≡ Some device
    → bar_refusal board.lines f index at n ≡ past_bar_end (option_map (λ (bar : BarBytes). length bar.bytes) (find (λ (bar : BarBytes). nat_eq bar.index index) device.bars)) (at + n)
bar_refusal-is board f index at n device sound there =
    let yes : has_function board.lines f ≡ true = sym (has_function-is board f sound) ∙ ap is_some there in
    ap (λ b. if not b then Some NoFunction else past_bar_end (bar_size board.lines f index) (at + n)) yes
    ∙ ap (λ o. past_bar_end o (at + n)) (bar_size-is board f index device sound there)

pub bar_read-is : (board : BoardState) (f index at n : ℕ) (device : DeviceState) (bar : Option BarBytes) → IsSound board → slice_get board.devices f ≡ Some device → find (λ (bar : BarBytes). nat_eq bar.index index) device.bars ≡ bar
    → bar_read board f index at n ≡ ok_unless (past_bar_end (option_map (λ (bar : BarBytes). length bar.bytes) bar) (at + n)) (number_at at n (option_map_or (λ (bar : BarBytes). bar.bytes) bar []))
bar_read-is board f index at n device bar sound there found =
    ap (λ refusal. ok_unless refusal (number_at at n (bar_of board f index))) (bar_refusal-is board f index at n device sound there)
    ∙ ap (λ o. ok_unless (past_bar_end (option_map (λ (bar : BarBytes). length bar.bytes) (find (λ (bar : BarBytes). nat_eq bar.index index) device.bars)) (at + n))
    (number_at at n (option_map_or (λ (device : DeviceState). bytes_of_bar device.bars index) o []))) there
    ∙ ap (λ o. ok_unless (past_bar_end (option_map (λ (bar : BarBytes). length bar.bytes) o) (at + n)) (number_at at n (option_map_or (λ (bar : BarBytes). bar.bytes) o []))) found

-- a device's BAR by its bytes
missing_by : (bar : Option BarBytes) → option_map (λ (bar : BarBytes). bar.bytes) bar ≡ None → bar ≡ None
missing_by None none = refl
missing_by (Some bar) none = absurd cc

found_by : (bar : Option BarBytes) (bytes : List ℕ) → option_map (λ (bar : BarBytes). bar.bytes) bar ≡ Some bytes
    → (option_map (λ (bar : BarBytes). length bar.bytes) bar ≡ Some (length bytes)) × (option_map_or (λ (bar : BarBytes). bar.bytes) bar [] ≡ bytes)
found_by None bytes is = absurd cc
found_by (Some bar) bytes is = let same : bar.bytes ≡ bytes = cc in (ap (λ (xs : List ℕ). Some (length xs)) same, same)

pub bar_read-missing : (board : BoardState) (f index at n : ℕ) (device : DeviceState) → IsSound board → slice_get board.devices f ≡ Some device → option_map (λ (bar : BarBytes). bar.bytes) (find (λ (bar : BarBytes). nat_eq bar.index index) device.bars) ≡ None
    → bar_read board f index at n ≡ Err NoBar
bar_read-missing board f index at n device sound there none =
    bar_read-is board f index at n device None sound there (missing_by (find (λ (bar : BarBytes). nat_eq bar.index index) device.bars) none)

pub bar_read-bytes : (board : BoardState) (f index at n : ℕ) (device : DeviceState) (bytes : List ℕ) → IsSound board → slice_get board.devices f ≡ Some device → option_map (λ (bar : BarBytes). bar.bytes) (find (λ (bar : BarBytes). nat_eq bar.index index) device.bars) ≡ Some bytes
    → bar_read board f index at n ≡ ok_unless (past_end (length bytes) (at + n)) (number_at at n bytes)
bar_read-bytes board f index at n device bytes sound there is =
    let bar = find (λ (bar : BarBytes). nat_eq bar.index index) device.bars in
    let found = found_by bar bytes is in
    bar_read-is board f index at n device bar sound there refl
    ∙ ap (λ o. ok_unless (past_bar_end o (at + n)) (number_at at n (option_map_or (λ (bar : BarBytes). bar.bytes) bar []))) found.0
    ∙ ap (λ (xs : List ℕ). ok_unless (past_end (length bytes) (at + n)) (number_at at n xs)) found.1

-- the same of what is refused
pub bar_refusal-missing : (board : BoardState) (f index at n : ℕ) (device : DeviceState) → IsSound board → slice_get board.devices f ≡ Some device → option_map (λ (bar : BarBytes). bar.bytes) (find (λ (bar : BarBytes). nat_eq bar.index index) device.bars) ≡ None
    → bar_refusal board.lines f index at n ≡ Some NoBar
bar_refusal-missing board f index at n device sound there none =
    bar_refusal-is board f index at n device sound there
    ∙ ap (λ o. past_bar_end (option_map (λ (bar : BarBytes). length bar.bytes) o) (at + n)) (missing_by (find (λ (bar : BarBytes). nat_eq bar.index index) device.bars) none)

pub bar_refusal-bytes : (board : BoardState) (f index at n : ℕ) (device : DeviceState) (bytes : List ℕ) → IsSound board → slice_get board.devices f ≡ Some device → option_map (λ (bar : BarBytes). bar.bytes) (find (λ (bar : BarBytes). nat_eq bar.index index) device.bars) ≡ Some bytes
    → bar_refusal board.lines f index at n ≡ past_end (length bytes) (at + n)
bar_refusal-bytes board f index at n device bytes sound there is =
    bar_refusal-is board f index at n device sound there
    ∙ ap (λ o. past_bar_end o (at + n)) (found_by (find (λ (bar : BarBytes). nat_eq bar.index index) device.bars) bytes is).0

pub bytes_of_bar-is : (bars : List BarBytes) (index : ℕ) (bytes : List ℕ) → option_map (λ (bar : BarBytes). bar.bytes) (find (λ (bar : BarBytes). nat_eq bar.index index) bars) ≡ Some bytes → bytes_of_bar bars index ≡ bytes
bytes_of_bar-is bars index bytes is = (found_by (find (λ (bar : BarBytes). nat_eq bar.index index) bars) bytes is).1

-- ---- writing

-- another element at a place is a write there
pub with_change_at-set : {X : Type 0} (xs : List X) (k : ℕ) (d : X) (change : X → X) → k < length xs → with_change_at k change xs ≡ set xs k (change (get_or xs k d))
with_change_at-set [] k d change inside = absurd (omega arith)
with_change_at-set (y ∷ xs) zero d change inside = refl
with_change_at-set (y ∷ xs) (suc k) d change inside = ap (λ zs. y ∷ zs) (with_change_at-set xs k d change (omega arith))

pub length-with_change_at : {X : Type 0} (xs : List X) (k : ℕ) (change : X → X) → length (with_change_at k change xs) ≡ length xs
length-with_change_at [] k change = refl
length-with_change_at (x ∷ xs) zero change = refl
length-with_change_at (x ∷ xs) (suc k) change = ap suc (length-with_change_at xs k change)

-- a change that keeps the shape of the element there
pub map-with_change_at : {X Y : Type 0} (f : X → Y) (xs : List X) (k : ℕ) (change : X → X) → ((x : X) → slice_get xs k ≡ Some x → f (change x) ≡ f x) → map f (with_change_at k change xs) ≡ map f xs
map-with_change_at f [] k change same = refl
map-with_change_at f (x ∷ xs) zero change same = ap (λ y. y ∷ map f xs) (same x refl)
map-with_change_at f (x ∷ xs) (suc k) change same = ap (λ ys. f x ∷ ys) (map-with_change_at f xs k change same)

by_reach : (b : Bool) (config : List ℕ) (byte place : ℕ) → length (if b then set config place byte else config) ≡ length config
by_reach true config byte place = length-set config place byte
by_reach false config byte place = refl

pub length-with_byte : (at : ℕ) (bytes config : List ℕ) (place : ℕ) → length (with_byte at bytes config place) ≡ length config
length-with_byte at bytes config place = by_reach (nat_le at place && nat_lt place (at + length bytes)) config (slice_index bytes (place - at)) place

length-config_after : (at : ℕ) (bytes config : List ℕ) → length (config_after at bytes config) ≡ length config
length-config_after at bytes config =
    let first = with_byte at bytes config 0x04 in
    let second = with_byte at bytes first 0x05 in
    length-with_byte at bytes second 0x3C ∙ length-with_byte at bytes first 0x05 ∙ length-with_byte at bytes config 0x04

shapes_by : (index at : ℕ) (bytes : List ℕ) (bar : BarBytes) (bars : List BarBytes) (b : Bool) → nat_eq bar.index index ≡ b → at + length bytes ≤ length (bytes_of_bar (bar ∷ bars) index)
    → (at + length bytes ≤ length (bytes_of_bar bars index) → map bar_shape (bars_after index at bytes bars) ≡ map bar_shape bars)
    → map bar_shape (bars_after index at bytes (bar ∷ bars)) ≡ map bar_shape (bar ∷ bars)
shapes_by index at bytes bar bars true is fits rest =
    let here : at + length bytes ≤ length bar.bytes = rw is at fits in
    rw is (ap (λ (size : ℕ). (bar.index, size) ∷ map bar_shape bars) (length-put at bytes bar.bytes here))
shapes_by index at bytes bar bars false is fits rest =
    let there : at + length bytes ≤ length (bytes_of_bar bars index) = rw is at fits in
    rw is (ap (λ (shapes : List (ℕ × ℕ)). (bar.index, length bar.bytes) ∷ shapes) (rest there))

shapes_after : (index at : ℕ) (bytes : List ℕ) (bars : List BarBytes) → at + length bytes ≤ length (bytes_of_bar bars index) → map bar_shape (bars_after index at bytes bars) ≡ map bar_shape bars
shapes_after index at bytes [] fits = refl
shapes_after index at bytes (bar ∷ bars) fits = shapes_by index at bytes bar bars (nat_eq bar.index index) refl fits (λ rest. shapes_after index at bytes bars rest)

pub sound-config_written : (board : BoardState) (f at : ℕ) (bytes : List ℕ) → IsSound board → IsSound (config_written f at bytes board)
sound-config_written board f at bytes sound = record {
  lines = sound.lines;
  devices =
      map-with_change_at shape_of board.devices f (λ (device : DeviceState). record device { config = config_after at bytes device.config }) (λ device there.
      ap (λ (size : ℕ). (size, map bar_shape device.bars)) (length-config_after at bytes device.config))
      ∙ sound.devices;
}

pub sound-bar_written : (board : BoardState) (f index at : ℕ) (bytes : List ℕ) → IsSound board → ((device : DeviceState) → slice_get board.devices f ≡ Some device → at + length bytes ≤ length (bytes_of_bar device.bars index)) → IsSound (bar_written f index at bytes board)
sound-bar_written board f index at bytes sound fits = record {
  lines = sound.lines;
  devices =
      map-with_change_at shape_of board.devices f (λ (device : DeviceState). record device { bars = bars_after index at bytes device.bars }) (λ device there.
      ap (λ (shapes : List (ℕ × ℕ)). (length device.config, shapes)) (shapes_after index at bytes device.bars (fits device there)))
      ∙ sound.devices;
}

-- ---- small facts that writes need

pub some-same : {X : Type 0} (x y : X) → Some x ≡ Some y → x ≡ y
some-same x y same = cc

pub get-below : {X : Type 0} (xs : List X) (k : ℕ) (x : X) → slice_get xs k ≡ Some x → k < length xs
get-below [] k x at = absurd cc
get-below (y ∷ xs) zero x at = omega arith
get-below (y ∷ xs) (suc k) x at = omega (arith, get-below xs k x at)

pub not_past : (size end : ℕ) → nat_lt size end ≡ false → end ≤ size
not_past size end h = grind (arith, nat_tests)

-- so many bytes may be written at once
access_small : (n : ℕ) → is_access n ≡ true → n ≤ 8
access_small n h = grind (arith, nat_tests)

pub low_size : (n : ℕ) (bytes low : List ℕ) → is_access n ≡ true → length bytes ≡ 8 → low ≡ take n bytes → length low ≡ n
low_size n bytes low access eight is = ap length is ∙ length-take-le n bytes (omega (arith, access_small n access))

-- bytes that lie in the BAR that was found
pub bar_fits : (devices : List DeviceState) (f index at : ℕ) (low bytes : List ℕ) (device : DeviceState) → slice_get devices f ≡ Some device → option_map (λ (bar : BarBytes). bar.bytes) (find (λ (bar : BarBytes). nat_eq bar.index index) device.bars) ≡ Some bytes → at + length low ≤ length bytes
    → (other : DeviceState) → slice_get devices f ≡ Some other → at + length low ≤ length (bytes_of_bar other.bars index)
bar_fits devices f index at low bytes device there found fits other is =
    let same : device ≡ other = some-same device other (sym there ∙ is) in
    let here : bytes_of_bar other.bars index ≡ bytes = ap (λ (d : DeviceState). bytes_of_bar d.bars index) (sym same) ∙ bytes_of_bar-is device.bars index bytes found in
    omega (arith, fits, ap length here)
