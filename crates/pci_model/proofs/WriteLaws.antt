-- What writes to devices change, and what they leave.
use Rattle.std.proofs.Common.{◌≡◌, ◌≢◌, ◌≤◌, ◌<◌, ◌+◌, ◌-◌, ◌^◌, ℕ, zero, suc, Bool, true, false, ◌&&◌, ◌||◌, not, nat_eq, nat_lt, List, [], ◌∷◌, ◌++◌, length, take, drop, get_or, set, Option, Some, None, Ok, if◌then◌else◌, refl, ap, sym, ◌∙◌, arith, append_assoc}
use Rattle.std.specs.Prelude.{find, is_some, option_map, slice_index}
use Rattle.std.specs.List.{list_any, slice_get}
use Rattle.std.specs.Option.{option_map_or}
use Rattle.byteorder.specs.Endian.{little_bytes, little_number}
use Rattle.byteorder.specs.Numbers.{little_number-reads_back}
use Rattle.std.proofs.lemmas.Bool.Decides.{nat_tests}
use Rattle.std.proofs.lemmas.List.{get_or-set_other, get_or-set_same, length-take-le}
use Rattle.std.proofs.Math.Seq.{drop-append_seam}
use Rattle.pci_model.specs.DeviceState.{DeviceState}
use Rattle.fw_types.specs.Layout.{put}
use Rattle.pci_model.specs.Devices.{BoardState, IsSound, bar_of, bar_read, bar_refusal, bar_size, bar_written, bars_after, bytes_of_bar, with_change_at, config_after, config_read, config_refusal, config_written, ok_unless, has_function, number_at, past_bar_end, with_byte, writable_places}
use Rattle.pci_model.specs.Laws.{is_reached}
use Rattle.pci_model.proofs.DeviceLemmas.{bar_refusal-is, has_function-is, length-with_byte, not_past}
use Rattle.pci_model.specs.declared.device.BarBytes.{BarBytes}
use Rattle.pci_model.specs.declared.refusal.DevRefusal.TheVariants.{NoFunction, PastEnd}

-- ---- bytes of configuration space

-- a byte after a write to one place
byte_by : (reached here : Bool) (config : List ℕ) (byte p place : ℕ) → p < length config → nat_eq place p ≡ here
    → slice_index (if reached then set config p byte else config) place ≡ (if here && reached then byte else slice_index config place)
byte_by true true config byte p place inside is =
    let same : place ≡ p = (let h = is in grind (arith, nat_tests)) in
    ap (λ (k : ℕ). get_or (set config p byte) k 0) same ∙ get_or-set_same config p byte 0 inside
byte_by true false config byte p place inside is =
    let apart : place ≢ p = (let h = is in grind (arith, nat_tests)) in
    get_or-set_other config p place byte 0 apart
byte_by false true config byte p place inside is = refl
byte_by false false config byte p place inside is = refl

here_by : (here one other : Bool) (a b rest : ℕ) → (here ≡ true → (one ≡ other) × (a ≡ b)) → (if here && one then a else rest) ≡ (if here && other then b else rest)
here_by true one other a b rest same = let both = same refl in rw (both.0, both.1) refl
here_by false one other a b rest same = refl

-- the byte of the write that reaches a place
with_byte-at : (at : ℕ) (bytes config : List ℕ) (p place : ℕ) → p < length config
    → slice_index (with_byte at bytes config p) place ≡ (if nat_eq place p && is_reached at (length bytes) place then slice_index bytes (place - at) else slice_index config place)
with_byte-at at bytes config p place inside =
    byte_by (is_reached at (length bytes) p) (nat_eq place p) config (slice_index bytes (p - at)) p place inside refl
    ∙ here_by (nat_eq place p) (is_reached at (length bytes) p) (is_reached at (length bytes) place) (slice_index bytes (p - at)) (slice_index bytes (place - at)) (slice_index config place)
    (λ here. let same : place ≡ p = (let h = here in grind (arith, nat_tests)) in (ap (is_reached at (length bytes)) (sym same), ap (λ (n : ℕ). slice_index bytes (n - at)) (sym same)))

-- three places, one after the other
three : (a b c reached : Bool) (byte rest : ℕ)
    → (if c && reached then byte else (if b && reached then byte else (if a && reached then byte else rest))) ≡ (if (a || (b || (c || false))) && reached then byte else rest)
three true true true true byte rest = refl
three true true true false byte rest = refl
three true true false true byte rest = refl
three true true false false byte rest = refl
three true false true true byte rest = refl
three true false true false byte rest = refl
three true false false true byte rest = refl
three true false false false byte rest = refl
three false true true true byte rest = refl
three false true true false byte rest = refl
three false true false true byte rest = refl
three false true false false byte rest = refl
three false false true true byte rest = refl
three false false true false byte rest = refl
three false false false true byte rest = refl
three false false false false byte rest = refl

pub config_byte : (at place : ℕ) (bytes config : List ℕ) → length config ≡ 256 → slice_index (config_after at bytes config) place
    ≡ (if list_any (nat_eq place) writable_places && is_reached at (length bytes) place then slice_index bytes (place - at) else slice_index config place)
config_byte at place bytes config size =
    let first = with_byte at bytes config 0x04 in
    let second = with_byte at bytes first 0x05 in
    let reached = is_reached at (length bytes) place in
    let byte = slice_index bytes (place - at) in
    let one : length first ≡ 256 = length-with_byte at bytes config 0x04 ∙ size in
    let two : length second ≡ 256 = length-with_byte at bytes first 0x05 ∙ one in
    with_byte-at at bytes second 0x3C place (omega (arith, two))
    ∙ ap (λ (n : ℕ). if nat_eq place 0x3C && reached then byte else n)
    (with_byte-at at bytes first 0x05 place (omega (arith, one))
    ∙ ap (λ (n : ℕ). if nat_eq place 0x05 && reached then byte else n) (with_byte-at at bytes config 0x04 place (omega (arith, size))))
    ∙ three (nat_eq place 0x04) (nat_eq place 0x05) (nat_eq place 0x3C) reached byte (slice_index config place)

-- ---- other devices

-- a change elsewhere
other_place : {X : Type 0} (change : X → X) (xs : List X) (k j : ℕ) → k ≢ j → slice_get (with_change_at k change xs) j ≡ slice_get xs j
other_place change [] k j apart = refl
other_place change (x ∷ xs) zero zero apart = absurd (apart refl)
other_place change (x ∷ xs) zero (suc j) apart = refl
other_place change (x ∷ xs) (suc k) zero apart = refl
other_place change (x ∷ xs) (suc k) (suc j) apart = other_place change xs k j (λ same. apart (ap suc same))

-- a change that does not show
not_shown : {X Y : Type 0} (f : X → Y) (change : X → X) (xs : List X) (k j : ℕ) (d : Y) → ((x : X) → f (change x) ≡ f x) → option_map_or f (slice_get (with_change_at k change xs) j) d ≡ option_map_or f (slice_get xs j) d
not_shown f change [] k j d same = refl
not_shown f change (x ∷ xs) zero zero d same = same x
not_shown f change (x ∷ xs) zero (suc j) d same = refl
not_shown f change (x ∷ xs) (suc k) zero d same = refl
not_shown f change (x ∷ xs) (suc k) (suc j) d same = not_shown f change xs k j d same

-- a change there
shown : {X Y : Type 0} (f : X → Y) (change : X → X) (xs : List X) (k : ℕ) (d : Y) (x : X) → slice_get xs k ≡ Some x → option_map_or f (slice_get (with_change_at k change xs) k) d ≡ f (change x)
shown f change [] k d x at = absurd cc
shown f change (y ∷ xs) zero d x at = let same : y ≡ x = cc in ap (λ z. f (change z)) same
shown f change (y ∷ xs) (suc k) d x at = shown f change xs k d x at

pub config_apart : (board : BoardState) (number other at from n : ℕ) (bytes : List ℕ) → number ≢ other → config_read (config_written number at bytes board) other from n ≡ config_read board other from n
config_apart board number other at from n bytes apart =
    ap (λ o. ok_unless (config_refusal board.lines other from n) (number_at from n (option_map_or (λ (device : DeviceState). device.config) o [])))
    (other_place (λ (device : DeviceState). record device { config = config_after at bytes device.config }) board.devices number other apart)

pub config_not_bar : (board : BoardState) (number other index at from n : ℕ) (bytes : List ℕ) → bar_read (config_written number at bytes board) other index from n ≡ bar_read board other index from n
config_not_bar board number other index at from n bytes =
    ap (λ (xs : List ℕ). ok_unless (bar_refusal board.lines other index from n) (number_at from n xs))
    (not_shown (λ (device : DeviceState). bytes_of_bar device.bars index) (λ (device : DeviceState). record device { config = config_after at bytes device.config }) board.devices number other [] (λ device. refl))

pub bar_not_config : (board : BoardState) (number other index at from n : ℕ) (bytes : List ℕ) → config_read (bar_written number index at bytes board) other from n ≡ config_read board other from n
bar_not_config board number other index at from n bytes =
    ap (λ (xs : List ℕ). ok_unless (config_refusal board.lines other from n) (number_at from n xs))
    (not_shown (λ (device : DeviceState). device.config) (λ (device : DeviceState). record device { bars = bars_after index at bytes device.bars }) board.devices number other [] (λ device. refl))

pub bars_apart : (board : BoardState) (number other index at from n : ℕ) (bytes : List ℕ) (one : ℕ) → number ≢ other → bar_read (bar_written number index at bytes board) other one from n ≡ bar_read board other one from n
bars_apart board number other index at from n bytes one apart =
    ap (λ o. ok_unless (bar_refusal board.lines other one from n) (number_at from n (option_map_or (λ (device : DeviceState). bytes_of_bar device.bars one) o [])))
    (other_place (λ (device : DeviceState). record device { bars = bars_after index at bytes device.bars }) board.devices number other apart)

-- ---- other BARs of the device

other_by : (index other at : ℕ) (bytes : List ℕ) (bar : BarBytes) (bars : List BarBytes) (here there : Bool) → nat_eq bar.index index ≡ here → nat_eq bar.index other ≡ there → index ≢ other
    → bytes_of_bar (bars_after index at bytes bars) other ≡ bytes_of_bar bars other → bytes_of_bar (bars_after index at bytes (bar ∷ bars)) other ≡ bytes_of_bar (bar ∷ bars) other
other_by index other at bytes bar bars true true here there apart rest =
    absurd (apart (let a = here in let b = there in grind (arith, nat_tests)))
other_by index other at bytes bar bars true false here there apart rest = rw (here, there) refl
other_by index other at bytes bar bars false true here there apart rest = rw (here, there) refl
other_by index other at bytes bar bars false false here there apart rest = rw (here, there) rest

other_bar : (index other at : ℕ) (bytes : List ℕ) (bars : List BarBytes) → index ≢ other → bytes_of_bar (bars_after index at bytes bars) other ≡ bytes_of_bar bars other
other_bar index other at bytes [] apart = refl
other_bar index other at bytes (bar ∷ bars) apart =
    other_by index other at bytes bar bars (nat_eq bar.index index) (nat_eq bar.index other) refl refl apart (other_bar index other at bytes bars apart)

pub bar_apart : (board : BoardState) (number index other at from n : ℕ) (bytes : List ℕ) → index ≢ other → bar_read (bar_written number index at bytes board) number other from n ≡ bar_read board number other from n
bar_apart board number index other at from n bytes apart =
    ap (λ (xs : List ℕ). ok_unless (bar_refusal board.lines number other from n) (number_at from n xs))
    (not_shown (λ (device : DeviceState). bytes_of_bar device.bars other) (λ (device : DeviceState). record device { bars = bars_after index at bytes device.bars }) board.devices number number []
    (λ device. other_bar index other at bytes device.bars apart))

-- ---- what is read back

-- the BAR that is written has the bytes
there_by : (index at : ℕ) (bytes : List ℕ) (bar : BarBytes) (bars : List BarBytes) (here : Bool) → nat_eq bar.index index ≡ here → is_some (find (λ (bar : BarBytes). nat_eq bar.index index) (bar ∷ bars)) ≡ true
    → (is_some (find (λ (bar : BarBytes). nat_eq bar.index index) bars) ≡ true → bytes_of_bar (bars_after index at bytes bars) index ≡ put at bytes (bytes_of_bar bars index))
    → bytes_of_bar (bars_after index at bytes (bar ∷ bars)) index ≡ put at bytes (bytes_of_bar (bar ∷ bars) index)
there_by index at bytes bar bars true here found rest = rw (here, here) refl
there_by index at bytes bar bars false here found rest = rw (here, here) (rest (rw here at found))

written_bar : (index at : ℕ) (bytes : List ℕ) (bars : List BarBytes) → is_some (find (λ (bar : BarBytes). nat_eq bar.index index) bars) ≡ true → bytes_of_bar (bars_after index at bytes bars) index ≡ put at bytes (bytes_of_bar bars index)
written_bar index at bytes [] found = absurd cc
written_bar index at bytes (bar ∷ bars) found = there_by index at bytes bar bars (nat_eq bar.index index) refl found (λ later. written_bar index at bytes bars later)

number_back : (at n value : ℕ) (bar : List ℕ) → at ≤ length bar → value < 256 ^ n → number_at at n (put at (little_bytes n value) bar) ≡ value
unfolding put
number_back at n value bar inside small =
    let low = little_bytes n value in
    let rest = drop (at + length low) bar in
    let front : length (take at bar) ≡ at = length-take-le at bar inside in
    let cut : drop at (put at low bar) ≡ low ++ rest =
    ap (drop at) (append_assoc (take at bar) low rest) ∙ ap (λ (k : ℕ). drop k (take at bar ++ (low ++ rest))) (sym front) ∙ drop-append_seam (take at bar) (low ++ rest) in
    ap (little_number n) cut ∙ little_number-reads_back n value rest small

inside_by : (size at n : ℕ) (past : Bool) → nat_lt size (at + n) ≡ past → (if past then Some PastEnd else None) ≡ None → at ≤ size
inside_by size at n true is accepted = absurd cc
inside_by size at n false is accepted = let fits = not_past size (at + n) is in omega (arith, fits)

-- a BAR that is there and has the bytes
bar_by : (at n : ℕ) (bar : Option BarBytes) → past_bar_end (option_map (λ (bar : BarBytes). length bar.bytes) bar) (at + n) ≡ None → (is_some bar ≡ true) × (at ≤ length (option_map_or (λ (bar : BarBytes). bar.bytes) bar []))
bar_by at n None accepted = absurd cc
bar_by at n (Some bar) accepted = (refl, inside_by (length bar.bytes) at n (nat_lt (length bar.bytes) (at + n)) refl accepted)

back_by : (board : BoardState) (number index at n value : ℕ) → IsSound board → bar_refusal board.lines number index at n ≡ None → value < 256 ^ n → (found : Option DeviceState) → slice_get board.devices number ≡ found
    → bar_read (bar_written number index at (little_bytes n value) board) number index at n ≡ Ok value
back_by board number index at n value sound accepted small None there =
    let no : has_function board.lines number ≡ false = sym (has_function-is board number sound) ∙ ap is_some there in
    let refused : bar_refusal board.lines number index at n ≡ Some NoFunction = ap (λ b. if not b then Some NoFunction else past_bar_end (bar_size board.lines number index) (at + n)) no in
    absurd cc
back_by board number index at n value sound accepted small (Some device) there =
    let facts = bar_by at n (find (λ (bar : BarBytes). nat_eq bar.index index) device.bars) (sym (bar_refusal-is board number index at n device sound there) ∙ accepted) in
    let low = little_bytes n value in
    ap (λ o. ok_unless o (number_at at n (bar_of (bar_written number index at low board) number index))) accepted
    ∙ ap (λ (xs : List ℕ). Ok (number_at at n xs))
    (shown (λ (device : DeviceState). bytes_of_bar device.bars index) (λ (device : DeviceState). record device { bars = bars_after index at low device.bars }) board.devices number [] device there
    ∙ written_bar index at low device.bars facts.0)
    ∙ ap (λ (m : ℕ). Ok m) (number_back at n value (bytes_of_bar device.bars index) facts.1 small)

pub bar_read_back : (board : BoardState) (number index at n value : ℕ) → IsSound board → bar_refusal board.lines number index at n ≡ None → value < 256 ^ n
    → bar_read (bar_written number index at (little_bytes n value) board) number index at n ≡ Ok value
bar_read_back board number index at n value sound accepted small = back_by board number index at n value sound accepted small (slice_get board.devices number) refl
