-- Functions and their locations.
use Rattle.std.proofs.Common.{◌≡◌, ◌≤◌, ◌<◌, ◌+◌, ◌*◌, ◌/◌, ◌%◌, ℕ, zero, suc, Bool, true, false, ◌&&◌, ◌||◌, nat_eq, nat_lt, nat_le, List, [], ◌∷◌, Option, Some, None, refl, ap, sym, ◌∙◌, inl, inr, ⊎_elim, ◌⊎◌, arith}
use Rattle.std.specs.Prelude.{option_map}
use Rattle.std.specs.List.{cons_option, filter_map, list_all, list_any, range_with_len, slice_get}
use Rattle.std.proofs.lemmas.Bool.{cases_lt}
use Rattle.std.proofs.lemmas.Bool.Decides.{nat_tests}
use Rattle.pci_model.specs.BoardLines.{Location, find_at, function_of, functions, functions_on, is_at, location_of, named_location, positions_on_bus}
use Rattle.pci_model.specs.BoardRules.{board_fault}
use Rattle.pci_model.specs.declared.line.BoardLine.{BoardLine}
use Rattle.pci_model.specs.declared.line.BoardLine.TheVariants.{Root, Func, Bridge, Bar, Rom}
use Rattle.pci_model.specs.declared.function.Function.{Function}
use Rattle.pci_model.proofs.PassingLines.{holds_of_board}
use Rattle.pci_model.proofs.CountLemmas.{count, filter_map-push, position-found, position-one}
use Rattle.pci_model.proofs.BoardLimits.{all_more, is_at-refl, is_at-same, one_function, tested}

-- the function at a number
record IsThere (lines : List BoardLine) (number : ℕ) (location : Location) : Type 0 where
  function : Function
  at : slice_get (functions lines) number ≡ Some function
  is : function.location ≡ location

there_by : (lines : List BoardLine) (number : ℕ) (location : Location) (found : Option Function) → slice_get (functions lines) number ≡ found → option_map (λ (function : Function). function.location) found ≡ Some location → IsThere lines number location
there_by lines number location None at is = absurd cc
there_by lines number location (Some function) at is = record { function = function; at = at; is = cc }

there : (lines : List BoardLine) (number : ℕ) (location : Location) → location_of lines number ≡ Some location → IsThere lines number location
there lines number location is = there_by lines number location (slice_get (functions lines) number) refl is

pub found_at_location : (lines : List BoardLine) (number : ℕ) (location : Location) → board_fault lines ≡ None → location_of lines number ≡ Some location → find_at lines location ≡ Some number
found_at_location lines number location ok at =
    let here = there lines number location at in
    position-one (λ (function : Function). is_at function.location location) (functions lines) number here.function (one_function lines ok location) here.at
    (ap (λ (p : Location). is_at p location) here.is ∙ is_at-refl location)

pub is_where_found : (lines : List BoardLine) (number : ℕ) (location : Location) → find_at lines location ≡ Some number → location_of lines number ≡ Some location
is_where_found lines number location found =
    let here = position-found (λ (function : Function). is_at function.location location) (functions lines) number found in
    ap (option_map (λ (function : Function). function.location)) here.at ∙ ap (λ (p : Location). Some p) (is_at-same here.element.location location here.is)

-- ---- the functions on a bus

and-true : (a b : Bool) → a && b ≡ true → (a ≡ true) × (b ≡ true)
and-true true b h = (refl, h)
and-true false b h = absurd cc

or-true : (a b : Bool) → b ≡ true → a || b ≡ true
or-true true b h = refl
or-true false b h = h

first_or_later : (from k : ℕ) → from ≤ k → (from ≡ k) ⊎ (from + 1 ≤ k)
first_or_later from k low = ⊎_elim (λ less. inr (omega (arith, less))) (λ same. inl (omega (arith, same, low))) (cases_lt from k)

-- the first of several is found, or a later one
any_here : (found : Option ℕ) (number : ℕ) (rest : List ℕ) → found ≡ Some number → list_any (nat_eq number) (cons_option found rest) ≡ true
any_here found number rest is =
    let same : nat_eq number number ≡ true = grind (arith, nat_tests) in
    rw is (rw same refl)

any_later : (found : Option ℕ) (number : ℕ) (rest : List ℕ) → list_any (nat_eq number) rest ≡ true → list_any (nat_eq number) (cons_option found rest) ≡ true
any_later None number rest later = later
any_later (Some other) number rest later = or-true (nat_eq number other) (list_any (nat_eq number) rest) later

-- a number that is found at some place is among those that are found
any_at : (h : ℕ → Option ℕ) (from count k number : ℕ) → from ≤ k → k < from + count → h k ≡ Some number → list_any (nat_eq number) (filter_map h (range_with_len from count)) ≡ true
any_at h from zero k number low high is = absurd (omega arith)
any_at h from (suc count) k number low high is =
    ⊎_elim
    (λ same. any_here (h from) number (filter_map h (range_with_len (from + 1) count)) (ap h same ∙ is))
    (λ apart. any_later (h from) number (filter_map h (range_with_len (from + 1) count)) (any_at h (from + 1) count k number (omega (arith, apart)) (omega arith) is))
    (first_or_later from k low)

-- numbers that are found are found at some place
record IsFoundSomewhere (h : ℕ → Option ℕ) (number : ℕ) : Type 0 where
  place : ℕ
  is : h place ≡ Some number

or-parts : (a b : Bool) → a || b ≡ true → (a ≡ true) ⊎ (b ≡ true)
or-parts true b h = inl refl
or-parts false b h = inr h

somewhere_by : (h : ℕ → Option ℕ) (place : ℕ) (places : List ℕ) (number : ℕ) (found : Option ℕ) → h place ≡ found → list_any (nat_eq number) (cons_option found (filter_map h places)) ≡ true
    → (list_any (nat_eq number) (filter_map h places) ≡ true → IsFoundSomewhere h number) → IsFoundSomewhere h number
somewhere_by h place places number None is found rest = rest found
somewhere_by h place places number (Some other) is found rest =
    ⊎_elim
    (λ here. record { place = place; is = is ∙ (let same : other ≡ number = (let h = here in grind (arith, nat_tests)) in ap (λ (n : ℕ). Some n) same) })
    rest
    (or-parts (nat_eq number other) (list_any (nat_eq number) (filter_map h places)) found)

somewhere : (h : ℕ → Option ℕ) (places : List ℕ) (number : ℕ) → list_any (nat_eq number) (filter_map h places) ≡ true → IsFoundSomewhere h number
somewhere h [] number found = absurd cc
somewhere h (place ∷ places) number found = somewhere_by h place places number (h place) refl found (λ rest. somewhere h places number rest)

pub only_of_bus : (lines : List BoardLine) (number bus : ℕ) → list_any (nat_eq number) (functions_on lines bus) ≡ true → (location : Location) × ((location_of lines number ≡ Some location) × (location.0 ≡ bus))
only_of_bus lines number bus found =
    let source = somewhere (λ (at : ℕ). find_at lines (bus, at / 8, at % 8)) positions_on_bus number found in
    ((bus, source.place / 8, source.place % 8), (is_where_found lines number (bus, source.place / 8, source.place % 8) source.is, refl))

-- ---- locations are low

is_low : Location → Bool
is_low location = nat_le location.1 31 && nat_le location.2 7

low_by : (location : Location) → nat_lt 31 location.1 || nat_lt 7 location.2 ≡ false → is_low location ≡ true
unfolding is_low
low_by location h = grind (arith, nat_tests)

-- the location of a function is the one that its line names
named : (line : BoardLine) (function : Function) → function_of line ≡ Some function → named_location line ≡ Some function.location
named (Root uid bus) function is = absurd cc
named (Func bus device number vendor id class) function is = let same : record { location = (bus, device, number); vendor = vendor; id = id; class = class; secondary = None } ≡ function = cc in ap (λ (f : Function). Some f.location) same
named (Bridge bus device number vendor id secondary) function is = let same : record { location = (bus, device, number); vendor = vendor; id = id; class = 0x060400; secondary = Some secondary } ≡ function = cc in ap (λ (f : Function). Some f.location) same
named (Bar bus device number index address size) function is = absurd cc
named (Rom bus device number name) function is = absurd cc

low_locations : (lines : List BoardLine) → board_fault lines ≡ None → list_all (λ (function : Function). is_low function.location) (functions lines) ≡ true
low_locations lines ok =
    holds_of_board (λ (lines : List BoardLine). list_all (λ (function : Function). is_low function.location) (functions lines) ≡ true)
    (λ before line here passes. rw (filter_map-push function_of before line)
    (all_more (λ (function : Function). is_low function.location) (functions before) (function_of line) here (λ function is.
    low_by function.location (tested (λ (location : Location). nat_lt 31 location.1 || nat_lt 7 location.2) (named_location line) function.location (named line function is) passes.place))))
    lines refl ok

all_at : {X : Type 0} (p : X → Bool) (xs : List X) (k : ℕ) (x : X) → list_all p xs ≡ true → slice_get xs k ≡ Some x → p x ≡ true
all_at p [] k x all at = absurd cc
all_at p (y ∷ xs) zero x all at = let same : y ≡ x = cc in ap p (sym same) ∙ (and-true (p y) (list_all p xs) all).0
all_at p (y ∷ xs) (suc k) x all at = all_at p xs k x (and-true (p y) (list_all p xs) all).1 at

low_parts : (location : Location) → is_low location ≡ true → (location.1 ≤ 31) × (location.2 ≤ 7)
unfolding is_low
low_parts location low =
    let both = and-true (nat_le location.1 31) (nat_le location.2 7) low in
    ((let h = both.0 in grind (arith, nat_tests)), (let h = both.1 in grind (arith, nat_tests)))

pub among_its_bus : (lines : List BoardLine) (number : ℕ) (location : Location) → board_fault lines ≡ None → location_of lines number ≡ Some location → list_any (nat_eq number) (functions_on lines location.0) ≡ true
unfolding positions_on_bus
among_its_bus lines number location ok at =
    let here = there lines number location at in
    let low = low_parts location (ap is_low (sym here.is) ∙ all_at (λ (function : Function). is_low function.location) (functions lines) number here.function (low_locations lines ok) here.at) in
    let k = 8 * location.1 + location.2 in
    let device : k / 8 ≡ location.1 = omega arith in
    let function : k % 8 ≡ location.2 = omega arith in
    let found : find_at lines (location.0, k / 8, k % 8) ≡ Some number =
    ap (λ (n : ℕ). find_at lines (location.0, n, k % 8)) device ∙ ap (λ (n : ℕ). find_at lines (location.0, location.1, n)) function ∙ found_at_location lines number location ok at in
    any_at (λ (p : ℕ). find_at lines (location.0, p / 8, p % 8)) 0 256 k number (omega arith) (omega arith) found
