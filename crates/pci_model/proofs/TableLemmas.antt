-- What a board keeps next to its lines.
use Rattle.std.proofs.Common.{◌≡◌, ◌≤◌, ◌<◌, ◌+◌, ◌/◌, ◌%◌, ℕ, zero, suc, Bool, true, false, ◌&&◌, nat_eq, nat_le, nat_lt, cond, List, [], ◌∷◌, ◌++◌, length, take, drop, get_or, Option, Some, None, refl, ap, sym, ◌∙◌, arith, drop-cons}
use Rattle.std.specs.Prelude.{filter}
use Rattle.std.specs.List.{cons_option, filter_map, list_all, position, range_with_len, slice_get}
use Rattle.std.specs.Ordering.{is_eq, nat_cmp, ordering_then}
use Rattle.std.specs.declared.cmp.Ordering.{Ordering}
use Rattle.std.specs.declared.cmp.Ordering.TheVariants.{Less, Equal, Greater}
use Rattle.std.specs.BTreeMap.{BTreeMap, get}
use Rattle.std.proofs.lemmas.Bool.Decides.{nat_tests}
use Rattle.std.proofs.lemmas.List.{length-take-le, take-append-drop, take_more}
use Rattle.std.proofs.lemmas.List.Elements.{filter_map-append}
use Rattle.pci_model.specs.BoardLines.{Location, find_at, functions_at, functions, is_at, positions_on_bus, range_of, ranges_at}
use Rattle.pci_model.specs.BoardRules.{board_fault}
use Rattle.pci_model.specs.Indexed.{OnceEach, location_cmp}
use Rattle.pci_model.specs.declared.line.BoardLine.{BoardLine}
use Rattle.pci_model.specs.declared.function.Function.{Function}
use Rattle.pci_model.specs.declared.function.BarRange.{BarRange}
use Rattle.pci_model.proofs.CountLemmas.{count, count-append, count-is, one_if, one_if-true, or_last, position-none, position-push}
use Rattle.pci_model.proofs.BoardLimits.{low_indexes, one_function}

-- ---- the first that is given

-- an element that gives the first of what a list gives
pub first_given : {X Y : Type 0} (h : X → Option Y) (xs : List X) (k : ℕ) (x : X) (y : Y) → k < length xs → x ≡ get_or xs k x → filter_map h (take k xs) ≡ [] → h x ≡ Some y → slice_get (filter_map h xs) 0 ≡ Some y
first_given h xs k x y inside is none gives =
    let rest : drop k xs ≡ x ∷ drop (suc k) xs = drop-cons xs k x inside ∙ ap (λ z. z ∷ drop (suc k) xs) (sym is) in
    let whole : xs ≡ take k xs ++ x ∷ drop (suc k) xs = sym (take-append-drop k xs) ∙ ap (λ zs. take k xs ++ zs) rest in
    let given : filter_map h xs ≡ y ∷ filter_map h (drop (suc k) xs) =
    ap (filter_map h) whole ∙ filter_map-append h (take k xs) (x ∷ drop (suc k) xs)
    ∙ ap (λ zs. zs ++ cons_option (h x) (filter_map h (drop (suc k) xs))) none
    ∙ ap (λ o. cons_option o (filter_map h (drop (suc k) xs))) gives in
    ap (λ zs. slice_get zs 0) given

-- ---- BARs

and-true : (a b : Bool) → a && b ≡ true → (a ≡ true) × (b ≡ true)
and-true true b h = (refl, h)
and-true false b h = absurd cc

all_by : (p q : BarRange → Bool) (range : BarRange) (ranges : List BarRange) (b : Bool) → p range && list_all p ranges ≡ true → (list_all p ranges ≡ true → list_all p (filter q ranges) ≡ true) → list_all p (cond b (range ∷ filter q ranges) (filter q ranges)) ≡ true
all_by p q range ranges true all rest = let both = and-true (p range) (list_all p ranges) all in rw both.0 (rest both.1)
all_by p q range ranges false all rest = let both = and-true (p range) (list_all p ranges) all in rest both.1

all_left : (p q : BarRange → Bool) (ranges : List BarRange) → list_all p ranges ≡ true → list_all p (filter q ranges) ≡ true
all_left p q [] all = refl
all_left p q (range ∷ ranges) all = all_by p q range ranges (q range) all (all_left p q ranges)

pub low_ranges : (lines : List BoardLine) (location : Location) → board_fault lines ≡ None → list_all (λ (range : BarRange). nat_le range.index 5) (ranges_at lines location) ≡ true
low_ranges lines location ok = all_left (λ (range : BarRange). nat_le range.index 5) (λ (range : BarRange). is_at range.location location) (filter_map range_of lines) (low_indexes lines ok)

-- ---- locations

tie_by : (less same : Bool) → (less ≡ true → same ≡ false) → is_eq (cond less Less (cond same Equal Greater)) ≡ same
tie_by true same apart = sym (apart refl)
tie_by false true apart = refl
tie_by false false apart = refl

eq_by : (a b : ℕ) → is_eq (nat_cmp a b) ≡ nat_eq a b
eq_by a b = tie_by (nat_lt a b) (nat_eq a b) (λ less. grind (arith, nat_tests))

then_eq : (a b : Ordering) → is_eq (ordering_then a b) ≡ (is_eq a && is_eq b)
then_eq Less b = refl
then_eq Equal b = refl
then_eq Greater b = refl

-- locations tie exactly if they are the same
pub is_eq-location_cmp : (location other : Location) → is_eq (location_cmp location other) ≡ is_at location other
is_eq-location_cmp location other =
    then_eq (ordering_then (nat_cmp location.0 other.0) (nat_cmp location.1 other.1)) (nat_cmp location.2 other.2)
    ∙ ap (λ b. b && is_eq (nat_cmp location.2 other.2)) (then_eq (nat_cmp location.0 other.0) (nat_cmp location.1 other.1))
    ∙ rw (eq_by location.0 other.0, eq_by location.1 other.1, eq_by location.2 other.2) refl

place_by : (found : Option ℕ) (b : Bool) (k : ℕ) → (b ≡ true → found ≡ None) → cond b (Some k) found ≡ or_last found b k
unfolding or_last
place_by None true k none = refl
place_by None false k none = refl
place_by (Some j) true k none = absurd (let no = none refl in cc)
place_by (Some j) false k none = refl

one_of : (p : Function → Bool) (function : Function) (functions : List Function) → p function ≡ true → 1 ≤ count p (function ∷ functions)
unfolding count
one_of p function functions here = omega (arith, one_if-true (p function) here)

-- inside a list the default does not count
pub get-any : {X : Type 0} (xs : List X) (k : ℕ) (d e : X) → k < length xs → get_or xs k d ≡ get_or xs k e
get-any [] k d e inside = absurd (omega arith)
get-any (x ∷ xs) zero d e inside = refl
get-any (x ∷ xs) (suc k) d e inside = get-any xs k d e (omega arith)

-- one more function in the table
pub numbers_more : (functions : List Function) (k : ℕ) (function : Function) (before after : BTreeMap Location ℕ) (location : Location) → OnceEach functions → k < length functions → function ≡ get_or functions k function
    → get location_cmp before location ≡ position (λ (function : Function). is_at function.location location) (take k functions)
    → get location_cmp after location ≡ cond (is_eq (location_cmp function.location location)) (Some k) (get location_cmp before location)
    → get location_cmp after location ≡ position (λ (function : Function). is_at function.location location) (take (k + 1) functions)
unfolding one_if
numbers_more functions k function before after location once inside is so_far updates =
    let p : Function → Bool = λ (function : Function). is_at function.location location in
    let rest : drop k functions ≡ function ∷ drop (suc k) functions = drop-cons functions k function inside ∙ ap (λ (f : Function). f ∷ drop (suc k) functions) (sym is) in
    let whole : functions ≡ take k functions ++ function ∷ drop (suc k) functions = sym (take-append-drop k functions) ∙ ap (λ (fs : List Function). take k functions ++ fs) rest in
    let parts : count p functions ≡ count p (take k functions) + count p (function ∷ drop (suc k) functions) = ap (count p) whole ∙ count-append p (take k functions) (function ∷ drop (suc k) functions) in
    let longer : take (k + 1) functions ≡ take k functions ++ function ∷ [] = take_more functions k function inside ∙ ap (λ (f : Function). take k functions ++ f ∷ []) (sym is) in
    let size : length (take k functions) ≡ k = length-take-le k functions (omega arith) in
    let none : p function ≡ true → position p (take k functions) ≡ None = λ here. position-none p (take k functions) (omega (arith, parts, once location, count-is p functions, one_of p function (drop (suc k) functions) here)) in
    updates ∙ ap (λ b. cond b (Some k) (get location_cmp before location)) (is_eq-location_cmp function.location location)
    ∙ ap (λ o. cond (p function) (Some k) o) so_far
    ∙ place_by (position p (take k functions)) (p function) k none
    ∙ ap (λ (n : ℕ). or_last (position p (take k functions)) (p function) n) (sym size)
    ∙ sym (position-push p (take k functions) function) ∙ ap (position p) (sym longer)

-- no two functions of a board are at one location
pub once_each : (lines : List BoardLine) → board_fault lines ≡ None → OnceEach (functions lines)
once_each lines ok location = omega (arith, one_function lines ok location, count-is (λ (function : Function). is_at function.location location) (functions lines))

-- ---- the functions on a bus

range_from : (a n : ℕ) → range_with_len a (suc n) ≡ range_with_len a n ++ (a + n) ∷ []
range_from a zero = let same : a ≡ a + 0 = omega arith in ap (λ (m : ℕ). m ∷ []) same
range_from a (suc n) = let same : a + 1 + n ≡ a + suc n = omega arith in ap (λ (ms : List ℕ). a ∷ ms) (range_from (a + 1) n ∙ ap (λ (m : ℕ). range_with_len (a + 1) n ++ m ∷ []) same)

-- one more place
pub found_more : (lines : List BoardLine) (bus n : ℕ) (found : Option ℕ) → find_at lines (bus, n / 8, n % 8) ≡ found → functions_at lines bus (range_with_len 0 (n + 1)) ≡ functions_at lines bus (range_with_len 0 n) ++ cons_option found []
found_more lines bus n found is =
    let more : n + 1 ≡ suc n = omega arith in
    let last : 0 + n ≡ n = omega arith in
    ap (λ (m : ℕ). functions_at lines bus (range_with_len 0 m)) more
    ∙ ap (functions_at lines bus) (range_from 0 n ∙ ap (λ (m : ℕ). range_with_len 0 n ++ m ∷ []) last)
    ∙ filter_map-append (λ place. find_at lines (bus, place / 8, place % 8)) (range_with_len 0 n) (n ∷ [])
    ∙ ap (λ o. functions_at lines bus (range_with_len 0 n) ++ cons_option o []) is

-- at the end they are all places
pub found-all : (lines : List BoardLine) (bus n : ℕ) (numbers : List ℕ) → n ≡ 256 → numbers ≡ functions_at lines bus (range_with_len 0 n) → numbers ≡ functions_at lines bus positions_on_bus
unfolding positions_on_bus
found-all lines bus n numbers all is = is ∙ ap (λ (m : ℕ). functions_at lines bus (range_with_len 0 m)) all

-- ---- what is given of a front

-- one more element that gives nothing
pub given-none : {X Y : Type 0} (h : X → Option Y) (xs : List X) (k : ℕ) (x : X) → k < length xs → x ≡ get_or xs k x → filter_map h (take k xs) ≡ [] → h x ≡ None → filter_map h (take (k + 1) xs) ≡ []
given-none h xs k x inside is none gives =
    ap (filter_map h) (take_more xs k x inside ∙ ap (λ z. take k xs ++ z ∷ []) (sym is))
    ∙ filter_map-append h (take k xs) (x ∷ []) ∙ ap (λ zs. zs ++ cons_option (h x) []) none ∙ ap (λ o. cons_option o []) gives
