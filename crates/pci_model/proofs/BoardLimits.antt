-- A board is small: few roots and functions, at one location one function, few BARs and ROMs, and so few lines.
use Rattle.std.proofs.Common.{◌≡◌, ◌≤◌, ◌<◌, ◌+◌, ◌*◌, ℕ, Bool, true, false, ◌&&◌, nat_eq, nat_lt, nat_le, List, [], ◌∷◌, ◌++◌, length, Option, Some, None, if◌then◌else◌, refl, ap, sym, subst, ◌∙◌, arith, append-nil, length-append}
use Rattle.std.specs.Prelude.{is_none, is_some}
use Rattle.std.specs.List.{cons_option, filter_map, list_all, list_any}
use Rattle.std.proofs.lemmas.List.Folds.{list_all-append}
use Rattle.std.specs.Option.{option_map_or}
use Rattle.std.proofs.lemmas.Bool.Decides.{nat_tests}
use Rattle.pci_model.specs.BoardLines.{Location, find_at, function_of, functions, is_at, part_location, range_of, rom_location, root_of, roots}
use Rattle.pci_model.specs.BoardRules.{board_fault, has_bar, has_bridge, has_rom, highest_index}
use Rattle.pci_model.specs.declared.line.BoardLine.{BoardLine}
use Rattle.pci_model.specs.declared.line.BoardLine.TheVariants.{Root, Func, Bridge, Bar, Rom}
use Rattle.pci_model.specs.declared.function.Function.{Function}
use Rattle.pci_model.specs.declared.function.BarRange.{BarRange}
use Rattle.pci_model.proofs.PassingLines.{Passes, holds_of_board}
use Rattle.pci_model.proofs.CountLemmas.{count, count-none, count-push, filter_map-push, is_some-position, one_if, one_if-most, total, total-grows, total-most, total-push}

-- ---- how many roots and functions

-- a list that grows only below a limit stays within it
grown : {X : Type 0} (xs : List X) (found : Option X) (most : ℕ) → length xs ≤ most → is_some found && nat_le most (length xs) ≡ false → length (xs ++ cons_option found []) ≤ most
grown xs None most fits room = omega (arith, length-append xs [])
grown xs (Some x) most fits room =
    let less : length xs < most = grind (arith, nat_tests) in
    omega (arith, length-append xs (x ∷ []))

pub few_roots : (lines : List BoardLine) → board_fault lines ≡ None → length (roots lines) ≤ 16
few_roots lines ok =
    holds_of_board (λ (lines : List BoardLine). length (roots lines) ≤ 16)
    (λ before line here passes. rw (filter_map-push root_of before line) (grown (roots before) (root_of line) 16 here passes.roots))
    lines (omega arith) ok

pub few_functions : (lines : List BoardLine) → board_fault lines ≡ None → length (functions lines) ≤ 256
few_functions lines ok =
    holds_of_board (λ (lines : List BoardLine). length (functions lines) ≤ 256)
    (λ before line here passes. rw (filter_map-push function_of before line) (grown (functions before) (function_of line) 256 here passes.functions))
    lines (omega arith) ok

-- ---- locations

nat_eq-is : (a b : ℕ) → nat_eq a b ≡ true → a ≡ b
nat_eq-is a b h = grind (arith, nat_tests)

and-true : (a b : Bool) → a && b ≡ true → (a ≡ true) × (b ≡ true)
and-true true b h = (refl, h)
and-true false b h = absurd cc

-- locations that pass the test are one
pub is_at-same : (location other : Location) → is_at location other ≡ true → location ≡ other
is_at-same location other h =
    let first = and-true (nat_eq location.0 other.0 && nat_eq location.1 other.1) (nat_eq location.2 other.2) h in
    let second = and-true (nat_eq location.0 other.0) (nat_eq location.1 other.1) first.0 in
    ap (λ (n : ℕ). (n, location.1, location.2)) (nat_eq-is location.0 other.0 second.0)
    ∙ ap (λ (n : ℕ). (other.0, n, location.2)) (nat_eq-is location.1 other.1 second.1)
    ∙ ap (λ (n : ℕ). (other.0, other.1, n)) (nat_eq-is location.2 other.2 first.1)

pub is_at-refl : (location : Location) → is_at location location ≡ true
is_at-refl location =
    let a : nat_eq location.0 location.0 ≡ true = grind (arith, nat_tests) in
    let b : nat_eq location.1 location.1 ≡ true = grind (arith, nat_tests) in
    let c : nat_eq location.2 location.2 ≡ true = grind (arith, nat_tests) in
    rw (a, b, c) refl

pub is_at-sym : (location other : Location) → is_at location other ≡ is_at other location
is_at-sym location other =
    let a : nat_eq location.0 other.0 ≡ nat_eq other.0 location.0 = grind (arith, nat_tests) in
    let b : nat_eq location.1 other.1 ≡ nat_eq other.1 location.1 = grind (arith, nat_tests) in
    let c : nat_eq location.2 other.2 ≡ nat_eq other.2 location.2 = grind (arith, nat_tests) in
    rw (a, b, c) refl

-- ---- once each

once_by : {X : Type 0} (p : X → Bool) (xs : List X) (x : X) (b : Bool) → p x ≡ b → count p xs ≤ 1 → (p x ≡ true → list_any p xs ≡ false) → count p (xs ++ x ∷ []) ≤ 1
unfolding one_if
once_by p xs x true is one new = omega (arith, count-push p xs x, count-none p xs (new is), one_if-most (p x))
once_by p xs x false is one new = let none : one_if (p x) ≡ 0 = rw is refl in omega (arith, count-push p xs x, none)

-- a test that at most one element passes, and a new one only if none passed it before
once_more : {X : Type 0} (p : X → Bool) (xs : List X) (found : Option X) → count p xs ≤ 1 → ((x : X) → found ≡ Some x → p x ≡ true → list_any p xs ≡ false) → count p (xs ++ cons_option found []) ≤ 1
once_more p xs None one new = rw (append-nil xs) one
once_more p xs (Some x) one new = once_by p xs x (p x) refl one (new x refl)

none_counted : {X : Type 0} (p : X → Bool) → count p [] ≤ 1
unfolding count
none_counted p = omega arith

-- the answer of a test of what is found
pub tested : {X : Type 0} (test : X → Bool) (found : Option X) (x : X) → found ≡ Some x → option_map_or test found false ≡ false → test x ≡ false
tested test found x is h = ap (λ o. option_map_or test o false) (sym is) ∙ h

-- at each location there is at most one function
pub one_function : (lines : List BoardLine) → board_fault lines ≡ None → (location : Location) → count (λ (function : Function). is_at function.location location) (functions lines) ≤ 1
one_function lines ok location =
    holds_of_board (λ (lines : List BoardLine). count (λ (function : Function). is_at function.location location) (functions lines) ≤ 1)
    (λ before line here passes. rw (filter_map-push function_of before line)
    (once_more (λ (function : Function). is_at function.location location) (functions before) (function_of line) here (λ function is at.
    let none : is_some (find_at before function.location) ≡ false = tested (λ (function : Function). is_some (find_at before function.location)) (function_of line) function is passes.new_function in
    subst (λ (location : Location). list_any (λ (function : Function). is_at function.location location) (functions before) ≡ false) (is_at-same function.location location at)
    (sym (is_some-position (λ (other : Function). is_at other.location function.location) (functions before)) ∙ none))))
    lines (none_counted _) ok

-- of each index a function has at most one BAR
pub one_bar : (lines : List BoardLine) → board_fault lines ≡ None → (location : Location) (index : ℕ) → count (λ (range : BarRange). is_at range.location location && nat_eq range.index index) (filter_map range_of lines) ≤ 1
one_bar lines ok location index =
    holds_of_board (λ (lines : List BoardLine). count (λ (range : BarRange). is_at range.location location && nat_eq range.index index) (filter_map range_of lines) ≤ 1)
    (λ before line here passes. rw (filter_map-push range_of before line)
    (once_more (λ (range : BarRange). is_at range.location location && nat_eq range.index index) (filter_map range_of before) (range_of line) here (λ range is at.
    let both = and-true (is_at range.location location) (nat_eq range.index index) at in
    let none = tested (has_bar before) (range_of line) range is passes.new_bar in
    subst (λ (location : Location). list_any (λ (other : BarRange). is_at other.location location && nat_eq other.index index) (filter_map range_of before) ≡ false) (is_at-same range.location location both.0)
    (subst (λ (index : ℕ). list_any (λ (other : BarRange). is_at other.location range.location && nat_eq other.index index) (filter_map range_of before) ≡ false) (nat_eq-is range.index index both.1) none))))
    lines (none_counted _) ok

-- and one ROM
pub one_rom : (lines : List BoardLine) → board_fault lines ≡ None → (location : Location) → count (λ (other : Location). is_at other location) (filter_map rom_location lines) ≤ 1
one_rom lines ok location =
    holds_of_board (λ (lines : List BoardLine). count (λ (other : Location). is_at other location) (filter_map rom_location lines) ≤ 1)
    (λ before line here passes. rw (filter_map-push rom_location before line)
    (once_more (λ (other : Location). is_at other location) (filter_map rom_location before) (rom_location line) here (λ rom is at.
    subst (λ (location : Location). list_any (λ (other : Location). is_at other location) (filter_map rom_location before) ≡ false) (is_at-same rom location at)
    (tested (has_rom before) (rom_location line) rom is passes.new_rom))))
    lines (none_counted _) ok

-- ---- indexes

index_by : (before : List BoardLine) (location : Location) (bridge : Bool) (index : ℕ) → nat_lt (if bridge then 1 else 5) index ≡ false → nat_le index 5 ≡ true
index_by before location true index h = grind (arith, nat_tests)
index_by before location false index h = grind (arith, nat_tests)

pub all_more : {X : Type 0} (p : X → Bool) (xs : List X) (found : Option X) → list_all p xs ≡ true → ((x : X) → found ≡ Some x → p x ≡ true) → list_all p (xs ++ cons_option found []) ≡ true
all_more p xs None all new = rw (append-nil xs) all
all_more p xs (Some x) all new = list_all-append p xs (x ∷ []) ∙ rw (all, new x refl) refl

-- no index is above 5
pub low_indexes : (lines : List BoardLine) → board_fault lines ≡ None → list_all (λ (range : BarRange). nat_le range.index 5) (filter_map range_of lines) ≡ true
low_indexes lines ok =
    holds_of_board (λ (lines : List BoardLine). list_all (λ (range : BarRange). nat_le range.index 5) (filter_map range_of lines) ≡ true)
    (λ before line here passes. rw (filter_map-push range_of before line)
    (all_more (λ (range : BarRange). nat_le range.index 5) (filter_map range_of before) (range_of line) here (λ range is.
    index_by before range.location (has_bridge before range.location) range.index
    (tested (λ (range : BarRange). nat_lt (highest_index before range.location) range.index) (range_of line) range is passes.index))))
    lines refl ok

-- ---- how many BARs and ROMs a function has

of_index : Location → ℕ → BarRange → Bool
of_index location index range = is_at range.location location && nat_eq range.index index

-- a BAR has one of six indexes
one_of_six : (b : Bool) (index : ℕ) → nat_le index 5 ≡ true
    → one_if b ≤ one_if (b && nat_eq index 0) + one_if (b && nat_eq index 1) + one_if (b && nat_eq index 2) + one_if (b && nat_eq index 3) + one_if (b && nat_eq index 4) + one_if (b && nat_eq index 5)
unfolding one_if
one_of_six false index low = omega arith
one_of_six true index low = grind (arith, nat_tests)

-- so a function has as many as it has of each
six_counts : (location : Location) (ranges : List BarRange) → list_all (λ (range : BarRange). nat_le range.index 5) ranges ≡ true
    → count (λ (range : BarRange). is_at range.location location) ranges ≤ count (of_index location 0) ranges + count (of_index location 1) ranges + count (of_index location 2) ranges + count (of_index location 3) ranges + count (of_index location 4) ranges + count (of_index location 5) ranges
unfolding count of_index
six_counts location [] low = omega arith
six_counts location (range ∷ ranges) low =
    let both = and-true (nat_le range.index 5) (list_all (λ (range : BarRange). nat_le range.index 5) ranges) low in
    omega (arith, six_counts location ranges both.1, one_of_six (is_at range.location location) range.index both.0)

few_bars : (lines : List BoardLine) → board_fault lines ≡ None → (location : Location) → count (λ (range : BarRange). is_at range.location location) (filter_map range_of lines) ≤ 6
unfolding of_index
few_bars lines ok location =
    omega (arith, six_counts location (filter_map range_of lines) (low_indexes lines ok), one_bar lines ok location 0, one_bar lines ok location 1, one_bar lines ok location 2, one_bar lines ok location 3, one_bar lines ok location 4, one_bar lines ok location 5)

-- the lines of BARs and ROMs of the function at a location
owned : (location : Location) (lines : List BoardLine) → count (λ (other : Location). is_at other location) (filter_map part_location lines) ≡ count (λ (range : BarRange). is_at range.location location) (filter_map range_of lines) + count (λ (other : Location). is_at other location) (filter_map rom_location lines)
unfolding count
owned location [] = omega arith
owned location (Root uid bus ∷ lines) = owned location lines
owned location (Func bus device function vendor id class ∷ lines) = owned location lines
owned location (Bridge bus device function vendor id secondary ∷ lines) = owned location lines
owned location (Bar bus device function index address size ∷ lines) = omega (arith, owned location lines)
owned location (Rom bus device function name ∷ lines) = omega (arith, owned location lines)

few_owned : (lines : List BoardLine) → board_fault lines ≡ None → (location : Location) → count (λ (other : Location). is_at other location) (filter_map part_location lines) ≤ 7
few_owned lines ok location = omega (arith, owned location lines, few_bars lines ok location, one_rom lines ok location)

-- ---- and each is of some function

-- the lines of BARs and ROMs are as many as those of each function together
OwnedTogether : List BoardLine → Type 0
OwnedTogether lines = length (filter_map part_location lines) ≤ total (λ (function : Function). count (λ (other : Location). is_at other function.location) (filter_map part_location lines)) (functions lines)

CountedFor : List Location → Function → ℕ
CountedFor owners function = count (λ (other : Location). is_at other function.location) owners

not_none : {X : Type 0} (found : Option X) → is_none found ≡ false → is_some found ≡ true
not_none None h = absurd cc
not_none (Some x) h = refl

-- one more BAR or ROM, of a function that is there
one_owned : (before : List BoardLine) (owners : List Location) (location : Location) → length owners ≤ total (CountedFor owners) (functions before) → is_none (find_at before location) ≡ false
    → length (owners ++ location ∷ []) ≤ total (CountedFor (owners ++ location ∷ [])) (functions before)
unfolding CountedFor
one_owned before owners location here found =
    let owner : list_any (λ (function : Function). is_at function.location location) (functions before) ≡ true =
    sym (is_some-position (λ (function : Function). is_at function.location location) (functions before)) ∙ not_none (find_at before location) found in
    let grows : total (CountedFor owners) (functions before) + 1 ≤ total (CountedFor (owners ++ location ∷ [])) (functions before) =
    total-grows (CountedFor owners) (CountedFor (owners ++ location ∷ [])) (λ (function : Function). is_at function.location location) (functions before) (λ function.
    let same : one_if (is_at function.location location) ≡ one_if (is_at location function.location) = ap one_if (is_at-sym function.location location) in
    omega (arith, count-push (λ (other : Location). is_at other function.location) owners location)) owner in
    omega (arith, length-append owners (location ∷ []))

-- one more function
one_function_more : (before : List BoardLine) (owners : List Location) (function : Function) → length owners ≤ total (CountedFor owners) (functions before) → length owners ≤ total (CountedFor owners) (functions before ++ function ∷ [])
one_function_more before owners function here = omega (arith, total-push (CountedFor owners) (functions before) function)

owned_more : (before : List BoardLine) (line : BoardLine) → OwnedTogether before → Passes before line → OwnedTogether (before ++ line ∷ [])
unfolding OwnedTogether CountedFor
owned_more before (Root uid bus) here passes =
    rw (filter_map-push part_location before (Root uid bus), filter_map-push function_of before (Root uid bus), append-nil (filter_map part_location before), append-nil (functions before)) here
owned_more before (Func bus device function vendor id class) here passes =
    let line = Func bus device function vendor id class in
    rw (filter_map-push part_location before line, filter_map-push function_of before line, append-nil (filter_map part_location before))
    (one_function_more before (filter_map part_location before) _ here)
owned_more before (Bridge bus device function vendor id secondary) here passes =
    let line = Bridge bus device function vendor id secondary in
    rw (filter_map-push part_location before line, filter_map-push function_of before line, append-nil (filter_map part_location before))
    (one_function_more before (filter_map part_location before) _ here)
owned_more before (Bar bus device function index address size) here passes =
    let line = Bar bus device function index address size in
    rw (filter_map-push part_location before line, filter_map-push function_of before line, append-nil (functions before))
    (one_owned before (filter_map part_location before) (bus, device, function) here passes.owner)
owned_more before (Rom bus device function name) here passes =
    let line = Rom bus device function name in
    rw (filter_map-push part_location before line, filter_map-push function_of before line, append-nil (functions before))
    (one_owned before (filter_map part_location before) (bus, device, function) here passes.owner)

no_owner : OwnedTogether []
unfolding OwnedTogether
no_owner = omega arith

few_owners : (lines : List BoardLine) → board_fault lines ≡ None → length (filter_map part_location lines) ≤ 7 * length (functions lines)
unfolding OwnedTogether
few_owners lines ok =
    let together = holds_of_board OwnedTogether owned_more lines no_owner ok in
    omega (arith, together, total-most (λ (function : Function). count (λ (other : Location). is_at other function.location) (filter_map part_location lines)) 7 (functions lines) (λ function. few_owned lines ok function.location))

-- a line is a root's, a function's, or of a BAR or a ROM
pub kinds_of_lines : (lines : List BoardLine) → length lines ≡ length (roots lines) + length (functions lines) + length (filter_map part_location lines)
kinds_of_lines [] = omega arith
kinds_of_lines (Root uid bus ∷ lines) = omega (arith, kinds_of_lines lines)
kinds_of_lines (Func bus device function vendor id class ∷ lines) = omega (arith, kinds_of_lines lines)
kinds_of_lines (Bridge bus device function vendor id secondary ∷ lines) = omega (arith, kinds_of_lines lines)
kinds_of_lines (Bar bus device function index address size ∷ lines) = omega (arith, kinds_of_lines lines)
kinds_of_lines (Rom bus device function name ∷ lines) = omega (arith, kinds_of_lines lines)

-- 16 roots, and 256 functions with their own line, 6 BARs and a ROM each
pub few_lines : (lines : List BoardLine) → board_fault lines ≡ None → length lines ≤ 2064
few_lines lines ok = omega (arith, kinds_of_lines lines, few_roots lines ok, few_functions lines ok, few_owners lines ok)
