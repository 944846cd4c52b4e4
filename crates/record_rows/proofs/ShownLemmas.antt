-- What is listed of interfaces, as it changes.
use Rattle.std.proofs.Common.{◌≡◌, ◌<◌, ◌≤◌, ◌+◌, ◌^◌, ◌-◌, ℕ, zero, suc, Bool, true, false, ◌&&◌, nat_eq, nat_lt, min, List, [], ◌∷◌, ◌++◌, length, map, set, Option, Some, None, refl, sym, ap, subst, ◌∙◌, arith}
use Rattle.std.specs.Prelude.{slice_get}
use Rattle.std.proofs.lemmas.Bool.{and_parts, eqb-true}
use Rattle.std.proofs.lemmas.Bool.Decides.{nat_tests}
use Rattle.record_rows.specs.ShownPlaces.{AreStamped, IsAddedOrOld, is_fresh, listed_at, listed_in, with_place_if}
use Rattle.record_rows.specs.declared.shown_places.ShownList.{ShownList}
use Rattle.record_rows.proofs.NumberLemmas.{by_last}

abbrev pub listed_by : (changes : ℕ) → List ShownList → List (Option (List ℕ))
listed_by changes lists = map (listed_in changes) lists

-- ---- one number

pub at_number : (changes number : ℕ) (lists : List ShownList) (one : ShownList) → slice_get lists number ≡ Some one → listed_at number (listed_by changes lists) ≡ listed_in changes one
at_number changes number [] one is = absurd cc
at_number changes zero (first ∷ lists) one is = let same : first ≡ one = cc in ap (listed_in changes) same
at_number changes (suc number) (first ∷ lists) one is = at_number changes number lists one is

pub no_number : (changes number : ℕ) (lists : List ShownList) → slice_get lists number ≡ None → listed_at number (listed_by changes lists) ≡ None
no_number changes number [] is = refl
no_number changes zero (first ∷ lists) is = absurd cc
no_number changes (suc number) (first ∷ lists) is = no_number changes number lists is

pub old_in : (changes : ℕ) (one : ShownList) → is_fresh changes one.stamp ≡ false → listed_in changes one ≡ None
old_in changes one old = rw old refl

-- ---- a later change

pub none_later : (changes later : ℕ) (lists : List ShownList) → AreStamped changes lists → is_fresh later changes ≡ false → changes ≤ later → (number : ℕ) → listed_at number (listed_by later lists) ≡ None
none_later changes later lists are old le number = by_row (slice_get lists number) refl
  where
    not_fresh : (stamp : ℕ) → stamp ≤ changes → is_fresh later stamp ≡ false
    not_fresh stamp before = by_test (nat_eq stamp later) (nat_lt later (2 ^ 64 - 1)) refl refl
      where
        by_test : (a b : Bool) → nat_eq stamp later ≡ a → nat_lt later (2 ^ 64 - 1) ≡ b → (a && b) ≡ false
        by_test false b is below = refl
        by_test true false is below = refl
        by_test true true is below =
            let same : stamp ≡ later = eqb-true stamp later is in
            let last : changes ≡ later = omega (arith, same, before, le) in
            let fresh : is_fresh later changes ≡ true = ap (λ (n : ℕ). nat_eq n later && nat_lt later (2 ^ 64 - 1)) (last ∙ sym same) ∙ rw (is, below) refl in
            absurd cc

    by_row : (row : Option ShownList) → slice_get lists number ≡ row → listed_at number (listed_by later lists) ≡ None
    by_row None is = no_number later number lists is
    by_row (Some one) is = at_number later number lists one is ∙ old_in later one (not_fresh one.stamp (are.each number one is))

-- the number of one more change, as far as numbers go
pub later_change : (changes later : ℕ) → changes < 2 ^ 64 → later ≡ min (changes + 1) (2 ^ 64 - 1) → (is_fresh later changes ≡ false) × (changes ≤ later)
later_change changes later fits is = (grind (arith, nat_tests, fits, is), omega (arith, fits, is))

-- ---- one more number

pub stamped_pushed : (changes : ℕ) (lists : List ShownList) (one : ShownList) → AreStamped changes lists → one.stamp ≤ changes → AreStamped changes (lists ++ one ∷ [])
stamped_pushed changes lists one are le = record { some = are.some; each = by_last (λ (number : ℕ) (other : ShownList). other.stamp ≤ changes) lists one are.each le }

pub listed_pushed : (changes : ℕ) (lists : List ShownList) (one : ShownList) → 1 ≤ changes → one.stamp ≡ 0 → (other : ℕ) → listed_at other (listed_by changes (lists ++ one ∷ [])) ≡ listed_at other (listed_by changes lists)
listed_pushed changes [] one some zero_stamp zero = old_in changes one (let apart : nat_eq one.stamp changes ≡ false = grind (arith, nat_tests, some, zero_stamp) in rw apart refl)
listed_pushed changes [] one some zero_stamp (suc other) = refl
listed_pushed changes (first ∷ lists) one some zero_stamp zero = refl
listed_pushed changes (first ∷ lists) one some zero_stamp (suc other) = listed_pushed changes lists one some zero_stamp other

-- ---- one number is set

pub others_set : (changes number : ℕ) (lists : List ShownList) (one : ShownList) (other : ℕ) → nat_eq other number ≡ false → listed_at other (listed_by changes (set lists number one)) ≡ listed_at other (listed_by changes lists)
others_set changes zero [] one other differs = refl
others_set changes (suc number) [] one other differs = refl
others_set changes zero (first ∷ lists) one zero differs = let clash : true ≡ false = differs in absurd cc
others_set changes zero (first ∷ lists) one (suc other) differs = refl
others_set changes (suc number) (first ∷ lists) one zero differs = refl
others_set changes (suc number) (first ∷ lists) one (suc other) differs = others_set changes number lists one other (grind (arith, nat_tests, differs))

pub stamped_set : (changes number : ℕ) (lists : List ShownList) (one : ShownList) → AreStamped changes lists → one.stamp ≤ changes → AreStamped changes (set lists number one)
stamped_set changes number lists one are le = record { some = are.some; each = each_set number lists are.each }
  where
    each_set : (n : ℕ) (others : List ShownList) → ((m : ℕ) (other : ShownList) → slice_get others m ≡ Some other → other.stamp ≤ changes) → (m : ℕ) (other : ShownList) → slice_get (set others n one) m ≡ Some other → other.stamp ≤ changes
    each_set zero [] each m other is = each m other is
    each_set (suc n) [] each m other is = each m other is
    each_set zero (first ∷ others) each zero other is = let same : one ≡ other = cc in subst (λ (l : ShownList). l.stamp ≤ changes) same le
    each_set zero (first ∷ others) each (suc m) other is = each (suc m) other is
    each_set (suc n) (first ∷ others) each zero other is = each zero other is
    each_set (suc n) (first ∷ others) each (suc m) other is = each_set n others (λ k. each (suc k)) m other is

pub here_set : (changes number : ℕ) (lists : List ShownList) (one : ShownList) → number < length lists → listed_at number (listed_by changes (set lists number one)) ≡ listed_in changes one
here_set changes number [] one lt = absurd (omega (arith, lt))
here_set changes zero (first ∷ lists) one lt = refl
here_set changes (suc number) (first ∷ lists) one lt = here_set changes number lists one (omega (arith, lt))

-- what is there now is what is wanted, if it is up to date
pub is_set : (changes number : ℕ) (lists : List ShownList) (one : ShownList) → number < length lists → one.stamp ≡ changes → (other : List ℕ) → listed_at number (listed_by changes (set lists number one)) ≡ Some other
    → ◌≡◌ {A = Option (List ℕ)} (Some one.places.items) (Some other)
is_set changes number lists one within same other is = by_test (is_fresh changes one.stamp) refl
  where
    by_test : (b : Bool) → is_fresh changes one.stamp ≡ b → ◌≡◌ {A = Option (List ℕ)} (Some one.places.items) (Some other)
    by_test true fresh = (let value : listed_in changes one ≡ Some one.places.items = rw fresh refl in sym value ∙ sym (here_set changes number lists one within) ∙ is)
    by_test false old = let none : listed_at number (listed_by changes (set lists number one)) ≡ None = here_set changes number lists one within ∙ old_in changes one old in absurd cc

-- one more place is there, or nothing
pub is_added : (changes number place : ℕ) (lists : List ShownList) (old new : ShownList) → 1 ≤ changes → number < length lists → slice_get lists number ≡ Some old → IsAddedOrOld place old new
    → (other : List ℕ) → listed_at number (listed_by changes (set lists number new)) ≡ Some other → with_place_if true place (listed_at number (listed_by changes lists)) ≡ Some other
is_added changes number place lists old new some within at added other is = by_test (is_fresh changes new.stamp) refl
  where
    here : listed_at number (listed_by changes (set lists number new)) ≡ listed_in changes new
    here = here_set changes number lists new within

    by_test : (b : Bool) → is_fresh changes new.stamp ≡ b → with_place_if true place (listed_at number (listed_by changes lists)) ≡ Some other
    by_test false stale = let none : listed_at number (listed_by changes (set lists number new)) ≡ None = here ∙ old_in changes new stale in absurd cc
    by_test true fresh =
        let stamp : new.stamp ≡ changes = eqb-true new.stamp changes (and_parts (nat_eq new.stamp changes) (nat_lt changes (2 ^ 64 - 1)) fresh).0 in
        let apart : nat_eq new.stamp 0 ≡ false = grind (arith, nat_tests, some, stamp) in
        let was : is_fresh changes old.stamp ≡ true = ap (is_fresh changes) (sym (added.same apart)) ∙ fresh in
        let value : listed_in changes new ≡ Some new.places.items = rw fresh refl in
        let before : listed_in changes old ≡ Some old.places.items = rw was refl in
        ap (with_place_if true place) (at_number changes number lists old at ∙ before) ∙ ap Some (sym (added.added apart)) ∙ sym value ∙ sym here ∙ is

pub listed_long : (changes : ℕ) (lists : List ShownList) → length (listed_by changes lists) ≡ length lists
listed_long changes [] = refl
listed_long changes (one ∷ lists) = ap suc (listed_long changes lists)
