-- Numbers that are each taken once.
use Rattle.std.proofs.Common.{◌≡◌, ℕ, Bool, true, false, not, ◌&&◌, ◌||◌, nat_eq, List, [], ◌∷◌, ◌++◌, filter, refl, sym, ap, ◌∙◌, inl, inr, append_assoc}
use Rattle.std.specs.List.{list_any}
use Rattle.std.proofs.lemmas.List.{append-nil}
use Rattle.std.proofs.lemmas.List.Folds.{list_any-append}
use Rattle.std.proofs.lemmas.Bool.{both_ways, cases_Bool, eqb-true}
use Rattle.open_records.specs.Managing.{once_each}
use Rattle.open_records.specs.NumberLists.{joined, with_number}
use Rattle.open_records.proofs.ListLemmas.{filter_both}

-- those that a list does not have
abbrev is_new : List ℕ → ℕ → Bool
is_new found number = not (list_any (λ other. nat_eq other number) found)

not_both : (a b : Bool) → (b ≡ true → a ≡ true) → not a ≡ (not b && not a)
not_both true true implies = refl
not_both true false implies = refl
not_both false true implies = absurd (both_ways false refl (implies refl))
not_both false false implies = refl

not_either : (a b : Bool) → not (a || (b || false)) ≡ (not b && not a)
not_either true true = refl
not_either true false = refl
not_either false true = refl
not_either false false = refl

-- a number that is there already
skipped : (found : List ℕ) (number : ℕ) (numbers : List ℕ) → list_any (λ o. nat_eq o number) found ≡ true → filter (is_new found) (filter (λ other. not (nat_eq number other)) numbers) ≡ filter (is_new found) numbers
skipped found number numbers there =
    filter_both (λ other. not (nat_eq number other)) (is_new found) (is_new found) numbers
    (λ other. not_both (list_any (λ o. nat_eq o other) found) (nat_eq number other) (λ same. let is : number ≡ other = eqb-true number other same in ap (λ n. list_any (λ o. nat_eq o n) found) (sym is) ∙ there))

taken : (found : List ℕ) (number : ℕ) (numbers : List ℕ) → filter (is_new found) (filter (λ other. not (nat_eq number other)) numbers) ≡ filter (is_new (found ++ number ∷ [])) numbers
taken found number numbers =
    filter_both (λ other. not (nat_eq number other)) (is_new found) (is_new (found ++ number ∷ [])) numbers
    (λ other. ap not (list_any-append (λ o. nat_eq o other) found (number ∷ [])) ∙ not_either (list_any (λ o. nat_eq o other) found) (nat_eq number other))

joined_is : (found numbers : List ℕ) → joined found numbers ≡ found ++ filter (is_new found) (once_each numbers)
joined_is found [] = sym (append-nil found)
joined_is found (number ∷ numbers) = elim (cases_Bool (list_any (λ o. nat_eq o number) found)) [
  | inl there ↦
      rw there (joined_is found numbers ∙ ap (λ l. found ++ l) (sym (skipped found number (once_each numbers) there)))
  | inr new ↦
      rw new (joined_is (found ++ number ∷ []) numbers ∙ append_assoc found (number ∷ []) (filter (is_new (found ++ number ∷ [])) (once_each numbers)) ∙ ap (λ l. found ++ number ∷ l) (sym (taken found number (once_each numbers))))
]

all_new : (numbers : List ℕ) → filter (is_new []) numbers ≡ numbers
all_new [] = refl
all_new (number ∷ numbers) = ap (λ l. number ∷ l) (all_new numbers)

-- each number once, as the code collects them
pub once_joined : (numbers : List ℕ) → joined [] numbers ≡ once_each numbers
once_joined numbers = joined_is [] numbers ∙ all_new (once_each numbers)

pub joined-append : (found numbers more : List ℕ) → joined found (numbers ++ more) ≡ joined (joined found numbers) more
joined-append found [] more = refl
joined-append found (number ∷ numbers) more = joined-append (with_number number found) numbers more
