-- Places in lists.
use Rattle.std.proofs.Common.{◌≡◌, ◌≤◌, ℕ, Bool, true, false, cond, nat_le, nat_lt, List, [], ◌∷◌, length, Some, None, refl, ap, arith}
use Rattle.std.specs.Prelude.{insert, unwrap_or}
use Rattle.std.specs.List.{position, position_or_len}
use Rattle.std.proofs.Math.Numerals.{one-add}
use Rattle.std.proofs.lemmas.Bool.Decides.{nat_tests}
use Rattle.world_model.specs.declared.thunk.Thunk.{Thunk}
use Rattle.world_model.specs.Undo.{with_thunk}

place_more : {X : Type 0} (test : X → Bool) (x : X) (xs : List X) (here : Bool) → test x ≡ here → position_or_len test xs ≤ length xs → position_or_len test (x ∷ xs) ≤ length (x ∷ xs)
place_more test x xs true is later = rw is (omega arith)
place_more test x xs false is later = rw is (omega (arith, later))

-- a place is one of the list, or its length
pub place_within : {X : Type 0} (test : X → Bool) (xs : List X) → position_or_len test xs ≤ length xs
place_within test [] = omega arith
place_within test (x ∷ xs) = place_more test x xs (test x) refl (place_within test xs)

placed_more : (place size : ℕ) (within : Bool) → nat_lt place size ≡ within → place ≤ size → unwrap_or (cond within (Some place) None) size ≡ place
placed_more place size true is le = refl
placed_more place size false is le = grind (arith, nat_tests, is, le)

-- the place, or the length if no element passes
pub placed : {X : Type 0} (test : X → Bool) (xs : List X) → unwrap_or (position test xs) (length xs) ≡ position_or_len test xs
placed test xs = placed_more (position_or_len test xs) (length xs) (nat_lt (position_or_len test xs) (length xs)) refl (place_within test xs)

by_number-more : (new thunk : Thunk) (thunks : List Thunk) (before : Bool) → nat_lt thunk.number new.number ≡ before
    → with_thunk new thunks ≡ insert thunks (position_or_len (λ (t : Thunk). nat_le new.number t.number) thunks) new
    → cond before (thunk ∷ with_thunk new thunks) (new ∷ thunk ∷ thunks) ≡ insert (thunk ∷ thunks) (position_or_len (λ (t : Thunk). nat_le new.number t.number) (thunk ∷ thunks)) new
by_number-more new thunk thunks true is later =
    let on : nat_le new.number thunk.number ≡ false = grind (arith, nat_tests, is) in
    rw on (rw one-add (ap (λ others. thunk ∷ others) later))
by_number-more new thunk thunks false is later =
    let on : nat_le new.number thunk.number ≡ true = grind (arith, nat_tests, is) in
    rw on refl

-- a thunk in its place by number
pub by_number : (new : Thunk) (thunks : List Thunk) → with_thunk new thunks ≡ insert thunks (position_or_len (λ (t : Thunk). nat_le new.number t.number) thunks) new
by_number new [] = refl
by_number new (thunk ∷ thunks) = by_number-more new thunk thunks (nat_lt thunk.number new.number) refl (by_number new thunks)
