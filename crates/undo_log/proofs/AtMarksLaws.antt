-- The laws of the states at the marks.
use Rattle.std.proofs.Common.{◌≡◌, List, [], ◌∷◌, ◌++◌, slice_get, None, refl, ap}
use Rattle.undo_log.specs.AtMarks.{CommittingKeeps, TakenIsMarked, at_marks, undone}

-- if nothing is left, nothing is taken back
none_left : {C S : Type 0} (back : C → S → S) (changes : List C) (now : S) → slice_get changes 0 ≡ None → undone back changes now ≡ now
none_left back [] now is = refl
none_left back (first ∷ changes) now is = absurd cc

pub taken : {C P S : Type 0} → TakenIsMarked C P S
taken {C} {P} {S} back kept newest older now is =
    ap (λ (then : S). kept newest.carried then ∷ at_marks back kept older then) (none_left back newest.changes now is)

-- first the later changes, then the earlier ones
undone-append : {C S : Type 0} (back : C → S → S) (later earlier : List C) (now : S) → undone back (later ++ earlier) now ≡ undone back earlier (undone back later now)
undone-append back [] earlier now = refl
undone-append back (change ∷ later) earlier now = undone-append back later earlier (back change now)

pub committing : {C P S : Type 0} → CommittingKeeps C P S
committing back kept [] now = refl
committing back kept (newest ∷ []) now = refl
committing {C} {P} {S} back kept (newest ∷ (next ∷ older)) now =
    ap (λ (then : S). kept next.carried then ∷ at_marks back kept older then) (undone-append back newest.changes next.changes now)
