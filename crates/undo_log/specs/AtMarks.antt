-- What a log is for: the states at its open marks, found by taking the changes back from the state now.
use Rattle.std.specs.Prelude.{◌≡◌, List, [], ◌∷◌, drop, Some, None}
use Rattle.undo_log.specs.Log.{Section, committed, last_change, marked, noted, without_last}

-- the state before some changes, the last of which comes first
abbrev pub undone : {C S : Type 0} (back : C → S → S) → List C → S → S
undone back [] now = now
undone back (change ∷ changes) now = undone back changes (back change now)

-- The states at the open marks, the newest first. `back` takes a change back. `kept` is what a mark keeps of the
-- state at that mark, given what the mark carries.
abbrev pub at_marks : {C P S : Type 0} (back : C → S → S) (kept : P → S → S) → List (Section C P) → S → List S
at_marks back kept [] now = []
at_marks back kept (newest ∷ older) now =
    let then = undone back newest.changes now in
    kept newest.carried then ∷ at_marks back kept older then

-- a mark keeps the state as it is, and the older marks keep what they kept
abbrev pub MarkingKeeps : Type 0 → Type 0 → Type 0 → Type 0
MarkingKeeps C P S =
    (back : C → S → S) (kept : P → S → S) (carried : P) (marks : List (Section C P)) (now : S)
    → at_marks back kept (marked carried marks) now ≡ kept carried now ∷ at_marks back kept marks now

-- a change that was made and noted, and that `back` takes back, leaves what the marks keep
abbrev pub NotingKeeps : Type 0 → Type 0 → Type 0 → Type 0
NotingKeeps C P S =
    (back : C → S → S) (kept : P → S → S) (change : C) (marks : List (Section C P)) (before after : S)
    → back change after ≡ before → at_marks back kept (noted change marks) after ≡ at_marks back kept marks before

-- and so does taking the last change back
abbrev pub TakingKeeps : Type 0 → Type 0 → Type 0 → Type 0
TakingKeeps C P S =
    (back : C → S → S) (kept : P → S → S) (change : C) (marks : List (Section C P)) (now : S)
    → last_change marks ≡ Some change → at_marks back kept (without_last marks) (back change now) ≡ at_marks back kept marks now

-- once all changes since the newest mark are taken back, the state now is the one at that mark
abbrev pub TakenIsMarked : Type 0 → Type 0 → Type 0 → Type 0
TakenIsMarked C P S =
    (back : C → S → S) (kept : P → S → S) (newest : Section C P) (older : List (Section C P)) (now : S)
    → last_change (newest ∷ older) ≡ None → at_marks back kept (newest ∷ older) now ≡ kept newest.carried now ∷ at_marks back kept older now

-- closing the newest mark leaves what the older ones keep
abbrev pub CommittingKeeps : Type 0 → Type 0 → Type 0 → Type 0
CommittingKeeps C P S =
    (back : C → S → S) (kept : P → S → S) (marks : List (Section C P)) (now : S)
    → at_marks back kept (committed marks) now ≡ drop 1 (at_marks back kept marks now)
