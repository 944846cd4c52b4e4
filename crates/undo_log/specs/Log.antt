-- An undo log: the changes since each open mark.
use Rattle.std.specs.Prelude.{ℕ, Bool, true, false, ◌||◌, List, [], ◌∷◌, ◌++◌, length, drop, slice_get, Option, Some, None}

-- an open mark: what it carries, and the changes from it to the next newer mark, or to now, the last first
pub record Section (C P : Type 0) : Type 0 where
  pub carried : P
  pub changes : List C

-- the open marks, the newest first, and whether there is room for one more change
pub record LogView (C P : Type 0) : Type 0 where
  pub marks : List (Section C P)
  pub room : Bool

-- how many marks are open
abbrev pub depth : {C P : Type 0} → LogView C P → ℕ
depth log = length log.marks

-- whether no mark is open
abbrev pub is_unmarked : {C P : Type 0} → List (Section C P) → Bool
is_unmarked [] = true
is_unmarked (newest ∷ older) = false

-- whether the next change can be noted without taking memory: no mark is open, so that it is dropped, or there
-- is room
abbrev pub has_room : {C P : Type 0} → LogView C P → Bool
has_room log = is_unmarked log.marks || log.room

-- one more mark, with no changes since
abbrev pub marked : {C P : Type 0} → P → List (Section C P) → List (Section C P)
marked carried marks = record { carried = carried; changes = [] } ∷ marks

-- one more change since the newest mark; without a mark it is dropped
abbrev pub noted : {C P : Type 0} → C → List (Section C P) → List (Section C P)
noted change [] = []
noted change (newest ∷ older) = record newest { changes = change ∷ newest.changes } ∷ older

-- the last change since the newest mark
abbrev pub last_change : {C P : Type 0} → List (Section C P) → Option C
last_change [] = None
last_change (newest ∷ older) = slice_get newest.changes 0

-- and the marks without it
abbrev pub without_last : {C P : Type 0} → List (Section C P) → List (Section C P)
without_last [] = []
without_last (newest ∷ older) = record newest { changes = drop 1 newest.changes } ∷ older

-- The newest mark is closed. Its changes, which are later, come before those since the next older mark; without
-- an older mark they are dropped.
abbrev pub committed : {C P : Type 0} → List (Section C P) → List (Section C P)
committed [] = []
committed (newest ∷ []) = []
committed (newest ∷ (next ∷ older)) = record next { changes = newest.changes ++ next.changes } ∷ older

-- what the newest mark carries
abbrev pub carried : {C P : Type 0} → List (Section C P) → Option P
carried [] = None
carried (newest ∷ older) = Some newest.carried
