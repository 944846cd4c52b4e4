-- How the log keeps its marks: in one list of changes, each mark by how many changes there were when it was
-- made.
use Rattle.std.specs.Prelude.{◌≡◌, ◌≤◌, ℕ, List, [], ◌∷◌, take, drop, reverse}
use Rattle.fw_types.specs.declared.limits.TheConstants.{MOST_MARKS}
use Rattle.undo_log.specs.Log.{Section}
use Rattle.undo_log.specs.declared.mark.OpenMark.{OpenMark}

-- the marks, the newest first, each with the changes since, of a list with the first change first
abbrev pub sections : {C P : Type 0} → List (OpenMark P) → List C → List (Section C P)
sections [] changes = []
sections (newest ∷ older) changes =
    record { carried = newest.carried; changes = reverse (drop newest.start changes) } ∷ sections older (take newest.start changes)

-- No mark was made later than the next newer one, nor than the last change. The outermost mark was made before
-- all changes, so there is none without a mark.
abbrev pub AreStarts : {P : Type 0} → ℕ → List (OpenMark P) → Type 0
AreStarts count [] = count ≡ 0
AreStarts count (newest ∷ older) = (newest.start ≤ count) × AreStarts newest.start older

-- what holds inside a log: its marks are in order, and it has room for as many as may be open
pub record IsInside {P : Type 0} (count : ℕ) (marks : List (OpenMark P)) (capacity : ℕ) : Type 0 where
  pub starts : AreStarts count marks
  pub room : MOST_MARKS ≤ capacity
