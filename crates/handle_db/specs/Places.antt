-- Handles and interfaces by their places, as the code reaches them.
use Rattle.std.specs.Prelude.{◌≡◌, ℕ, ◌<◌, ◌≤◌, List, length, remove, slice_index_or}
use Rattle.handle_db.specs.declared.handle_entry.HandleEntry.{HandleEntry}

-- whether a handle is at a place
pub record IsPlaceOf (handle : ℕ) (entries : List HandleEntry) (place : ℕ) : Type 0 where
  pub within : place < length entries
  pub here : (other : HandleEntry) → (slice_index_or entries place other).handle ≡ handle

-- whether a handle fits in at a place: the handles before that place have lesser numbers, and those from it on have
-- greater ones
pub record IsRoomFor (handle : ℕ) (entries : List HandleEntry) (place : ℕ) : Type 0 where
  pub within : place ≤ length entries
  pub before : (k : ℕ) (other : HandleEntry) → k < place → (slice_index_or entries k other).handle < handle
  pub after : (k : ℕ) (other : HandleEntry) → place ≤ k → k < length entries → handle < (slice_index_or entries k other).handle

-- an entry without the interface at a place
abbrev pub removed_at : ℕ → HandleEntry → HandleEntry
removed_at place entry = record entry { interfaces = remove entry.interfaces place }
