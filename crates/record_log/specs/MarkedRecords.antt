-- The open records with their marks, and what is removed with an interface.
use Rattle.std.specs.Prelude.{ℕ, Bool, List, [], ◌∷◌, None, if◌then◌else◌}
use Rattle.fw_types.specs.declared.attr.TheConstants.Attr.{ALL_BITS}
use Rattle.open_records.specs.Leaving.{cut, is_meant, swept}
use Rattle.open_records.specs.OpenRecords.{RecordTable}

-- the open records now, and those that the open marks keep, the newest mark's first
pub record MarkedRecords : Type 0 where
  pub now : RecordTable
  pub marks : List RecordTable

-- the records that the newest mark keeps, or those now if none is open
abbrev pub newest_of : (marks : List RecordTable) → (now : RecordTable) → RecordTable
newest_of [] now = now
newest_of (kept ∷ older) now = kept

-- what the older marks keep
abbrev pub older_marks : List RecordTable → List RecordTable
older_marks [] = []
older_marks (kept ∷ older) = older

-- All records of an interface are removed with it. If its handle goes with it, so do those that name the handle.
abbrev pub interface_cut : ℕ → List ℕ → (goes : Bool) → RecordTable → RecordTable
interface_cut handle guid goes table =
    if goes then swept handle (cut handle guid (is_meant None None ALL_BITS) table) else cut handle guid (is_meant None None ALL_BITS) table
