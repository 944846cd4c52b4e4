-- Changes of the rows that were made, how each is taken back, and what the open marks keep of the rows.
use Rattle.std.specs.Prelude.{ℕ, ◌-◌, Bool, false, List, [], ◌∷◌, length, map, take, Option, Some, None}
use Rattle.open_records.specs.OpenRecords.{RecordTable}
use Rattle.open_records.specs.Interfaces.{Interface}
use Rattle.record_rows.specs.Asking.{HasClass, HasName}
use Rattle.record_rows.specs.Inside.{Kept}
use Rattle.record_rows.specs.Rows.{Cuts, Line, RowsView, closed_at, counted_at, entries_of, with_both_cuts, with_name_cut}
use Rattle.record_log.specs.declared.record_change.RecordChange.{RecordChange}
use Rattle.record_log.specs.declared.tally.Tally.{Tally}
use Rattle.record_log.specs.declared.record_change.RecordChange.TheVariants.{Closed, Counted, Cut, Made}
use Rattle.undo_log.specs.AtMarks.{at_marks}
use Rattle.undo_log.specs.Log.{Section}

-- ---- one change

-- the rows at some places, closed or opened again
abbrev pub closed_each : List ℕ → Bool → List Line → List Line
closed_each [] closed lines = lines
closed_each (place ∷ places) closed lines = closed_each places closed (closed_at place closed lines)

-- both cuts of an interface set back to these, if any are given
abbrev pub with_interface_back : Interface → Option (ℕ × ℕ) → Cuts → Cuts
with_interface_back interface None cuts = cuts
with_interface_back interface (Some both) cuts = with_both_cuts interface both cuts

-- the cut of a handle number set back to this, if one is given
abbrev pub with_name_back : ℕ → Option ℕ → Cuts → Cuts
with_name_back name None cuts = cuts
with_name_back name (Some place) cuts = with_name_cut name place cuts

-- the rows before a change that was made
abbrev pub back : RecordChange → RowsView → RowsView
back Made rows = record rows { lines = take (length rows.lines - 1) rows.lines }
back (Counted place before) rows = record rows { lines = counted_at place before rows.lines }
back (Closed places) rows = record rows { lines = closed_each places false rows.lines }
back (Cut handle guid interface name) rows = record rows { cuts = with_name_back handle name (with_interface_back (handle, guid) interface rows.cuts) }

-- ---- what has cuts

-- what is given has cuts in the rows
abbrev pub IsInterfaceKnown : Interface → Option (ℕ × ℕ) → Kept → Type 0
IsInterfaceKnown interface None kept = Unit {0}
IsInterfaceKnown interface (Some both) kept = HasClass interface kept

abbrev pub IsNameKnown : ℕ → Option ℕ → Kept → Type 0
IsNameKnown name None kept = Unit {0}
IsNameKnown name (Some place) kept = HasName name kept

-- what a change has cut has cuts in the rows
abbrev pub IsKnown : RecordChange → Kept → Type 0
IsKnown Made kept = Unit {0}
IsKnown (Counted place before) kept = Unit {0}
IsKnown (Closed places) kept = Unit {0}
IsKnown (Cut handle guid interface name) kept = IsInterfaceKnown (handle, guid) interface kept × IsNameKnown handle name kept

abbrev pub AreKnown : List RecordChange → Kept → Type 0
AreKnown [] kept = Unit {0}
AreKnown (change ∷ changes) kept = IsKnown change kept × AreKnown changes kept

-- ---- the open marks

-- the marks as the log has them, each with the changes since and with the tally of the rows that it keeps
abbrev pub Sections : Type 0
Sections = List (Section RecordChange Tally)

-- what was cut since any mark has cuts in the rows
unfoldable pub AllKnown : Sections → Kept → Type 0
AllKnown [] kept = Unit {0}
AllKnown (newest ∷ older) kept = AreKnown newest.changes kept × AllKnown older kept

-- the rows at the open marks: the changes since each are taken back
unfoldable pub rows_at : Sections → RowsView → List RowsView
rows_at marks rows = at_marks back (λ carried (then : RowsView). then) marks rows

-- the table that rows give
abbrev pub table_of : (limit : ℕ) → RowsView → RecordTable
table_of limit rows = record { entries = entries_of rows; limit = limit }

-- the tables that the open marks keep
abbrev pub tables_at : (limit : ℕ) → Sections → RowsView → List RecordTable
tables_at limit marks rows = map (table_of limit) (rows_at marks rows)
