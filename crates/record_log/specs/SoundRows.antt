-- What holds of the rows now and at the open marks.
use Rattle.std.specs.Prelude.{◌≡◌, ℕ, ◌<◌, Bool, true, false, ◌&&◌, ◌||◌, not, nat_eq, List, [], ◌∷◌, filter, length, map, slice_get, Option, Some, None, MatchOption, Result, Ok, Err, if◌then◌else◌}
use Rattle.std.specs.List.{list_any}
use Rattle.fw_types.specs.declared.attr.TheConstants.Attr.{BY_DRIVER, EXCLUSIVE, HOLDING_BITS}
use Rattle.open_records.specs.declared.fault.RecFault.{RecFault}
use Rattle.open_records.specs.declared.fault.RecFault.TheVariants.{Full, OutOfMemory}
use Rattle.open_records.specs.OpenRecords.{IsSound, RecordTable, clash}
use Rattle.open_records.specs.Interfaces.{Interface}
use Rattle.open_records.specs.Keyed.{is_of}
use Rattle.open_records.specs.declared.open_record.KeyedRecord.{KeyedRecord}
use Rattle.record_rows.specs.Asking.{HasClass, HasName, KeepsKeys, both_cuts, counts_at, cut_on, last_line, passes_at}
use Rattle.record_rows.specs.Inside.{Kept, names_line, rows_of}
use Rattle.record_rows.specs.Rows.{AreWithin, Cuts, Line, RowsView, counts, shown, with_name_cut}
use Rattle.record_log.specs.Tallies.{IsTallied}
use Rattle.record_log.specs.declared.tally.Tally.{Tally}
use Rattle.record_log.specs.TakingBack.{AllKnown, IsKnown, Sections, back, rows_at, table_of}
use Rattle.record_log.specs.declared.record_change.RecordChange.{RecordChange}
use Rattle.undo_log.specs.AtMarks.{undone}

-- ---- rows

-- a row does not count if a later one excludes it
abbrev pub OlderAreOut : RowsView → Type 0
OlderAreOut rows =
    (place later : ℕ) (line other : Line) → slice_get rows.lines place ≡ Some line → slice_get rows.lines later ≡ Some other → place < later
    → clash line.keyed other.keyed ≡ true → counts rows.cuts place line ≡ false

-- two records that pass a test exclude each other
abbrev pub Excludes : (KeyedRecord → Bool) → Type 0
Excludes test = (one other : KeyedRecord) → test one ≡ true → test other ≡ true → clash one other ≡ true

-- The table is sound, no cut is later than the rows, and no row counts that a later one excludes.
pub record IsSoundRows (limit : ℕ) (rows : RowsView) : Type 0 where
  pub table : IsSound (table_of limit rows)
  pub within : AreWithin rows.cuts (length rows.lines)
  pub older : OlderAreOut rows

-- the same, of however many records there may be
abbrev pub AreSound : RowsView → Type 0
AreSound rows = (limit : ℕ) × IsSoundRows limit rows

abbrev pub AreSoundRows : (limit : ℕ) → List RowsView → Type 0
AreSoundRows limit [] = Unit {0}
AreSoundRows limit (rows ∷ older) = IsSoundRows limit rows × AreSoundRows limit older

-- the tally of each open mark is that of the rows that the mark keeps
unfoldable pub AllTallied : Sections → RowsView → Type 0
AllTallied [] rows = Unit {0}
AllTallied (newest ∷ older) rows =
    IsTallied newest.carried (undone back newest.changes rows) × AllTallied older (undone back newest.changes rows)

-- what holds inside a log of records
pub record IsInside (limit : ℕ) (tally : Tally) (kept : Kept) (marks : Sections) : Type 0 where
  pub now : IsSoundRows limit (rows_of kept)
  pub tallied : IsTallied tally (rows_of kept)
  pub at_marks : AreSoundRows limit (rows_at marks (rows_of kept))
  pub known : AllKnown marks kept
  pub carried : AllTallied marks (rows_of kept)

-- ---- changes

-- A change was made of sound rows: it can be taken back, the rows are sound, and the table changed in this way.
pub record IsChange (limit : ℕ) (change : RecordChange) (into : RecordTable → RecordTable) (old new : Kept) : Type 0 where
  pub taken_back : back change (rows_of new) ≡ rows_of old
  pub sound : IsSoundRows limit (rows_of new)
  pub table : table_of limit (rows_of new) ≡ into (table_of limit (rows_of old))
  pub known : IsKnown change new
  pub keys : KeepsKeys old new

-- What a cut of the weak records of an interface, or of all its records, answers.
abbrev pub CutsInterface : (all : Bool) → ℕ → List ℕ → Option (ℕ × ℕ) → Kept → Kept → Type 0
CutsInterface all handle guid result old new =
    MatchOption result ((new ≡ old) × (list_any (λ (line : Line). is_of handle guid line.keyed) old.lines ≡ false))
    (λ (before : ℕ × ℕ). (both_cuts (handle, guid) (rows_of old).cuts ≡ before) × HasClass (handle, guid) new
    × (rows_of new ≡ record (rows_of old) { cuts = cut_on all (handle, guid) (length old.lines) (rows_of old).cuts }))

-- What a cut of a handle number answers.
abbrev pub CutsName : ℕ → Option ℕ → Kept → Kept → Type 0
CutsName name result old new =
    MatchOption result ((new ≡ old) × (list_any (names_line name) old.lines ≡ false))
    (λ (before : ℕ). ((rows_of old).cuts.name name ≡ before) × HasName name new
    × (rows_of new ≡ record (rows_of old) { cuts = with_name_cut name (length old.lines) (rows_of old).cuts }))

-- the table without the records that pass a test
abbrev pub without : (KeyedRecord → Bool) → RecordTable → RecordTable
without test table = record table { entries = filter (λ (one : KeyedRecord). not (test one)) table.entries }

-- ---- places

-- whether a place is among some
abbrev pub is_among : List ℕ → ℕ → Bool
is_among places place = list_any (λ (other : ℕ). nat_eq other place) places

-- whether a place has a row that counts and whose record passes a test
abbrev pub is_chosen : (KeyedRecord → Bool) → RowsView → (place : ℕ) → Bool
is_chosen test rows place = counts_at rows place && passes_at test rows.lines place

-- the places are those of the rows that count and whose records pass a test
abbrev pub AreChosen : (KeyedRecord → Bool) → RowsView → List ℕ → Type 0
AreChosen test rows places = (place : ℕ) → is_among places place ≡ is_chosen test rows place

-- a place, if its row counts
abbrev pub if_counts : RowsView → Option ℕ → Option ℕ
if_counts rows None = None
if_counts rows (Some place) = if counts_at rows place then Some place else None

-- the place of the last row whose record passes a test, if that row counts
abbrev pub last_counting : (KeyedRecord → Bool) → RowsView → Option ℕ
last_counting test rows = if_counts rows (last_line test rows.lines)

-- the count of the record in a row; 0 if there is none
abbrev pub count_in_line : Option Line → ℕ
count_in_line None = 0
count_in_line (Some line) = line.keyed.rec.count

-- a call gives this answer, unless it runs out of memory
abbrev pub GivesChange : Result RecordChange RecFault → (full : Bool) → Type 0
GivesChange (Ok change) full = full ≡ false
GivesChange (Err Full) full = full ≡ true
GivesChange (Err OutOfMemory) full = Unit {0}

-- whether only records with BY_DRIVER or EXCLUSIVE can have one of some bits
abbrev pub is_holding : (bits : ℕ) → Bool
is_holding bits = nat_eq bits HOLDING_BITS || nat_eq bits BY_DRIVER || nat_eq bits EXCLUSIVE

-- ---- new rows

-- no cuts
abbrev pub no_cuts : Cuts
no_cuts = record { name = λ (name : ℕ). 0; weak = λ (interface : Interface). 0; other = λ (interface : Interface). 0 }

-- a row that is not closed
abbrev pub open_line : KeyedRecord → Line
open_line one = record { keyed = one; closed = false }

-- a row of the record in a row, if that row counts
abbrev pub copied : Cuts → (place : ℕ) → Option Line → List Line
copied cuts place None = []
copied cuts place (Some line) = if counts cuts place line then open_line line.keyed ∷ [] else []

-- rows of the records that count, none of which is cut
abbrev pub fresh_of : RowsView → RowsView
fresh_of rows = record { lines = map open_line (shown rows); cuts = no_cuts }
