-- The open records as rows, in order of their making, and the cuts that say which of them count (UEFI 2.8, 7.3:
-- OpenProtocol, CloseProtocol).
--
-- No row is moved or taken out. A row counts if it is not closed, and was made after the last cut of its agent, of its
-- controller and of its class. A class is the weak records of an interface, or its other records. A cut is a number of
-- rows: those that come before it do not count any more. So a handle that goes takes its records with it by one cut, and
-- an undo of that is the earlier cut.
use Rattle.std.specs.Prelude.{◌≡◌, ℕ, zero, suc, ◌+◌, ◌≤◌, Bool, true, false, ◌&&◌, not, nat_eq, nat_le, List, [], ◌∷◌, ◌++◌, if◌then◌else◌}
use Rattle.std.specs.List.{list_any}
use Rattle.fw_types.specs.declared.attr.TheConstants.Attr.{WEAK_BITS}
use Rattle.open_records.specs.Records.{has_bits, recounted}
use Rattle.open_records.specs.declared.open_record.Rec.{Rec}
use Rattle.open_records.specs.Changing.{with_new}
use Rattle.open_records.specs.Interfaces.{Interface, interface_of}
use Rattle.open_records.specs.Keyed.{is_same}
use Rattle.open_records.specs.declared.open_record.KeyedRecord.{KeyedRecord}

-- a list in which one element is changed
abbrev pub map_at : {X : Type 0} → ℕ → (X → X) → List X → List X
map_at place f [] = []
map_at zero f (x ∷ xs) = f x ∷ xs
map_at (suc place) f (x ∷ xs) = x ∷ map_at place f xs

-- a record that was made, and whether it is closed
pub record Line : Type 0 where
  pub keyed : KeyedRecord
  pub closed : Bool

-- whether a record is a weak one: it has BY_HANDLE_PROTOCOL, GET_PROTOCOL or TEST_PROTOCOL
abbrev pub is_weak : Rec → Bool
is_weak rec = has_bits WEAK_BITS rec

-- the last cut of each handle number, and of the weak records and of the other records of each interface
pub record Cuts : Type 0 where
  pub name : ℕ → ℕ
  pub weak : Interface → ℕ
  pub other : Interface → ℕ

pub record RowsView : Type 0 where
  pub lines : List Line
  pub cuts : Cuts

-- ---- which of them count

-- the last cut of a record's class
abbrev pub class_cut : Cuts → KeyedRecord → ℕ
class_cut cuts one = if is_weak one.rec then cuts.weak (interface_of one) else cuts.other (interface_of one)

-- whether a row counts, given how many rows come before it
abbrev pub counts : Cuts → ℕ → Line → Bool
counts cuts place line =
    not line.closed && nat_le (cuts.name line.keyed.rec.agent) place && nat_le (cuts.name line.keyed.rec.controller) place
    && nat_le (class_cut cuts line.keyed) place

-- the records that count, in order of their making, of rows of which the first has this place
abbrev pub shown_from : ℕ → Cuts → List Line → List KeyedRecord
shown_from place cuts [] = []
shown_from place cuts (line ∷ lines) =
    if counts cuts place line then line.keyed ∷ shown_from (place + 1) cuts lines else shown_from (place + 1) cuts lines

abbrev pub shown : RowsView → List KeyedRecord
shown rows = shown_from 0 rows.cuts rows.lines

-- ---- the table of open records

-- records in order of their making, put one after another into a table that is in order of interfaces
abbrev pub put_in_order : List KeyedRecord → List KeyedRecord → List KeyedRecord
put_in_order entries [] = entries
put_in_order entries (one ∷ later) = put_in_order (with_new one entries) later

-- the same records by handle, then by GUID, then in order of their making
abbrev pub in_order : List KeyedRecord → List KeyedRecord
in_order records = put_in_order [] records

-- the records that count, in that order
abbrev pub entries_of : RowsView → List KeyedRecord
entries_of rows = in_order (shown rows)

-- ---- changes

-- one more row
abbrev pub with_line : KeyedRecord → RowsView → RowsView
with_line one rows = record rows { lines = rows.lines ++ record { keyed = one; closed = false } ∷ [] }

-- another cut of a handle number
abbrev pub with_name_cut : (name place : ℕ) → Cuts → Cuts
with_name_cut name place cuts = record cuts { name = λ (other : ℕ). if nat_eq other name then place else cuts.name other }

-- another cut of the weak records of an interface, and of its other records
abbrev pub with_weak_cut : Interface → (place : ℕ) → Cuts → Cuts
with_weak_cut interface place cuts =
    record cuts { weak = λ (other : Interface). if is_same other.0 other.1 interface.0 interface.1 then place else cuts.weak other }

abbrev pub with_other_cut : Interface → (place : ℕ) → Cuts → Cuts
with_other_cut interface place cuts =
    record cuts { other = λ (other : Interface). if is_same other.0 other.1 interface.0 interface.1 then place else cuts.other other }

-- other cuts of both, of the weak records first
abbrev pub with_both_cuts : Interface → ℕ × ℕ → Cuts → Cuts
with_both_cuts interface both cuts = with_other_cut interface both.1 (with_weak_cut interface both.0 cuts)

-- the row at a place, closed or opened again
abbrev pub closed_at : ℕ → Bool → List Line → List Line
closed_at place closed lines = map_at place (λ (line : Line). record line { closed = closed }) lines

-- the record at a place, with another count
abbrev pub counted_at : ℕ → ℕ → List Line → List Line
counted_at place count lines =
    map_at place (λ (line : Line). record line { keyed = record line.keyed { rec = recounted count line.keyed.rec } }) lines

-- ---- what holds of rows

-- no cut is later than the rows
pub record AreWithin (cuts : Cuts) (count : ℕ) : Type 0 where
  pub name : (name : ℕ) → cuts.name name ≤ count
  pub weak : (interface : Interface) → cuts.weak interface ≤ count
  pub other : (interface : Interface) → cuts.other interface ≤ count

-- Of the rows that count, just the one at a place passes a test.
abbrev pub IsOnlyOne : Cuts → (first : ℕ) → (place : ℕ) → (KeyedRecord → Bool) → List Line → Type 0
IsOnlyOne cuts first place test [] = Unit {0}
IsOnlyOne cuts first zero test (line ∷ lines) =
    (counts cuts first line ≡ true) × (test line.keyed ≡ true) × (list_any test (shown_from (first + 1) cuts lines) ≡ false)
IsOnlyOne cuts first (suc place) test (line ∷ lines) = ((counts cuts first line && test line.keyed) ≡ false) × IsOnlyOne cuts (first + 1) place test lines
