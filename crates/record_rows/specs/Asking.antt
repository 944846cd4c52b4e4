-- What is asked of the rows, and what their answers say.
use Rattle.std.specs.Prelude.{◌≡◌, ℕ, ◌+◌, ◌<◌, Bool, true, false, ◌&&◌, not, List, [], ◌∷◌, ◌++◌, map, filter, slice_get, Option, Some, None, if◌then◌else◌}
use Rattle.open_records.specs.Interfaces.{Interface, is_on}
use Rattle.open_records.specs.declared.open_record.KeyedRecord.{KeyedRecord}
use Rattle.record_rows.specs.Inside.{Kept}
use Rattle.record_rows.specs.Numbers.{IsAbsent}
use Rattle.record_rows.specs.Rows.{Cuts, Line, RowsView, counts, is_weak, shown, with_other_cut, with_weak_cut}

-- ---- one row

-- whether a place has a row that counts
abbrev pub counts_in : Cuts → (place : ℕ) → Option Line → Bool
counts_in cuts place None = false
counts_in cuts place (Some line) = counts cuts place line

abbrev pub counts_at : RowsView → (place : ℕ) → Bool
counts_at rows place = counts_in rows.cuts place (slice_get rows.lines place)

-- whether a place has a row whose record passes a test
abbrev pub passes : (KeyedRecord → Bool) → Option Line → Bool
passes test None = false
passes test (Some line) = test line.keyed

abbrev pub passes_at : (KeyedRecord → Bool) → List Line → (place : ℕ) → Bool
passes_at test lines place = passes test (slice_get lines place)

-- the place of the last row whose record passes a test, of rows of which the first has this place; or one from before
abbrev pub last_from : (place : ℕ) → (found : Option ℕ) → (KeyedRecord → Bool) → List Line → Option ℕ
last_from place found test [] = found
last_from place found test (line ∷ lines) = last_from (place + 1) (if test line.keyed then Some place else found) test lines

-- the place of the last row whose record passes a test, whether it counts or not
abbrev pub last_line : (KeyedRecord → Bool) → List Line → Option ℕ
last_line test lines = last_from 0 None test lines

-- ---- some rows

-- the record of a row that counts
abbrev pub shown_in : Cuts → (place : ℕ) → Option Line → List KeyedRecord
shown_in cuts place None = []
shown_in cuts place (Some line) = if counts cuts place line then line.keyed ∷ [] else []

abbrev pub shown_at : RowsView → (place : ℕ) → List KeyedRecord
shown_at rows place = shown_in rows.cuts place (slice_get rows.lines place)

-- the records of those of some rows that count
abbrev pub shown_among : RowsView → (places : List ℕ) → List KeyedRecord
shown_among rows [] = []
shown_among rows (place ∷ places) = shown_at rows place ++ shown_among rows places

-- the records of an interface that count, in order of their making
abbrev pub shown_on : Interface → RowsView → List KeyedRecord
shown_on interface rows = filter (is_on interface) (shown rows)

-- whether a record is on an interface and is not weak
abbrev pub is_other_record_on : Interface → KeyedRecord → Bool
is_other_record_on interface one = is_on interface one && not (is_weak one.rec)

-- the places of all rows that count and whose records pass a test, each at least once, and of no others
pub record ArePlacesOf (test : KeyedRecord → Bool) (rows : RowsView) (places : List ℕ) : Type 0 where
  pub only : (number place : ℕ) → slice_get places number ≡ Some place → (counts_at rows place && passes_at test rows.lines place) ≡ true
  pub all : (place : ℕ) → (counts_at rows place && passes_at test rows.lines place) ≡ true → (number : ℕ) × (slice_get places number ≡ Some place)

-- places that rise
abbrev pub Rise : List ℕ → Type 0
Rise places =
    (number other place later : ℕ) → number < other → slice_get places number ≡ Some place → slice_get places other ≡ Some later → place < later

-- of the rows at some places none counts that comes before a cut
abbrev pub AreCutBefore : RowsView → (cut : ℕ) → List ℕ → Type 0
AreCutBefore rows cut places = (number place : ℕ) → slice_get places number ≡ Some place → place < cut → counts_at rows place ≡ false

-- rows that are closed if their records pass a test
abbrev pub closed_where : (KeyedRecord → Bool) → List Line → List Line
closed_where test lines = map (λ (line : Line). if test line.keyed then record line { closed = true } else line) lines

-- ---- cuts

-- whether an interface is among those with cuts
abbrev pub HasClass : Interface → Kept → Type 0
HasClass interface kept = IsAbsent interface (map (λ (entry : Interface × (ℕ × ℕ)). entry.0) kept.classes) → ⊥

-- whether a handle number is among those with cuts
abbrev pub HasName : ℕ → Kept → Type 0
HasName name kept = IsAbsent name (map (λ (entry : ℕ × ℕ). entry.0) kept.names) → ⊥

-- whatever had cuts still has some
pub record KeepsKeys (old new : Kept) : Type 0 where
  pub names : (name : ℕ) → HasName name old → HasName name new
  pub classes : (interface : Interface) → HasClass interface old → HasClass interface new

-- cuts of the weak records of an interface and of its others, or of the weak ones alone
abbrev pub cut_on : (all : Bool) → Interface → (place : ℕ) → Cuts → Cuts
cut_on all interface place cuts = if all then with_other_cut interface place (with_weak_cut interface place cuts) else with_weak_cut interface place cuts

-- both cuts of an interface, of the weak records first
abbrev pub both_cuts : Interface → Cuts → ℕ × ℕ
both_cuts interface cuts = (cuts.weak interface, cuts.other interface)
