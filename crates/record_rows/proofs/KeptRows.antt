-- Rows as they are kept: what their numbers, their index and their lists say of the rows.
use Rattle.std.proofs.Common.{◌≡◌, ℕ, Bool, true, false, nat_le, List, [], length, filter, map, Option, sym, ap, subst, ◌∙◌}
use Rattle.std.specs.List.{list_any}
use Rattle.open_records.specs.Records.{is_named}
use Rattle.open_records.specs.Interfaces.{Interface, is_on}
use Rattle.open_records.specs.Keyed.{is_of}
use Rattle.open_records.specs.declared.open_record.KeyedRecord.{KeyedRecord}
use Rattle.record_rows.specs.Asking.{ArePlacesOf, counts_at, is_other_record_on, shown_among, shown_on}
use Rattle.record_rows.specs.Index.{RowKey, is_key_named, is_key_on, is_other_on, places_of}
use Rattle.record_rows.specs.Inside.{HasNumber, Kept, class_cut_in, key_of, lines_of, names_line, rows_of}
use Rattle.record_rows.specs.Numbers.{AreDistinct, IsAbsent}
use Rattle.record_rows.specs.Rows.{Line, RowsView, shown}
use Rattle.record_rows.specs.RowsKept.{AreRowsKept}
use Rattle.record_rows.specs.ShownPlaces.{AreShownPlaces}
use Rattle.record_rows.specs.declared.cutters.Mark.{Mark}
use Rattle.record_rows.proofs.CutLemmas.{firsts}
use Rattle.record_rows.proofs.CutRows.{none_names, none_on}
use Rattle.record_rows.proofs.Walks.{AreAlike, among_counted, are_places, count_shown, counted_again, named_rows, on_rows, others_on, shown_by_index, shown_none}

-- ---- what is seen from outside is what is inside

module _ {inside kept : Kept} (view_is : inside ≡ kept) where
  pub number_inside : (interface : Interface) (number : ℕ) → HasNumber kept.classes interface number → HasNumber inside.classes interface number
  number_inside interface number has = subst (λ (one : Kept). HasNumber one.classes interface number) (sym view_is) has

  pub number_outside : (interface : Interface) (number : ℕ) → HasNumber inside.classes interface number → HasNumber kept.classes interface number
  number_outside interface number has = subst (λ (one : Kept). HasNumber one.classes interface number) view_is has

  -- an interface whose weak records are all cut
  pub weak_cut : (interface : Interface) (place : ℕ) → place ≡ length kept.lines → nat_le place (class_cut_in inside.classes interface).0 ≡ true
      → nat_le (length kept.lines) ((rows_of kept).cuts.weak interface) ≡ true
  weak_cut interface place all cut =
      let long = subst (λ (n : ℕ). nat_le n (class_cut_in inside.classes interface).0 ≡ true) all cut in
      subst (λ (one : Kept). nat_le (length kept.lines) ((rows_of one).cuts.weak interface) ≡ true) view_is long

module _ {names : List (ℕ × ℕ)} {classes : List (Interface × (ℕ × ℕ))} {records : List KeyedRecord} {marks : List Mark} {index : List RowKey} {listed others : List (Option (List ℕ))} {kept : Kept}
    (are : AreRowsKept names classes records marks index listed others)
    (view_is : ◌≡◌ {A = Kept} (record { lines = lines_of records marks; names = names; classes = classes }) kept) where
  -- ---- the index

  -- a test of keys that agrees with a test of records at each mark agrees with it at each row
  pub alike_at : (by : RowKey → Bool) (test : KeyedRecord → Bool) → AreAlike by test (map key_of marks) (lines_of records marks) → AreAlike by test index kept.lines
  alike_at by test alike = subst (λ (one : Kept). AreAlike by test index one.lines) view_is (rw (are.keys) alike)

  pub alike_on : AreDistinct (firsts names) → AreDistinct (firsts classes) → (interface : Interface) (number : ℕ) → HasNumber classes interface number → AreAlike (is_key_on number) (is_on interface) index kept.lines
  alike_on distinct_names distinct interface number has =
      alike_at (is_key_on number) (is_on interface) (on_rows names classes distinct_names distinct interface number has records marks are.marked)

  pub alike_others : AreDistinct (firsts names) → AreDistinct (firsts classes) → (interface : Interface) (number : ℕ) → HasNumber classes interface number
      → AreAlike (is_other_on number) (is_other_record_on interface) index kept.lines
  alike_others distinct_names distinct interface number has =
      alike_at (is_other_on number) (is_other_record_on interface) (others_on names classes distinct_names distinct interface number has records marks are.marked)

  pub alike_named : AreDistinct (firsts names) → (name number : ℕ) → HasNumber names name number → AreAlike (is_key_named number) (λ (one : KeyedRecord). is_named name one.rec) index kept.lines
  alike_named distinct_names name number has =
      alike_at (is_key_named number) (λ (one : KeyedRecord). is_named name one.rec) (named_rows names classes distinct_names name number has records marks are.marked)

  -- ---- the lists

  pub listed_rows : AreShownPlaces is_key_on (rows_of kept) index listed
  listed_rows = subst (λ (one : Kept). AreShownPlaces is_key_on (rows_of one) index listed) view_is are.shown

  pub listed_others : AreShownPlaces is_other_on (rows_of kept) index others
  listed_others = subst (λ (one : Kept). AreShownPlaces is_other_on (rows_of one) index others) view_is are.shown_others

  -- ---- no row

  pub no_line_on : (interface : Interface) → IsAbsent interface (firsts classes) → list_any (λ (line : Line). is_of interface.0 interface.1 line.keyed) kept.lines ≡ false
  no_line_on interface absent =
      subst (λ (one : Kept). list_any (λ (line : Line). is_of interface.0 interface.1 line.keyed) one.lines ≡ false) view_is (none_on names classes interface records marks absent are.marked)

  pub no_line_named : (name : ℕ) → IsAbsent name (firsts names) → list_any (names_line name) kept.lines ≡ false
  no_line_named name absent = subst (λ (one : Kept). list_any (names_line name) one.lines ≡ false) view_is (none_names names classes name records marks absent are.marked)

  pub none_shown_on : (interface : Interface) → IsAbsent interface (firsts classes) → shown_on interface (rows_of kept) ≡ []
  none_shown_on interface absent = shown_none interface (rows_of kept) (no_line_on interface absent)

-- ---- places that the index gives, and those of them that count

module _ (by : RowKey → Bool) (test : KeyedRecord → Bool) (rows : RowsView) (keys : List RowKey) (alike : AreAlike by test keys rows.lines) (places : List ℕ) where
  module _ (are : places ≡ places_of by keys) where
    pub given_records : shown_among rows places ≡ filter test (shown rows)
    given_records = ap (shown_among rows) are ∙ shown_by_index by test rows keys alike

    pub given_count : length (filter (counts_at rows) places) ≡ length (filter test (shown rows))
    given_count = count_shown rows places ∙ ap length given_records

    pub given_places : ArePlacesOf test rows (filter (counts_at rows) places)
    given_places = subst (λ (ps : List ℕ). ArePlacesOf test rows (filter (counts_at rows) ps)) (sym are) (are_places by test rows keys alike)

  module _ (are : places ≡ filter (counts_at rows) (places_of by keys)) where
    pub listed_records : shown_among rows places ≡ filter test (shown rows)
    listed_records = ap (shown_among rows) are ∙ among_counted rows (places_of by keys) ∙ shown_by_index by test rows keys alike

    pub listed_count : length places ≡ length (filter test (shown rows))
    listed_count = ap length are ∙ count_shown rows (places_of by keys) ∙ ap length (shown_by_index by test rows keys alike)

    pub listed_places : ArePlacesOf test rows (filter (counts_at rows) places)
    listed_places = subst (ArePlacesOf test rows) (sym (ap (filter (counts_at rows)) are ∙ counted_again rows (places_of by keys))) (are_places by test rows keys alike)
