-- Sound rows, as they change.
use Rattle.std.proofs.Common.{◌≡◌, ◌≤◌, ◌+◌, ℕ, zero, suc, Bool, true, false, not, ◌&&◌, ◌||◌, nat_eq, nat_le, nat_lt, List, [], ◌∷◌, length, filter, Some, refl, sym, ap, subst, ◌∙◌, inl, inr, ◌⊎◌, arith, if◌then◌else◌}
use Rattle.std.specs.Prelude.{slice_get}
use Rattle.std.specs.List.{list_all, list_any}
use Rattle.std.proofs.lemmas.Bool.{and_from, and_parts, cases_Bool}
use Rattle.std.proofs.lemmas.Bool.Decides.{nat_tests}
use Rattle.open_records.specs.Records.{recounted}
use Rattle.open_records.specs.OpenRecords.{IsSound, clash, is_kept}
use Rattle.open_records.proofs.RemovalLemmas.{filter_sound}
use Rattle.open_records.specs.Interfaces.{Interface}
use Rattle.open_records.specs.Keyed.{is_same}
use Rattle.open_records.specs.declared.open_record.KeyedRecord.{KeyedRecord}
use Rattle.record_rows.specs.Asking.{passes}
use Rattle.record_rows.specs.Rows.{AreWithin, Cuts, Line, RowsView, class_cut, counts, in_order, is_weak, shown, shown_from, with_name_cut, with_other_cut, with_weak_cut}
use Rattle.record_log.specs.SoundRows.{IsSoundRows, OlderAreOut, without}
use Rattle.record_log.specs.TakingBack.{table_of}
use Rattle.record_rows.proofs.InOrder.{in_order-filter, length_in_order}

pub no_rows_sound : (limit : ℕ) → IsSoundRows limit (record { lines = []; cuts = record { name = λ (n : ℕ). 0; weak = λ (i : Interface). 0; other = λ (i : Interface). 0 } })
no_rows_sound limit = record {
  table = record { rising = refl; apart = refl; kept = refl; few = omega arith };
  within = record { name = λ n. omega arith; weak = λ i. omega arith; other = λ i. omega arith };
  older = λ place later line other here there lt clashes. absurd (none place line here);
}
  where
    none : (place : ℕ) (line : Line) → slice_get [] place ≡ Some line → ⊥
    none place line here = cc

-- ---- rows that were there before

-- A row was there before, with the same record but for its count, and if it counts, it did so before.
pub record IsFormer (rows after : RowsView) (place : ℕ) (other : Line) : Type 0 where
  pub line : Line
  pub there : slice_get rows.lines place ≡ Some line
  pub count : ℕ
  pub same : other.keyed ≡ record line.keyed { rec = recounted count line.keyed.rec }
  pub counted : counts after.cuts place other ≡ true → counts rows.cuts place line ≡ true

pub older_kept : (rows after : RowsView) → ((place : ℕ) (other : Line) → slice_get after.lines place ≡ Some other → IsFormer rows after place other) → OlderAreOut rows → OlderAreOut after
older_kept rows after former out place later line other here there lt clashes =
    let one = former place line here in
    let two = former later other there in
    let were : clash one.line.keyed two.line.keyed ≡ true = rw (one.same, two.same) at clashes in
    by_test (counts after.cuts place line) refl (out place later one.line two.line one.there two.there lt were) one.counted
  where
    by_test : (b : Bool) → {was : Bool} → counts after.cuts place line ≡ b → was ≡ false → (counts after.cuts place line ≡ true → was ≡ true) → b ≡ false
    by_test false is gone counted = refl
    by_test true is gone counted = let clash : true ≡ false = sym (counted is) ∙ gone in absurd cc

-- ---- a table that loses records

pub left_table : (limit : ℕ) (rows after : RowsView) (test : KeyedRecord → Bool) → shown after ≡ filter (λ (one : KeyedRecord). not (test one)) (shown rows) → table_of limit after ≡ without test (table_of limit rows)
left_table limit rows after test is =
    ap (λ (entries : List KeyedRecord). record { entries = entries; limit = limit }) (ap in_order is ∙ in_order-filter (λ (one : KeyedRecord). not (test one)) (shown rows))

pub left_sound : (limit : ℕ) (rows after : RowsView) (test : KeyedRecord → Bool) → shown after ≡ filter (λ (one : KeyedRecord). not (test one)) (shown rows) → IsSound (table_of limit rows) → IsSound (table_of limit after)
left_sound limit rows after test is sound =
    subst IsSound (sym (left_table limit rows after test is)) (filter_sound (λ (one : KeyedRecord). not (test one)) (table_of limit rows) sound)

-- ---- all that is shown

any_by_length : (q : KeyedRecord → Bool) (xs : List KeyedRecord) → list_any q xs ≡ nat_lt 0 (length (filter q xs))
any_by_length q [] = refl
any_by_length q (x ∷ xs) = elim (cases_Bool (q x)) [
  | inl passes ↦ let some : nat_lt 0 (suc (length (filter q xs))) ≡ true = grind (arith, nat_tests) in rw passes (sym some)
  | inr fails ↦ rw fails (any_by_length q xs)
]

-- a test passes on some of the records, in whatever order they are
pub any_in_order : (q : KeyedRecord → Bool) (xs : List KeyedRecord) → list_any q (in_order xs) ≡ list_any q xs
any_in_order q xs =
    any_by_length q (in_order xs) ∙ ap (λ l. nat_lt 0 (length l)) (sym (in_order-filter q xs)) ∙ ap (nat_lt 0) (length_in_order (filter q xs)) ∙ sym (any_by_length q xs)

all_by_any : (p : KeyedRecord → Bool) (xs : List KeyedRecord) → list_all p xs ≡ not (list_any (λ (x : KeyedRecord). not (p x)) xs)
all_by_any p [] = refl
all_by_any p (x ∷ xs) = elim (cases_Bool (p x)) [
  | inl passes ↦ rw passes (all_by_any p xs)
  | inr fails ↦ rw fails refl
]

pub all_in_order : (p : KeyedRecord → Bool) (xs : List KeyedRecord) → list_all p (in_order xs) ≡ list_all p xs
all_in_order p xs = all_by_any p (in_order xs) ∙ ap not (any_in_order (λ (x : KeyedRecord). not (p x)) xs) ∙ sym (all_by_any p xs)

pub shown_kept : (limit : ℕ) (rows : RowsView) → IsSoundRows limit rows → list_all is_kept (shown rows) ≡ true
shown_kept limit rows sound = sym (all_in_order is_kept (shown rows)) ∙ sound.table.kept

-- a row that counts is shown
pub shown_has : (first : ℕ) (cuts : Cuts) (q : KeyedRecord → Bool) (lines : List Line) (n place : ℕ) (line : Line) → place ≡ first + n → slice_get lines n ≡ Some line → counts cuts place line ≡ true → q line.keyed ≡ true
    → list_any q (shown_from first cuts lines) ≡ true
shown_has first cuts q [] n place line at here counted passes = absurd cc
shown_has first cuts q (one ∷ lines) zero place line at here counted passes =
    let same : one ≡ line = cc in
    let now : place ≡ first = omega (arith, at) in
    let goes : counts cuts first one ≡ true = ap (λ (l : Line). counts cuts first l) same ∙ ap (λ (n : ℕ). counts cuts n line) (sym now) ∙ counted in
    let is : q one.keyed ≡ true = ap (λ (l : Line). q l.keyed) same ∙ passes in
    rw (goes, is) refl
shown_has first cuts q (one ∷ lines) (suc n) place line at here counted passes =
    let rest = shown_has (first + 1) cuts q lines n place line (omega (arith, at)) here counted passes in
    elim (cases_Bool (counts cuts first one)) [
      | inl goes ↦ rw goes (either (q one.keyed) rest)
      | inr gone ↦ rw gone rest
    ]
  where
    either : (b : Bool) → {c : Bool} → c ≡ true → (b || c) ≡ true
    either true is = refl
    either false is = is

pub has_shown : (rows : RowsView) (q : KeyedRecord → Bool) (place : ℕ) (line : Line) → slice_get rows.lines place ≡ Some line → counts rows.cuts place line ≡ true → q line.keyed ≡ true → list_any q (shown rows) ≡ true
has_shown rows q place line here counted passes = shown_has 0 rows.cuts q rows.lines place place line (omega arith) here counted passes

pub all_shown : (rows : RowsView) (p : KeyedRecord → Bool) (place : ℕ) (line : Line) → list_all p (shown rows) ≡ true → slice_get rows.lines place ≡ Some line → counts rows.cuts place line ≡ true → p line.keyed ≡ true
all_shown rows p place line all here counted = by_test (p line.keyed) refl
  where
    by_test : (b : Bool) → p line.keyed ≡ b → b ≡ true
    by_test true is = refl
    by_test false is =
        let some : list_any (λ (x : KeyedRecord). not (p x)) (shown rows) ≡ true = has_shown rows (λ (x : KeyedRecord). not (p x)) place line here counted (ap not is) in
        let none : false ≡ true = sym (all_by_any p (shown rows) ∙ ap not some) ∙ all in
        absurd cc

-- ---- cuts

-- each cut is as it was or after all rows
pub record AreCut (count : ℕ) (cuts after : Cuts) : Type 0 where
  pub name : (n : ℕ) → (after.name n ≡ cuts.name n) ⊎ (after.name n ≡ count)
  pub weak : (i : Interface) → (after.weak i ≡ cuts.weak i) ⊎ (after.weak i ≡ count)
  pub other : (i : Interface) → (after.other i ≡ cuts.other i) ⊎ (after.other i ≡ count)

either_cut : (b : Bool) (count cut : ℕ) → ((if b then count else cut) ≡ cut) ⊎ ((if b then count else cut) ≡ count)
either_cut true count cut = inr refl
either_cut false count cut = inl refl

pub name_is_cut : (name count : ℕ) (cuts : Cuts) → AreCut count cuts (with_name_cut name count cuts)
name_is_cut name count cuts = record { name = λ n. either_cut (nat_eq n name) count (cuts.name n); weak = λ i. inl refl; other = λ i. inl refl }

pub weak_is_cut : (interface : Interface) (count : ℕ) (cuts : Cuts) → AreCut count cuts (with_weak_cut interface count cuts)
weak_is_cut interface count cuts = record { name = λ n. inl refl; weak = λ i. either_cut (is_same i.0 i.1 interface.0 interface.1) count (cuts.weak i); other = λ i. inl refl }

pub both_are_cut : (interface : Interface) (count : ℕ) (cuts : Cuts) → AreCut count cuts (with_other_cut interface count (with_weak_cut interface count cuts))
both_are_cut interface count cuts = record { name = λ n. inl refl; weak = λ i. either_cut (is_same i.0 i.1 interface.0 interface.1) count (cuts.weak i); other = λ i. either_cut (is_same i.0 i.1 interface.0 interface.1) count (cuts.other i) }

pub none_are_cut : (count : ℕ) (cuts : Cuts) → AreCut count cuts cuts
none_are_cut count cuts = record { name = λ n. inl refl; weak = λ i. inl refl; other = λ i. inl refl }

either_within : (cut after count : ℕ) → cut ≤ count → (after ≡ cut) ⊎ (after ≡ count) → (cut ≤ after) × (after ≤ count)
either_within cut after count within (inl same) = (omega (arith, same), omega (arith, same, within))
either_within cut after count within (inr last) = (omega (arith, last, within), omega (arith, last))

module _ (count : ℕ) (cuts after : Cuts) (within : AreWithin cuts count) (are : AreCut count cuts after) where
  pub cut_within : AreWithin after count
  cut_within = record {
    name = λ n. (either_within (cuts.name n) (after.name n) count (within.name n) (are.name n)).1;
    weak = λ i. (either_within (cuts.weak i) (after.weak i) count (within.weak i) (are.weak i)).1;
    other = λ i. (either_within (cuts.other i) (after.other i) count (within.other i) (are.other i)).1;
  }

  later_class : (one : KeyedRecord) → class_cut cuts one ≤ class_cut after one
  later_class one = elim (cases_Bool (is_weak one.rec)) [
    | inl weak ↦ rw weak (either_within (cuts.weak (one.handle, one.guid)) (after.weak (one.handle, one.guid)) count (within.weak (one.handle, one.guid)) (are.weak (one.handle, one.guid))).0
    | inr other ↦ rw other (either_within (cuts.other (one.handle, one.guid)) (after.other (one.handle, one.guid)) count (within.other (one.handle, one.guid)) (are.other (one.handle, one.guid))).0
  ]

  earlier_le : (a b place : ℕ) → a ≤ b → nat_le b place ≡ true → nat_le a place ≡ true
  earlier_le a b place le is = grind (arith, nat_tests, le, is)

  -- a row that counts after a cut counted before it
  pub cut_counted : (place : ℕ) (line : Line) → counts after place line ≡ true → counts cuts place line ≡ true
  cut_counted place line is =
      let rec = line.keyed.rec in
      let outer = and_parts (not line.closed && nat_le (after.name rec.agent) place && nat_le (after.name rec.controller) place) (nat_le (class_cut after line.keyed) place) is in
      let middle = and_parts (not line.closed && nat_le (after.name rec.agent) place) (nat_le (after.name rec.controller) place) outer.0 in
      let inner = and_parts (not line.closed) (nat_le (after.name rec.agent) place) middle.0 in
      and_from (not line.closed && nat_le (cuts.name rec.agent) place && nat_le (cuts.name rec.controller) place) (nat_le (class_cut cuts line.keyed) place)
      (and_from (not line.closed && nat_le (cuts.name rec.agent) place) (nat_le (cuts.name rec.controller) place)
      (and_from (not line.closed) (nat_le (cuts.name rec.agent) place) inner.0
      (earlier_le (cuts.name rec.agent) (after.name rec.agent) place (either_within (cuts.name rec.agent) (after.name rec.agent) count (within.name rec.agent) (are.name rec.agent)).0 inner.1))
      (earlier_le (cuts.name rec.controller) (after.name rec.controller) place (either_within (cuts.name rec.controller) (after.name rec.controller) count (within.name rec.controller) (are.name rec.controller)).0 middle.1))
      (earlier_le (class_cut cuts line.keyed) (class_cut after line.keyed) place (later_class line.keyed) outer.1)

-- rows with other cuts, of which those that pass a test don't count any more
module _ (limit : ℕ) (rows : RowsView) (cuts : Cuts) (test : KeyedRecord → Bool) (are : AreCut (length rows.lines) rows.cuts cuts)
    (is : shown (record rows { cuts = cuts }) ≡ filter (λ (one : KeyedRecord). not (test one)) (shown rows)) (sound : IsSoundRows limit rows) where
  pub cut_sound : IsSoundRows limit (record rows { cuts = cuts })
  cut_sound = record {
    table = left_sound limit rows (record rows { cuts = cuts }) test is sound.table;
    within = cut_within (length rows.lines) rows.cuts cuts sound.within are;
    older = older_kept rows (record rows { cuts = cuts }) (λ place other here. record {
      line = other;
      there = here;
      count = other.keyed.rec.count;
      same = refl;
      counted = cut_counted (length rows.lines) rows.cuts cuts sound.within are place other;
    }) sound.older;
  }
