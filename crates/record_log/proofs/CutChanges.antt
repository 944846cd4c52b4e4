-- Cuts of an interface and of a handle number, as changes that can be taken back.
use Rattle.std.proofs.Common.{◌≡◌, ◌+◌, ℕ, Bool, true, false, not, ◌&&◌, List, [], ◌∷◌, length, filter, Option, Some, None, refl, sym, ap, subst, ◌∙◌, inl, inr, if◌then◌else◌}
use Rattle.std.specs.Prelude.{IfSome}
use Rattle.std.specs.List.{list_all, list_any}
use Rattle.std.proofs.Math.Path.{fun_ext}
use Rattle.std.proofs.lemmas.Bool.{and_parts, cases_Bool, or_parts}
use Rattle.fw_types.specs.declared.attr.TheConstants.Attr.{ALL_BITS, WEAK_BITS}
use Rattle.open_records.specs.Records.{is_meant, is_named}
use Rattle.open_records.specs.Leaving.{cut, swept}
use Rattle.open_records.specs.OpenRecords.{RecordTable, is_kept}
use Rattle.open_records.proofs.LawProofs.{kept_is_meant}
use Rattle.open_records.specs.Changing.{is_weak_on}
use Rattle.open_records.specs.Interfaces.{Interface, is_on}
use Rattle.open_records.specs.Keyed.{is_of, is_same}
use Rattle.open_records.specs.declared.open_record.KeyedRecord.{KeyedRecord}
use Rattle.open_records.proofs.ListLemmas.{any_weaker, filter_both}
use Rattle.record_rows.specs.Asking.{KeepsKeys, shown_on}
use Rattle.record_rows.specs.Inside.{Kept, rows_of}
use Rattle.record_rows.specs.Rows.{Cuts, Line, RowsView, counts, is_weak, shown, shown_from, with_name_cut, with_other_cut, with_weak_cut}
use Rattle.record_log.specs.SoundRows.{CutsInterface, CutsName, IsChange, IsSoundRows, without}
use Rattle.record_log.specs.Tallies.{HasFallen}
use Rattle.record_log.specs.TakingBack.{IsInterfaceKnown, IsNameKnown, table_of, with_interface_back, with_name_back}
use Rattle.record_log.specs.declared.record_change.RecordChange.TheVariants.{Cut}
use Rattle.record_log.proofs.RecordMarks.{interface_stays, keys_after}
use Rattle.record_rows.proofs.Shown.{is_lasting_on, shown-swept, shown-unlasting, shown-unweak}
use Rattle.record_log.proofs.SoundLemmas.{AreCut, both_are_cut, cut_sound, left_table, name_is_cut, none_are_cut, shown_kept, weak_is_cut}
use Rattle.record_log.proofs.TallyLemmas.{fallen, same_fallen}
use Rattle.record_rows.proofs.Walks.{none_shown}
use Rattle.record_rows.proofs.Undone.{name_cut_back, other_cut_back, weak_cut_back}

-- The rows have other cuts, which can be set back, they are sound, and the table changed in this way.
pub record IsCutBy (limit : ℕ) (undo : Cuts → Cuts) (into : RecordTable → RecordTable) (old new : Kept) : Type 0 where
  pub cuts : Cuts
  pub is : rows_of new ≡ record (rows_of old) { cuts = cuts }
  pub undone : undo cuts ≡ (rows_of old).cuts
  pub sound : IsSoundRows limit (rows_of new)
  pub table : table_of limit (rows_of new) ≡ into (table_of limit (rows_of old))

-- ---- which records are shown

shown_none : (first : ℕ) (cuts : Cuts) (q : KeyedRecord → Bool) (lines : List Line) → list_any (λ (line : Line). q line.keyed) lines ≡ false → list_any q (shown_from first cuts lines) ≡ false
shown_none first cuts q [] none = refl
shown_none first cuts q (line ∷ lines) none =
    let parts = or_parts (q line.keyed) (list_any (λ (l : Line). q l.keyed) lines) none in
    let rest = shown_none (first + 1) cuts q lines parts.1 in
    elim (cases_Bool (counts cuts first line)) [
      | inl here ↦ rw (here, parts.0) rest
      | inr gone ↦ rw gone rest
    ]

all_stay : (test : KeyedRecord → Bool) (xs : List KeyedRecord) → list_any test xs ≡ false → xs ≡ filter (λ (x : KeyedRecord). not (test x)) xs
all_stay test [] none = refl
all_stay test (x ∷ xs) none =
    let parts = or_parts (test x) (list_any test xs) none in
    rw parts.0 (ap (λ l. x ∷ l) (all_stay test xs parts.1))

-- tests that agree on all records leave the same
filter_kept : (kept p q : KeyedRecord → Bool) (xs : List KeyedRecord) → list_all kept xs ≡ true → ((x : KeyedRecord) → kept x ≡ true → p x ≡ q x) → filter p xs ≡ filter q xs
filter_kept kept p q [] all agree = refl
filter_kept kept p q (x ∷ xs) all agree =
    let parts = and_parts (kept x) (list_all kept xs) all in
    rw (agree x parts.0, filter_kept kept p q xs parts.1 agree) refl

-- ---- one stage

module _ (limit : ℕ) (old new : Kept) (sound : IsSoundRows limit (rows_of old)) (test : KeyedRecord → Bool) where
  abbrev rows : RowsView
  rows = rows_of old

  by_cuts : (undo : Cuts → Cuts) (cuts : Cuts) → rows_of new ≡ record rows { cuts = cuts } → AreCut (length old.lines) rows.cuts cuts → shown (record rows { cuts = cuts }) ≡ filter (λ (one : KeyedRecord). not (test one)) (shown rows)
      → undo cuts ≡ rows.cuts → IsCutBy limit undo (without test) old new
  by_cuts undo cuts is are left undone = record {
    cuts = cuts;
    is = is;
    undone = undone;
    sound = subst (IsSoundRows limit) (sym is) (cut_sound limit rows cuts test are left sound);
    table = ap (table_of limit) is ∙ left_table limit rows (record rows { cuts = cuts }) test left;
  }

  -- if no row passes the test, nothing is cut
  by_none : new ≡ old → list_any (λ (line : Line). test line.keyed) old.lines ≡ false → (undo : Cuts → Cuts) → undo rows.cuts ≡ rows.cuts → IsCutBy limit undo (without test) old new
  by_none same none undo undone =
      by_cuts undo rows.cuts (ap rows_of same) (none_are_cut (length old.lines) rows.cuts) (all_stay test (shown rows) (shown_none 0 rows.cuts test old.lines none)) undone

-- ---- the weak records of an interface

other_twice : (interface : Interface) (place before : ℕ) (cuts : Cuts) → with_other_cut interface place (with_other_cut interface before cuts) ≡ with_other_cut interface place cuts
other_twice interface place before cuts = ap (λ (f : Interface → ℕ). record cuts { other = f }) (fun_ext (λ i. same (is_same i.0 i.1 interface.0 interface.1) (cuts.other i)))
  where
    same : (b : Bool) (cut : ℕ) → (if b then place else if b then before else cut) ≡ (if b then place else cut)
    same true cut = refl
    same false cut = refl

-- the cut that it is
other_itself : (interface : Interface) (cuts : Cuts) → with_other_cut interface (cuts.other interface) cuts ≡ cuts
other_itself interface cuts = sym (other_twice interface (cuts.other interface) (cuts.other interface) cuts) ∙ other_cut_back interface (cuts.other interface) cuts

any_line_weaker : (p q : KeyedRecord → Bool) (lines : List Line) → ((one : KeyedRecord) → p one ≡ false → q one ≡ false) → list_any (λ (line : Line). p line.keyed) lines ≡ false → list_any (λ (line : Line). q line.keyed) lines ≡ false
any_line_weaker p q lines weaker none = any_weaker (λ (line : Line). p line.keyed) (λ (line : Line). q line.keyed) lines (λ line. weaker line.keyed) none

and_false : (a b : Bool) → a ≡ false → (a && b) ≡ false
and_false a b is = rw is refl

both : (on weak : Bool) → not on ≡ (not (on && weak) && not (on && not weak))
both true true = refl
both true false = refl
both false weak = refl

-- after both cuts of an interface none of its records counts
none_on : (rows : RowsView) (interface : Interface)
    → shown (record rows { cuts = with_other_cut interface (length rows.lines) (with_weak_cut interface (length rows.lines) rows.cuts) }) ≡ filter (λ (one : KeyedRecord). not (is_on interface one)) (shown rows)
none_on rows interface =
    let first : RowsView = record rows { cuts = with_weak_cut interface (length rows.lines) rows.cuts } in
    shown-unlasting first interface ∙ ap (filter (λ (one : KeyedRecord). not (is_lasting_on interface one))) (shown-unweak rows interface)
    ∙ filter_both (λ (one : KeyedRecord). not (is_weak_on interface one)) (λ (one : KeyedRecord). not (is_lasting_on interface one)) (λ (one : KeyedRecord). not (is_on interface one)) (shown rows)
    (λ one. both (is_on interface one) (is_weak one.rec))

module _ (limit : ℕ) (handle : ℕ) (guid : List ℕ) (old new : Kept) (sound : IsSoundRows limit (rows_of old)) where
  pub weak_cut_by : (result : Option (ℕ × ℕ)) → CutsInterface false handle guid result old new → IsCutBy limit (with_interface_back (handle, guid) result) (cut handle guid (is_meant None None WEAK_BITS)) old new
  weak_cut_by None cuts =
      by_none limit old new sound (λ (one : KeyedRecord). is_of handle guid one && is_meant None None WEAK_BITS one.rec) cuts.0
      (any_line_weaker (is_of handle guid) (λ (one : KeyedRecord). is_of handle guid one && is_meant None None WEAK_BITS one.rec) old.lines (λ one. and_false (is_of handle guid one) (is_meant None None WEAK_BITS one.rec)) cuts.1)
      (λ (c : Cuts). c) refl
  weak_cut_by (Some before) cuts =
      let rows = rows_of old in
      by_cuts limit old new sound (λ (one : KeyedRecord). is_of handle guid one && is_meant None None WEAK_BITS one.rec) (with_interface_back (handle, guid) (Some before)) (with_weak_cut (handle, guid) (length old.lines) rows.cuts) cuts.2
      (weak_is_cut (handle, guid) (length old.lines) rows.cuts) (shown-unweak rows (handle, guid))
      (rw (← cuts.0) (ap (with_other_cut (handle, guid) (rows.cuts.other (handle, guid))) (weak_cut_back (handle, guid) (length old.lines) rows.cuts) ∙ other_itself (handle, guid) rows.cuts))

  -- ---- all records of an interface

  all_left : shown (record (rows_of old) { cuts = with_other_cut (handle, guid) (length old.lines) (with_weak_cut (handle, guid) (length old.lines) (rows_of old).cuts) })
      ≡ filter (λ (one : KeyedRecord). not (is_of handle guid one && is_meant None None ALL_BITS one.rec)) (shown (rows_of old))
  all_left =
      let interface : Interface = (handle, guid) in
      let rows = rows_of old in
      none_on rows interface
      ∙ filter_kept is_kept (λ (one : KeyedRecord). not (is_on interface one)) (λ (one : KeyedRecord). not (is_of handle guid one && is_meant None None ALL_BITS one.rec)) (shown rows) (shown_kept limit rows sound)
      (λ one kept. agree (is_of handle guid one) (is_meant None None ALL_BITS one.rec) (kept_is_meant one kept))
    where
      agree : (on meant : Bool) → not meant ≡ false → not on ≡ not (on && meant)
      agree true true is = refl
      agree true false is = absurd cc
      agree false meant is = refl

  pub all_cut_by : (result : Option (ℕ × ℕ)) → CutsInterface true handle guid result old new → IsCutBy limit (with_interface_back (handle, guid) result) (cut handle guid (is_meant None None ALL_BITS)) old new
  all_cut_by None cuts =
      by_none limit old new sound (λ (one : KeyedRecord). is_of handle guid one && is_meant None None ALL_BITS one.rec) cuts.0
      (any_line_weaker (is_of handle guid) (λ (one : KeyedRecord). is_of handle guid one && is_meant None None ALL_BITS one.rec) old.lines (λ one. and_false (is_of handle guid one) (is_meant None None ALL_BITS one.rec)) cuts.1)
      (λ (c : Cuts). c) refl
  all_cut_by (Some before) cuts =
      let rows = rows_of old in
      let interface : Interface = (handle, guid) in
      by_cuts limit old new sound (λ (one : KeyedRecord). is_of handle guid one && is_meant None None ALL_BITS one.rec) (with_interface_back interface (Some before)) (with_other_cut interface (length old.lines) (with_weak_cut interface (length old.lines) rows.cuts)) cuts.2
      (both_are_cut interface (length old.lines) rows.cuts) all_left
      (rw (← cuts.0)
      (ap (λ (c : Cuts). with_other_cut interface (rows.cuts.other interface) (with_other_cut interface (length old.lines) c)) (weak_cut_back interface (length old.lines) rows.cuts)
      ∙ other_cut_back interface (length old.lines) rows.cuts))

  pub interface_known : (all : Bool) (result : Option (ℕ × ℕ)) → CutsInterface all handle guid result old new → IsInterfaceKnown (handle, guid) result new
  interface_known all None cuts = tt
  interface_known all (Some before) cuts = cuts.1

-- ---- a handle number

module _ (limit : ℕ) (name : ℕ) (old new : Kept) (sound : IsSoundRows limit (rows_of old)) where
  pub name_cut_by : (result : Option ℕ) → CutsName name result old new → IsCutBy limit (with_name_back name result) (swept name) old new
  name_cut_by None cuts = by_none limit old new sound (λ (one : KeyedRecord). is_named name one.rec) cuts.0 cuts.1 (λ (c : Cuts). c) refl
  name_cut_by (Some before) cuts =
      let rows = rows_of old in
      by_cuts limit old new sound (λ (one : KeyedRecord). is_named name one.rec) (with_name_back name (Some before)) (with_name_cut name (length old.lines) rows.cuts) cuts.2
      (name_is_cut name (length old.lines) rows.cuts) (shown-swept rows name)
      (rw (← cuts.0) (name_cut_back name (length old.lines) rows.cuts))

  pub name_known : (result : Option ℕ) → CutsName name result old new → IsNameKnown name result new
  name_known None cuts = tt
  name_known (Some before) cuts = cuts.1

-- ---- how many records go

module _ (handle : ℕ) (guid : List ℕ) (old new : Kept) (before after : Option ℕ)
    (counted : IfSome before (λ count. count ≡ length (shown_on (handle, guid) (rows_of old)))) (recounted : IfSome after (λ count. count ≡ length (shown_on (handle, guid) (rows_of new)))) where
  pub interface_fallen : (all : Bool) (result : Option (ℕ × ℕ)) → CutsInterface all handle guid result old new → HasFallen before after (rows_of old) (rows_of new)
  interface_fallen all None cuts = same_fallen (is_on (handle, guid)) (rows_of old) (rows_of new) before after (ap rows_of cuts.0) counted recounted
  interface_fallen false (Some was) cuts =
      let interface : Interface = (handle, guid) in
      fallen (is_weak_on interface) (is_on interface) (λ one goes. (and_parts (is_on interface one) (is_weak one.rec) goes).0) (rows_of old) (rows_of new) before after
      (ap shown cuts.2 ∙ shown-unweak (rows_of old) interface) counted recounted
  interface_fallen true (Some was) cuts =
      let interface : Interface = (handle, guid) in
      fallen (is_on interface) (is_on interface) (λ one goes. goes) (rows_of old) (rows_of new) before after
      (ap shown cuts.2 ∙ none_on (rows_of old) interface) counted recounted

none_left : (test : KeyedRecord → Bool) (xs : List KeyedRecord) → filter test (filter (λ (x : KeyedRecord). not (test x)) xs) ≡ []
none_left test [] = refl
none_left test (x ∷ xs) = elim (cases_Bool (test x)) [
  | inl gone ↦ rw gone (none_left test xs)
  | inr stays ↦ rw (stays) (rw (stays) (none_left test xs))
]

pub name_fallen : (name : ℕ) (old new : Kept) (before : Option ℕ) → IfSome before (λ count. count ≡ length (filter (λ (one : KeyedRecord). is_named name one.rec) (shown (rows_of old))))
    → (result : Option ℕ) → CutsName name result old new → HasFallen before (Some 0) (rows_of old) (rows_of new)
name_fallen name old new before counted None cuts =
    let names = λ (one : KeyedRecord). is_named name one.rec in
    let none : filter names (shown (rows_of new)) ≡ [] =
    ap (λ (kept : Kept). filter names (shown (rows_of kept))) cuts.0 ∙ none_shown names (rows_of old).cuts 0 old.lines cuts.1 in
    same_fallen names (rows_of old) (rows_of new) before (Some 0) (ap rows_of cuts.0) counted (ap length (sym none))
name_fallen name old new before counted (Some was) cuts =
    let names = λ (one : KeyedRecord). is_named name one.rec in
    let left : shown (rows_of new) ≡ filter (λ (one : KeyedRecord). not (names one)) (shown (rows_of old)) = ap shown cuts.2 ∙ shown-swept (rows_of old) name in
    let none : filter names (shown (rows_of new)) ≡ [] = ap (filter names) left ∙ none_left names (shown (rows_of old)) in
    fallen names names (λ one goes. goes) (rows_of old) (rows_of new) before (Some 0) left counted (ap length (sym none))

-- ---- the whole

-- a cut of an interface alone
pub one_cut : (limit handle : ℕ) (guid : List ℕ) (interface : Option (ℕ × ℕ)) (into : RecordTable → RecordTable) (old new : Kept)
    → IsCutBy limit (with_interface_back (handle, guid) interface) into old new → IsInterfaceKnown (handle, guid) interface new → KeepsKeys old new → IsChange limit (Cut handle guid interface None) into old new
one_cut limit handle guid interface into old new by known keys = record {
  taken_back = ap (λ (rows : RowsView). record rows { cuts = with_interface_back (handle, guid) interface rows.cuts }) by.is ∙ ap (λ (c : Cuts). record (rows_of old) { cuts = c }) by.undone;
  sound = by.sound;
  table = by.table;
  known = (known, tt);
  keys = keys;
}

swapped : (handle : ℕ) (guid : List ℕ) (interface : Option (ℕ × ℕ)) (name : Option ℕ) (cuts : Cuts) → with_name_back handle name (with_interface_back (handle, guid) interface cuts) ≡ with_interface_back (handle, guid) interface (with_name_back handle name cuts)
swapped handle guid None None cuts = refl
swapped handle guid None (Some place) cuts = refl
swapped handle guid (Some both) None cuts = refl
swapped handle guid (Some both) (Some place) cuts = refl

-- and then of its handle's number
pub two_cuts : (limit handle : ℕ) (guid : List ℕ) (interface : Option (ℕ × ℕ)) (name : Option ℕ) (into next : RecordTable → RecordTable) (old between new : Kept)
    → IsCutBy limit (with_interface_back (handle, guid) interface) into old between → IsCutBy limit (with_name_back handle name) next between new
    → IsInterfaceKnown (handle, guid) interface between → IsNameKnown handle name new → KeepsKeys old between → KeepsKeys between new
    → IsChange limit (Cut handle guid interface name) (λ (table : RecordTable). next (into table)) old new
two_cuts limit handle guid interface name into next old between new first second known named keys later = record {
  taken_back =
      ap (λ (rows : RowsView). record rows { cuts = with_name_back handle name (with_interface_back (handle, guid) interface rows.cuts) }) second.is
      ∙ ap (λ (c : Cuts). record (rows_of between) { cuts = c }) (swapped handle guid interface name second.cuts ∙ ap (with_interface_back (handle, guid) interface) second.undone)
      ∙ ap (λ (rows : RowsView). record rows { cuts = with_interface_back (handle, guid) interface rows.cuts }) first.is
      ∙ ap (λ (c : Cuts). record (rows_of old) { cuts = c }) first.undone;
  sound = second.sound;
  table = second.table ∙ ap next first.table;
  known = (interface_stays between new later (handle, guid) interface known, named);
  keys = keys_after old between new keys later;
}
