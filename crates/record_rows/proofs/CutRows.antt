-- Rows whose cuts are set.
use Rattle.std.proofs.Common.{◌≡◌, ℕ, Bool, true, false, nat_eq, List, [], ◌∷◌, map, Option, Some, None, refl, sym, ap, subst, ◌∙◌, if◌then◌else◌}
use Rattle.std.specs.Bool.{then_some}
use Rattle.std.specs.Prelude.{MatchOption, slice_get, unwrap_or}
use Rattle.std.specs.List.{list_any}
use Rattle.std.proofs.lemmas.Bool.{eqb-true, or_from}
use Rattle.open_records.specs.Records.{is_named}
use Rattle.open_records.specs.Interfaces.{Interface, interface_of}
use Rattle.open_records.specs.Keyed.{is_of}
use Rattle.open_records.specs.declared.open_record.KeyedRecord.{KeyedRecord}
use Rattle.record_rows.specs.Asking.{HasClass, HasName, KeepsKeys, both_cuts, cut_on}
use Rattle.record_rows.specs.Numbers.{IsAbsent}
use Rattle.record_rows.specs.Rows.{Cuts, Line, RowsView, with_both_cuts, with_name_cut, with_weak_cut}
use Rattle.record_rows.specs.Inside.{AreMarked, CuttersValue, HasNumber, IsClassCut, IsNameCut, Kept, cuts_in, lines_of, name_cut_in, names_line}
use Rattle.record_rows.specs.declared.cutters.Mark.{Mark}
use Rattle.record_rows.proofs.CutLemmas.{by_first, exact_class, firsts}
use Rattle.record_rows.proofs.KeptKeys.{keeps_same}
use Rattle.record_rows.proofs.Undone.{by_class, other_same, weak_same}

abbrev pub CutOrNot : (name place : ℕ) → Option ℕ → CuttersValue → CuttersValue → Type 0
CutOrNot name place result old new = MatchOption result ((new ≡ old) × IsAbsent name (map (λ (entry : ℕ × ℕ). entry.0) old.names)) (λ (before : ℕ). IsNameCut name place before old new)

-- the same keys have the same numbers
number_by_keys : (old new : List (ℕ × ℕ)) → firsts new ≡ firsts old → (key number : ℕ) → HasNumber old key number → HasNumber new key number
number_by_keys old new same key number has = sym (by_first new number) ∙ ap (λ (keys : List ℕ). slice_get keys number) same ∙ by_first old number ∙ has

marked_by : (old new : CuttersValue) (records : List KeyedRecord) (marks : List Mark) → firsts new.names ≡ firsts old.names → new.classes ≡ old.classes
    → AreMarked old.names old.classes records marks → AreMarked new.names new.classes records marks
marked_by old new [] [] names classes are = tt
marked_by old new [] (mark ∷ marks) names classes are = absurd are
marked_by old new (one ∷ records) [] names classes are = absurd are
marked_by old new (one ∷ records) (mark ∷ marks) names classes are = (
  record {
    agent = number_by_keys old.names new.names names one.rec.agent mark.agent are.0.agent;
    controller = number_by_keys old.names new.names names one.rec.controller mark.controller are.0.controller;
    interface = subst (λ (entries : List (Interface × (ℕ × ℕ))). HasNumber entries (interface_of one) mark.interface) (sym classes) are.0.interface;
    attr = are.0.attr;
  },
  marked_by old new records marks names classes are.1,
)

pub marked_cut : (result : Option ℕ) (name place : ℕ) (old new : CuttersValue) (records : List KeyedRecord) (marks : List Mark) → CutOrNot name place result old new
    → AreMarked old.names old.classes records marks → AreMarked new.names new.classes records marks
marked_cut None name place old new records marks is are = subst (λ (c : CuttersValue). AreMarked c.names c.classes records marks) (sym is.0) are
marked_cut (Some before) name place old new records marks is are = marked_by old new records marks is.names is.classes are

-- a handle number that was never entered is in no record
pub none_names : (names : List (ℕ × ℕ)) (classes : List (Interface × (ℕ × ℕ))) (name : ℕ) (records : List KeyedRecord) (marks : List Mark) → IsAbsent name (firsts names)
    → AreMarked names classes records marks → list_any (names_line name) (lines_of records marks) ≡ false
none_names names classes name [] marks absent are = refl
none_names names classes name (one ∷ records) [] absent are = refl
none_names names classes name (one ∷ records) (mark ∷ marks) absent are =
    or_from (is_named name one.rec) (list_any (names_line name) (lines_of records marks))
    (or_from (nat_eq one.rec.agent name) (nat_eq one.rec.controller name) (is_other one.rec.agent mark.agent are.0.agent) (is_other one.rec.controller mark.controller are.0.controller))
    (none_names names classes name records marks absent are.1)
  where
    is_other : (key number : ℕ) → HasNumber names key number → nat_eq key name ≡ false
    is_other key number has = by_test (nat_eq key name) refl
      where
        by_test : (b : Bool) → nat_eq key name ≡ b → b ≡ false
        by_test false is = refl
        by_test true is = absurd (absent number (by_first names number ∙ has ∙ ap Some (eqb-true key name is)))

-- a handle number that had a cut has one
pub named_cut : (name place before : ℕ) (old new : CuttersValue) (lines : List Line) → IsNameCut name place before old new → HasName name (record { lines = lines; names = new.names; classes = new.classes })
named_cut name place before old new lines is absent = is.there (subst (IsAbsent name) is.names absent)

pub keys_cut : (result : Option ℕ) (name place : ℕ) (old new : CuttersValue) (lines : List Line) → CutOrNot name place result old new
    → KeepsKeys (record { lines = lines; names = old.names; classes = old.classes }) (record { lines = lines; names = new.names; classes = new.classes })
keys_cut None name place old new lines is = keeps_same lines lines old new (ap (λ (c : CuttersValue). firsts c.names) is.0) (ap (λ (c : CuttersValue). firsts c.classes) is.0)
keys_cut (Some before) name place old new lines is = keeps_same lines lines old new is.names (ap firsts is.classes)

pub rows_cut : (result : Option ℕ) (name place : ℕ) (old new : CuttersValue) (records : List KeyedRecord) (marks : List Mark) → CutOrNot name place result old new
    → AreMarked old.names old.classes records marks
    → MatchOption result
    ((◌≡◌ {A = Kept} (record { lines = lines_of records marks; names = new.names; classes = new.classes }) (record { lines = lines_of records marks; names = old.names; classes = old.classes }))
    × (list_any (names_line name) (lines_of records marks) ≡ false))
    (λ (before : ℕ). (name_cut_in old.names name ≡ before) × HasName name (record { lines = lines_of records marks; names = new.names; classes = new.classes })
    × (◌≡◌ {A = RowsView} (record { lines = lines_of records marks; cuts = cuts_in new.names new.classes }) (record { lines = lines_of records marks; cuts = with_name_cut name place (cuts_in old.names old.classes) })))
rows_cut None name place old new records marks is are =
    (ap (λ (c : CuttersValue). record { lines = lines_of records marks; names = c.names; classes = c.classes }) is.0, none_names old.names old.classes name records marks is.1 are)
rows_cut (Some before) name place old new records marks is are =
    (is.was, named_cut name place before old new (lines_of records marks) is, ap (λ (cuts : Cuts). record { lines = lines_of records marks; cuts = cuts }) is.cuts)

pub rows_restored : (result : Option ℕ) (name place : ℕ) (old new : CuttersValue) (lines : List Line) → CutOrNot name place result old new → (IsAbsent name (map (λ (entry : ℕ × ℕ). entry.0) old.names) → ⊥)
    → ◌≡◌ {A = RowsView} (record { lines = lines; cuts = cuts_in new.names new.classes }) (record { lines = lines; cuts = with_name_cut name place (cuts_in old.names old.classes) })
rows_restored None name place old new lines is has = absurd (has is.1)
rows_restored (Some before) name place old new lines is has = ap (λ (cuts : Cuts). record { lines = lines; cuts = cuts }) is.cuts

-- ---- the cuts of an interface

abbrev pub ClassCutOrNot : Option (ℕ × ℕ) → Interface → (ℕ × ℕ → ℕ × ℕ) → CuttersValue → CuttersValue → Type 0
ClassCutOrNot result interface after old new = MatchOption result ((new ≡ old) × IsAbsent interface (firsts old.classes)) (λ (before : ℕ × ℕ). IsClassCut interface before (after before) old new)

module _ {K C : Type 0} where
  number_stays : (old new : List (K × C)) → firsts new ≡ firsts old → (key : K) (number : ℕ) → HasNumber old key number → HasNumber new key number
  number_stays old new same key number has = sym (by_first new number) ∙ ap (λ (keys : List K). slice_get keys number) same ∙ by_first old number ∙ has

class_marked : (old new : CuttersValue) (records : List KeyedRecord) (marks : List Mark) → new.names ≡ old.names → firsts new.classes ≡ firsts old.classes
    → AreMarked old.names old.classes records marks → AreMarked new.names new.classes records marks
class_marked old new [] [] names classes are = tt
class_marked old new [] (mark ∷ marks) names classes are = absurd are
class_marked old new (one ∷ records) [] names classes are = absurd are
class_marked old new (one ∷ records) (mark ∷ marks) names classes are = (
  record {
    agent = subst (λ (entries : List (ℕ × ℕ)). HasNumber entries one.rec.agent mark.agent) (sym names) are.0.agent;
    controller = subst (λ (entries : List (ℕ × ℕ)). HasNumber entries one.rec.controller mark.controller) (sym names) are.0.controller;
    interface = number_stays old.classes new.classes classes (interface_of one) mark.interface are.0.interface;
    attr = are.0.attr;
  },
  class_marked old new records marks names classes are.1,
)

pub class_marked_cut : (result : Option (ℕ × ℕ)) (interface : Interface) (after : ℕ × ℕ → ℕ × ℕ) (old new : CuttersValue) (records : List KeyedRecord) (marks : List Mark)
    → ClassCutOrNot result interface after old new → AreMarked old.names old.classes records marks → AreMarked new.names new.classes records marks
class_marked_cut None interface after old new records marks is are = subst (λ (c : CuttersValue). AreMarked c.names c.classes records marks) (sym is.0) are
class_marked_cut (Some before) interface after old new records marks is are = class_marked old new records marks is.names is.classes are

pub class_keys_cut : (result : Option (ℕ × ℕ)) (interface : Interface) (after : ℕ × ℕ → ℕ × ℕ) (old new : CuttersValue) (lines : List Line) → ClassCutOrNot result interface after old new
    → KeepsKeys (record { lines = lines; names = old.names; classes = old.classes }) (record { lines = lines; names = new.names; classes = new.classes })
class_keys_cut None interface after old new lines is = keeps_same lines lines old new (ap (λ (c : CuttersValue). firsts c.names) is.0) (ap (λ (c : CuttersValue). firsts c.classes) is.0)
class_keys_cut (Some before) interface after old new lines is = keeps_same lines lines old new (ap firsts is.names) is.classes

-- an interface that was never entered has no record
pub none_on : (names : List (ℕ × ℕ)) (classes : List (Interface × (ℕ × ℕ))) (interface : Interface) (records : List KeyedRecord) (marks : List Mark) → IsAbsent interface (firsts classes)
    → AreMarked names classes records marks → list_any (λ (line : Line). is_of interface.0 interface.1 line.keyed) (lines_of records marks) ≡ false
none_on names classes interface [] marks absent are = refl
none_on names classes interface (one ∷ records) [] absent are = refl
none_on names classes interface (one ∷ records) (mark ∷ marks) absent are =
    or_from (is_of interface.0 interface.1 one) (list_any (λ (line : Line). is_of interface.0 interface.1 line.keyed) (lines_of records marks)) (by_test (is_of interface.0 interface.1 one) refl)
    (none_on names classes interface records marks absent are.1)
  where
    by_test : (b : Bool) → is_of interface.0 interface.1 one ≡ b → b ≡ false
    by_test false is = refl
    by_test true is = absurd (absent mark.interface (by_first classes mark.interface ∙ are.0.interface ∙ ap Some (exact_class (interface_of one) interface is)))

-- the cut of the other records is given or not
pub given_or_not : (all : Bool) (result : Option (ℕ × ℕ)) (interface : Interface) (place : ℕ) (old new : CuttersValue)
    → ClassCutOrNot result interface (λ (before : ℕ × ℕ). (place, unwrap_or (then_some all place) before.1)) old new → ClassCutOrNot result interface (λ (before : ℕ × ℕ). (place, if all then place else before.1)) old new
given_or_not true result interface place old new is = is
given_or_not false result interface place old new is = is

-- the interface was cut, or there was nothing to cut
pub class_rows_cut : (all : Bool) (result : Option (ℕ × ℕ)) (interface : Interface) (place : ℕ) (old new : CuttersValue) (records : List KeyedRecord) (marks : List Mark)
    → ClassCutOrNot result interface (λ (before : ℕ × ℕ). (place, if all then place else before.1)) old new → AreMarked old.names old.classes records marks
    → MatchOption result
    ((◌≡◌ {A = Kept} (record { lines = lines_of records marks; names = new.names; classes = new.classes }) (record { lines = lines_of records marks; names = old.names; classes = old.classes }))
    × (list_any (λ (line : Line). is_of interface.0 interface.1 line.keyed) (lines_of records marks) ≡ false))
    (λ (before : ℕ × ℕ). (both_cuts interface (cuts_in old.names old.classes) ≡ before) × HasClass interface (record { lines = lines_of records marks; names = new.names; classes = new.classes })
    × (◌≡◌ {A = RowsView} (record { lines = lines_of records marks; cuts = cuts_in new.names new.classes }) (record { lines = lines_of records marks; cuts = cut_on all interface place (cuts_in old.names old.classes) })))
class_rows_cut all None interface place old new records marks is are =
    (ap (λ (c : CuttersValue). record { lines = lines_of records marks; names = c.names; classes = c.classes }) is.0, none_on old.names old.classes interface records marks is.1 are)
class_rows_cut all (Some before) interface place old new records marks is are = (
  is.was,
  λ absent. is.there (subst (IsAbsent interface) is.classes absent),
  ap (λ (cuts : Cuts). record { lines = lines_of records marks; cuts = cuts })
      (is.cuts ∙ ap (λ (both : ℕ × ℕ). with_both_cuts interface (place, if all then place else both.1) (cuts_in old.names old.classes)) (sym is.was) ∙ by_class all interface place (cuts_in old.names old.classes)),
)

pub class_rows_restored : (result : Option (ℕ × ℕ)) (interface : Interface) (both : ℕ × ℕ) (old new : CuttersValue) (lines : List Line)
    → ClassCutOrNot result interface (λ (before : ℕ × ℕ). both) old new → HasClass interface (record { lines = lines; names = old.names; classes = old.classes })
    → ◌≡◌ {A = RowsView} (record { lines = lines; cuts = cuts_in new.names new.classes }) (record { lines = lines; cuts = with_both_cuts interface both (cuts_in old.names old.classes) })
class_rows_restored None interface both old new lines is has = absurd (has is.1)
class_rows_restored (Some before) interface both old new lines is has = ap (λ (cuts : Cuts). record { lines = lines; cuts = cuts }) is.cuts

-- only the cut of the weak records is another one
pub weak_alone : (result : Option (ℕ × ℕ)) (interface : Interface) (weak : ℕ) (after : ℕ × ℕ → ℕ × ℕ) (old new : CuttersValue) → ClassCutOrNot result interface after old new
    → (after (both_cuts interface (cuts_in old.names old.classes)) ≡ (weak, (cuts_in old.names old.classes).other interface)) → (cut : ℕ) × (cuts_in new.names new.classes ≡ with_weak_cut interface cut (cuts_in old.names old.classes))
weak_alone None interface weak after old new is alone =
    ((cuts_in old.names old.classes).weak interface, ap (λ (c : CuttersValue). cuts_in c.names c.classes) is.0 ∙ sym (weak_same interface (cuts_in old.names old.classes)))
weak_alone (Some before) interface weak after old new is alone =
    let cuts = cuts_in old.names old.classes in
    (weak, is.cuts ∙ ap (λ (both : ℕ × ℕ). with_both_cuts interface (after both) cuts) (sym is.was) ∙ ap (λ (both : ℕ × ℕ). with_both_cuts interface both cuts) alone ∙ other_same interface (with_weak_cut interface weak cuts))
