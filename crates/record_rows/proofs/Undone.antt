-- Each change of the rows has an inverse.
use Rattle.std.proofs.Common.{◌≡◌, ℕ, zero, suc, Bool, true, false, nat_eq, List, [], ◌∷◌, refl, sym, ap, ◌∙◌, inl, inr, if◌then◌else◌}
use Rattle.std.proofs.Math.Path.{fun_ext}
use Rattle.std.specs.Prelude.{slice_get, Some}
use Rattle.std.proofs.lemmas.Bool.{cases_Bool, eqb-true}
use Rattle.open_records.specs.Interfaces.{Interface}
use Rattle.open_records.specs.Keyed.{is_same}
use Rattle.open_records.specs.declared.open_record.KeyedRecord.{KeyedRecord}
use Rattle.open_records.proofs.Order.{same_from_of}
use Rattle.record_rows.specs.Asking.{cut_on}
use Rattle.record_rows.specs.Rows.{Cuts, Line, closed_at, counted_at, map_at, with_both_cuts, with_name_cut, with_other_cut, with_weak_cut}

-- ---- cuts

pub name_cut_back : (name place : ℕ) (cuts : Cuts) → with_name_cut name (cuts.name name) (with_name_cut name place cuts) ≡ cuts
name_cut_back name place cuts = ap (λ (f : ℕ → ℕ). record cuts { name = f }) (fun_ext each)
  where
    each : (other : ℕ) → (if nat_eq other name then cuts.name name else if nat_eq other name then place else cuts.name other) ≡ cuts.name other
    each other = elim (cases_Bool (nat_eq other name)) [
      | inl same ↦ rw same (ap cuts.name (sym (eqb-true other name same)))
      | inr differs ↦ rw differs refl
    ]

-- ---- one row

map_at-back : {X : Type 0} (place : ℕ) (f g : X → X) (xs : List X) → ((x : X) → slice_get xs place ≡ Some x → g (f x) ≡ x) → map_at place g (map_at place f xs) ≡ xs
map_at-back zero f g [] back = refl
map_at-back (suc place) f g [] back = refl
map_at-back zero f g (x ∷ xs) back = ap (λ y. y ∷ xs) (back x refl)
map_at-back (suc place) f g (x ∷ xs) back = ap (λ l. x ∷ l) (map_at-back place f g xs back)

pub closed_back : (place : ℕ) (lines : List Line) → ((line : Line) → slice_get lines place ≡ Some line → line.closed ≡ false) → closed_at place false (closed_at place true lines) ≡ lines
closed_back place lines opened =
    map_at-back place (λ (line : Line). record line { closed = true }) (λ (line : Line). record line { closed = false }) lines
    (λ line at. ap (λ (closed : Bool). record line { closed = closed }) (sym (opened line at)))

pub counted_back : (place count before : ℕ) (lines : List Line) → ((line : Line) → slice_get lines place ≡ Some line → line.keyed.rec.count ≡ before) → counted_at place before (counted_at place count lines) ≡ lines
counted_back place count before lines was =
    map_at-back place (λ (line : Line). record line { keyed = record line.keyed { rec = record line.keyed.rec { count = count } } }) (λ (line : Line). record line { keyed = record line.keyed { rec = record line.keyed.rec { count = before } } }) lines
    (λ line at. ap (λ (n : ℕ). record line { keyed = record line.keyed { rec = record line.keyed.rec { count = n } } }) (sym (was line at)))

-- an interface that is the same as another is that one
pub same_interface : (interface other : Interface) → is_same other.0 other.1 interface.0 interface.1 ≡ true → other ≡ interface
same_interface interface other same =
    let one : KeyedRecord = record { handle = other.0; guid = other.1; rec = record { agent = 0; controller = 0; attr = 0; count = 0 } } in
    let by = same_from_of interface.0 interface.1 one same in
    ap (λ (h : ℕ). (h, other.1)) by.same_handle ∙ ap (λ (g : List ℕ). (interface.0, g)) by.same_guid

class_cut_back : (interface : Interface) (place : ℕ) (cut : Interface → ℕ) (other : Interface)
    → (if is_same other.0 other.1 interface.0 interface.1 then cut interface else if is_same other.0 other.1 interface.0 interface.1 then place else cut other) ≡ cut other
class_cut_back interface place cut other = elim (cases_Bool (is_same other.0 other.1 interface.0 interface.1)) [
  | inl same ↦ rw same (ap cut (sym (same_interface interface other same)))
  | inr differs ↦ rw differs refl
]

pub weak_cut_back : (interface : Interface) (place : ℕ) (cuts : Cuts) → with_weak_cut interface (cuts.weak interface) (with_weak_cut interface place cuts) ≡ cuts
weak_cut_back interface place cuts = ap (λ (f : Interface → ℕ). record cuts { weak = f }) (fun_ext (class_cut_back interface place cuts.weak))

pub other_cut_back : (interface : Interface) (place : ℕ) (cuts : Cuts) → with_other_cut interface (cuts.other interface) (with_other_cut interface place cuts) ≡ cuts
other_cut_back interface place cuts = ap (λ (f : Interface → ℕ). record cuts { other = f }) (fun_ext (class_cut_back interface place cuts.other))

-- the cut of an interface's other records, set to what it is
pub other_same : (interface : Interface) (cuts : Cuts) → with_other_cut interface (cuts.other interface) cuts ≡ cuts
other_same interface cuts = ap (λ (f : Interface → ℕ). record cuts { other = f }) (fun_ext each)
  where
    each : (other : Interface) → (if is_same other.0 other.1 interface.0 interface.1 then cuts.other interface else cuts.other other) ≡ cuts.other other
    each other = elim (cases_Bool (is_same other.0 other.1 interface.0 interface.1)) [
      | inl same ↦ rw same (ap cuts.other (sym (same_interface interface other same)))
      | inr differs ↦ rw differs refl
    ]

pub by_class : (all : Bool) (interface : Interface) (place : ℕ) (cuts : Cuts) → with_both_cuts interface (place, if all then place else cuts.other interface) cuts ≡ cut_on all interface place cuts
by_class true interface place cuts = refl
by_class false interface place cuts = other_same interface (with_weak_cut interface place cuts)

-- the cut of an interface's weak records, set to what it is
pub weak_same : (interface : Interface) (cuts : Cuts) → with_weak_cut interface (cuts.weak interface) cuts ≡ cuts
weak_same interface cuts = ap (λ (f : Interface → ℕ). record cuts { weak = f }) (fun_ext each)
  where
    each : (other : Interface) → (if is_same other.0 other.1 interface.0 interface.1 then cuts.weak interface else cuts.weak other) ≡ cuts.weak other
    each other = elim (cases_Bool (is_same other.0 other.1 interface.0 interface.1)) [
      | inl same ↦ rw same (ap cuts.weak (sym (same_interface interface other same)))
      | inr differs ↦ rw differs refl
    ]
