-- Keys that get numbers.
use Rattle.std.proofs.Common.{◌≡◌, ℕ, zero, suc, Bool, true, false, nat_eq, List, [], ◌∷◌, ◌++◌, length, refl, sym, ap, subst, if◌then◌else◌}
use Rattle.std.specs.Prelude.{Result, Ok, Err, IfOk, OnErr, nat_lt}
use Rattle.std.proofs.Math.Path.{fun_ext}
use Rattle.open_records.specs.Interfaces.{Interface}
use Rattle.open_records.specs.Keyed.{is_same}
use Rattle.record_rows.specs.Inside.{CuttersValue, Grows, HasNumber, class_cut_in, cuts_in, name_cut_in}

-- a list as it was, or with one more
abbrev pub more : {X : Type 0} → Bool → List X → X → List X
more same old last = if same then old else old ++ last ∷ []

pub number_stays : {K C : Type 0} (same : Bool) (old : List (K × C)) (last : K × C) (key : K) (number : ℕ) → HasNumber old key number → HasNumber (more same old last) key number
number_stays true old last key number has = has
number_stays false [] last key number has = absurd cc
number_stays false (first ∷ old) last key zero has = has
number_stays false (first ∷ old) last key (suc number) has = number_stays false old last key number has

pub name_cut_stays : (same : Bool) (old : List (ℕ × ℕ)) (name other : ℕ) → name_cut_in (more same old (name, 0)) other ≡ name_cut_in old other
name_cut_stays true old name other = refl
name_cut_stays false [] name other = by_test (nat_eq other name)
  where
    zero_cut : ℕ
    zero_cut = 0

    by_test : (b : Bool) → (if b then zero_cut else zero_cut) ≡ zero_cut
    by_test true = refl
    by_test false = refl
name_cut_stays false (first ∷ old) name other = ap (λ (cut : ℕ). if nat_eq other first.0 then first.1 else cut) (name_cut_stays false old name other)

pub class_cut_stays : (same : Bool) (old : List (Interface × (ℕ × ℕ))) (interface other : Interface) → class_cut_in (more same old (interface, (0, 0))) other ≡ class_cut_in old other
class_cut_stays true old interface other = refl
class_cut_stays false [] interface other = by_test (is_same other.0 other.1 interface.0 interface.1)
  where
    none : ℕ × ℕ
    none = (0, 0)

    by_test : (b : Bool) → (if b then none else none) ≡ none
    by_test true = refl
    by_test false = refl
class_cut_stays false (first ∷ old) interface other = ap (λ (cut : ℕ × ℕ). if is_same other.0 other.1 first.0.0 first.0.1 then first.1 else cut) (class_cut_stays false old interface other)

pub names_grow : (same : Bool) (old : CuttersValue) (name : ℕ) → Grows old (record old { names = more same old.names (name, 0) })
names_grow same old name = record {
  names = λ other number has. number_stays same old.names (name, 0) other number has;
  classes = λ interface number has. has;
  cuts = ap (λ (f : ℕ → ℕ). record (cuts_in old.names old.classes) { name = f }) (fun_ext (name_cut_stays same old.names name));
}

pub classes_grow : (same : Bool) (old : CuttersValue) (interface : Interface) → Grows old (record old { classes = more same old.classes (interface, (0, 0)) })
classes_grow same old interface = record {
  names = λ other number has. has;
  classes = λ other number has. number_stays same old.classes (interface, (0, 0)) other number has;
  cuts = ap (λ (f : Interface → ℕ × ℕ). record (cuts_in old.names old.classes) { weak = λ (i : Interface). (f i).0; other = λ (i : Interface). (f i).1 }) (fun_ext (class_cut_stays same old.classes interface));
}

pub grow_none : (a : CuttersValue) → Grows a a
grow_none a = record { names = λ name number has. has; classes = λ interface number has. has; cuts = refl }

-- whatever entering a key answers
pub names_after : {E : Type 0} (result : Result ℕ E) (old : CuttersValue) (name : ℕ) (names : List (ℕ × ℕ))
    → IfOk result (λ (number : ℕ). names ≡ more (nat_lt number (length old.names)) old.names (name, 0)) → OnErr result (names ≡ old.names) → Grows old (record old { names = names })
names_after (Ok number) old name names is same = subst (λ (list : List (ℕ × ℕ)). Grows old (record old { names = list })) (sym is) (names_grow (nat_lt number (length old.names)) old name)
names_after (Err e) old name names is same = subst (λ (list : List (ℕ × ℕ)). Grows old (record old { names = list })) (sym same) (grow_none old)

pub classes_after : {E : Type 0} (result : Result ℕ E) (old : CuttersValue) (interface : Interface) (classes : List (Interface × (ℕ × ℕ)))
    → IfOk result (λ (number : ℕ). classes ≡ more (nat_lt number (length old.classes)) old.classes (interface, (0, 0))) → OnErr result (classes ≡ old.classes) → Grows old (record old { classes = classes })
classes_after (Ok number) old interface classes is same = subst (λ (list : List (Interface × (ℕ × ℕ))). Grows old (record old { classes = list })) (sym is) (classes_grow (nat_lt number (length old.classes)) old interface)
classes_after (Err e) old interface classes is same = subst (λ (list : List (Interface × (ℕ × ℕ))). Grows old (record old { classes = list })) (sym same) (grow_none old)
