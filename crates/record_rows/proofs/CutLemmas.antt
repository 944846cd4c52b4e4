-- A cut that is set.
use Rattle.std.proofs.Common.{◌≡◌, ℕ, zero, suc, Bool, true, false, nat_eq, List, [], ◌∷◌, map, Some, refl, sym, ap, subst, ◌∙◌, arith, if◌then◌else◌}
use Rattle.std.specs.Prelude.{option_map, slice_get}
use Rattle.std.proofs.Math.Path.{fun_ext}
use Rattle.std.proofs.lemmas.Bool.{eqb-true}
use Rattle.std.proofs.lemmas.Bool.Decides.{nat_tests}
use Rattle.std.proofs.lemmas.Slice.Eq.{bytes_eq-Decides}
use Rattle.open_records.specs.Interfaces.{Interface}
use Rattle.record_rows.specs.Numbers.{AreDistinct, IsAbsent}
use Rattle.record_rows.specs.Rows.{map_at, with_both_cuts, with_name_cut, with_weak_cut}
use Rattle.record_rows.specs.Inside.{HasNumber, class_cut_in, cut_in, cuts_in, is_interface, name_cut_in}
use Rattle.record_rows.proofs.Undone.{same_interface}

abbrev pub firsts : {K C : Type 0} → List (K × C) → List K
firsts {K} {C} entries = map (λ (entry : K × C). entry.0) entries

-- another cut leaves the keys
pub firsts_stay : {K C : Type 0} (number : ℕ) (cut : C) (entries : List (K × C)) → firsts (map_at number (λ (entry : K × C). (entry.0, cut)) entries) ≡ firsts entries
firsts_stay zero cut [] = refl
firsts_stay (suc number) cut [] = refl
firsts_stay zero cut (entry ∷ entries) = refl
firsts_stay (suc number) cut (entry ∷ entries) = ap (λ l. entry.0 ∷ l) (firsts_stay number cut entries)

-- a number is the place of its key
pub by_first : {K C : Type 0} (entries : List (K × C)) (number : ℕ) → slice_get (firsts entries) number ≡ option_map (λ (entry : K × C). entry.0) (slice_get entries number)
by_first [] number = refl
by_first (entry ∷ entries) zero = refl
by_first (entry ∷ entries) (suc number) = by_first entries number

-- a key that has a number is there
pub is_there : {K C : Type 0} (entries : List (K × C)) (key : K) (number : ℕ) → HasNumber entries key number → IsAbsent key (firsts entries) → ⊥
is_there entries key number has absent = absent number (by_first entries number ∙ has)

distinct_rest : {K : Type 0} (first : K) (owners : List K) → AreDistinct (first ∷ owners) → AreDistinct owners
distinct_rest first owners are key number other here there = let same : suc number ≡ suc other = are key (suc number) (suc other) here there in cc

module _ {K C : Type 0} (is_it : K → K → Bool) (none : C) (exact : (key other : K) → is_it key other ≡ true → key ≡ other) (itself : (key : K) → is_it key key ≡ true) where
  -- the first key is none of the later ones
  not_first : (entry : K × C) (entries : List (K × C)) (key : K) (number : ℕ) → AreDistinct (firsts (entry ∷ entries)) → HasNumber entries key number → is_it key entry.0 ≡ false
  not_first entry entries key number are has = by_test (is_it key entry.0) refl
    where
      by_test : (b : Bool) → is_it key entry.0 ≡ b → b ≡ false
      by_test false is = refl
      by_test true is =
          let same : key ≡ entry.0 = exact key entry.0 is in
          let clash : zero ≡ suc number = are key zero (suc number) (ap Some (sym same)) (by_first entries number ∙ has) in
          absurd cc

  set_cut : (entries : List (K × C)) (number : ℕ) (key : K) (cut : C) (other : K) → AreDistinct (firsts entries) → HasNumber entries key number
      → cut_in is_it none (map_at number (λ (entry : K × C). (entry.0, cut)) entries) other ≡ (if is_it other key then cut else cut_in is_it none entries other)
  set_cut [] number key cut other are has = absurd cc
  set_cut (entry ∷ entries) zero key cut other are has =
      let same : entry.0 ≡ key = cc in
      ap (λ (k : K). if is_it other k then cut else cut_in is_it none entries other) same ∙ by_test (is_it other key) entry.1 (cut_in is_it none entries other)
      ∙ ap (λ (k : K). if is_it other key then cut else if is_it other k then entry.1 else cut_in is_it none entries other) (sym same)
    where
      by_test : (b : Bool) (old rest : C) → (if b then cut else rest) ≡ (if b then cut else if b then old else rest)
      by_test true old rest = refl
      by_test false old rest = refl
  set_cut (entry ∷ entries) (suc number) key cut other are has =
      ap (λ (c : C). if is_it other entry.0 then entry.1 else c) (set_cut entries number key cut other (distinct_rest entry.0 (firsts entries) are) has)
      ∙ by_tests (is_it other entry.0) (is_it other key) refl refl
    where
      by_tests : (a b : Bool) → is_it other entry.0 ≡ a → is_it other key ≡ b
          → (if a then entry.1 else if b then cut else cut_in is_it none entries other) ≡ (if b then cut else if a then entry.1 else cut_in is_it none entries other)
      by_tests true true first it =
          let both : key ≡ entry.0 = sym (exact other key it) ∙ exact other entry.0 first in
          let no : is_it entry.0 entry.0 ≡ false = subst (λ (k : K). is_it k entry.0 ≡ false) both (not_first entry entries key number are has) in
          let clash : true ≡ false = rw (itself entry.0) at no in
          absurd cc
      by_tests true false first it = refl
      by_tests false true first it = refl
      by_tests false false first it = refl

  cut_has : (entries : List (K × C)) (number : ℕ) (key : K) (cut : C) → AreDistinct (firsts entries) → HasNumber entries key number → option_map (λ (entry : K × C). entry.1) (slice_get entries number) ≡ Some cut
      → cut_in is_it none entries key ≡ cut
  cut_has [] number key cut are has is = absurd cc
  cut_has (entry ∷ entries) zero key cut are has is =
      let same : entry.0 ≡ key = cc in
      let value : entry.1 ≡ cut = cc in
      let here : is_it key entry.0 ≡ true = ap (is_it key) same ∙ itself key in
      rw here value
  cut_has (entry ∷ entries) (suc number) key cut are has is =
      rw (not_first entry entries key number are has) (cut_has entries number key cut (distinct_rest entry.0 (firsts entries) are) has is)

  cut_absent : (entries : List (K × C)) (key : K) → IsAbsent key (firsts entries) → cut_in is_it none entries key ≡ none
  cut_absent [] key absent = refl
  cut_absent (entry ∷ entries) key absent = by_test (is_it key entry.0) refl (cut_absent entries key (λ number is. absent (suc number) is))
    where
      by_test : (b : Bool) → is_it key entry.0 ≡ b → cut_in is_it none entries key ≡ none → (if b then entry.1 else cut_in is_it none entries key) ≡ none
      by_test false is rest = rest
      by_test true is rest = absurd (absent zero (ap Some (sym (exact key entry.0 is))))

-- ---- handle numbers

pub nat_itself : (n : ℕ) → nat_eq n n ≡ true
nat_itself n = grind (arith, nat_tests)

pub cut_there : (names : List (ℕ × ℕ)) (number name cut : ℕ) → AreDistinct (firsts names) → HasNumber names name number → option_map (λ (entry : ℕ × ℕ). entry.1) (slice_get names number) ≡ Some cut → name_cut_in names name ≡ cut
cut_there names number name cut are has is = cut_has nat_eq 0 eqb-true nat_itself names number name cut are has is

-- all cuts, with another one of a handle number
pub name_is_cut : (names : List (ℕ × ℕ)) (classes : List (Interface × (ℕ × ℕ))) (number name place : ℕ) → AreDistinct (firsts names) → HasNumber names name number
    → cuts_in (map_at number (λ (entry : ℕ × ℕ). (entry.0, place)) names) classes ≡ with_name_cut name place (cuts_in names classes)
name_is_cut names classes number name place are has =
    ap (λ (f : ℕ → ℕ). record (cuts_in names classes) { name = f }) (fun_ext (λ other. set_cut nat_eq 0 eqb-true nat_itself names number name place other are has))

-- ---- interfaces

pub exact_class : (interface other : Interface) → is_interface interface other ≡ true → interface ≡ other
exact_class interface other same = same_interface other interface same

pub class_itself : (interface : Interface) → is_interface interface interface ≡ true
class_itself interface = rw (nat_itself interface.0, (bytes_eq-Decides interface.1 interface.1).1 refl) refl

pub class_cut_there : (classes : List (Interface × (ℕ × ℕ))) (number : ℕ) (interface : Interface) (cuts : ℕ × ℕ) → AreDistinct (firsts classes) → HasNumber classes interface number
    → option_map (λ (entry : Interface × (ℕ × ℕ)). entry.1) (slice_get classes number) ≡ Some cuts → class_cut_in classes interface ≡ cuts
class_cut_there classes number interface cuts are has is = cut_has is_interface (0, 0) exact_class class_itself classes number interface cuts are has is

pub class_cut_absent : (classes : List (Interface × (ℕ × ℕ))) (interface : Interface) → IsAbsent interface (firsts classes) → class_cut_in classes interface ≡ (0, 0)
class_cut_absent classes interface absent = cut_absent is_interface (0, 0) exact_class class_itself classes interface absent

-- all cuts, with others of an interface
pub class_is_cut : (names : List (ℕ × ℕ)) (classes : List (Interface × (ℕ × ℕ))) (number : ℕ) (interface : Interface) (cuts : ℕ × ℕ) → AreDistinct (firsts classes) → HasNumber classes interface number
    → cuts_in names (map_at number (λ (entry : Interface × (ℕ × ℕ)). (entry.0, cuts)) classes) ≡ with_both_cuts interface cuts (cuts_in names classes)
class_is_cut names classes number interface cuts are has =
    ap (λ (f : Interface → ℕ). record (cuts_in names new) { weak = f }) (fun_ext (λ other. ap (λ (both : ℕ × ℕ). both.0) (each other) ∙ first_of (is_interface other interface) cuts (class_cut_in classes other)))
    ∙ ap (λ (f : Interface → ℕ). record (with_weak_cut interface cuts.0 (cuts_in names classes)) { other = f })
    (fun_ext (λ other. ap (λ (both : ℕ × ℕ). both.1) (each other) ∙ second_of (is_interface other interface) cuts (class_cut_in classes other)))
  where
    new : List (Interface × (ℕ × ℕ))
    new = map_at number (λ (entry : Interface × (ℕ × ℕ)). (entry.0, cuts)) classes

    each : (other : Interface) → class_cut_in new other ≡ (if is_interface other interface then cuts else class_cut_in classes other)
    each other = set_cut is_interface (0, 0) exact_class class_itself classes number interface cuts other are has

    first_of : (b : Bool) (now was : ℕ × ℕ) → (if b then now else was).0 ≡ (if b then now.0 else was.0)
    first_of true now was = refl
    first_of false now was = refl

    second_of : (b : Bool) (now was : ℕ × ℕ) → (if b then now else was).1 ≡ (if b then now.1 else was.1)
    second_of true now was = refl
    second_of false now was = refl
