-- The rows that an index gives, and those that a test picks.
use Rattle.std.proofs.Common.{◌≡◌, ◌<◌, ◌≤◌, ◌+◌, ℕ, zero, suc, Bool, true, false, not, ◌&&◌, ◌||◌, nat_eq, nat_le, List, [], ◌∷◌, ◌++◌, length, take, drop, filter, map, Option, Some, None, refl, sym, ap, subst, ◌∙◌, inl, inr, arith, if◌then◌else◌}
use Rattle.std.specs.Prelude.{option_map, slice_get}
use Rattle.std.specs.List.{list_any}
use Rattle.std.proofs.lemmas.Bool.{and_parts, cases_Bool, eqb-true, or_from, or_parts}
use Rattle.std.proofs.lemmas.Bool.Decides.{nat_tests}
use Rattle.std.proofs.lemmas.Option.{slice_get_within}
use Rattle.fw_types.specs.Attr.{has_bit_of}
use Rattle.fw_types.specs.declared.attr.TheConstants.Attr.{BY_CHILD_CONTROLLER, WEAK_BITS}
use Rattle.open_records.specs.declared.open_record.Rec.{Rec}
use Rattle.open_records.specs.Records.{is_equal, is_for_child, is_named, is_strong}
use Rattle.open_records.specs.Changing.{is_open}
use Rattle.open_records.specs.Interfaces.{Interface, interface_of, is_on}
use Rattle.open_records.specs.Keyed.{is_of}
use Rattle.open_records.specs.declared.open_record.KeyedRecord.{KeyedRecord}
use Rattle.open_records.proofs.ListLemmas.{filter_both, filter-map}
use Rattle.record_rows.specs.Asking.{ArePlacesOf, closed_where, counts_at, counts_in, last_from, last_line, is_other_record_on, passes, passes_at, shown_among, shown_at, shown_in, shown_on}
use Rattle.record_rows.specs.Index.{RowKey, is_other_on, is_key, is_key_named, is_key_on, is_strong_on, last_key, last_key_from, places_from, places_of}
use Rattle.record_rows.specs.Inside.{AreMarked, HasNumber, IsMarkOf, is_interface, key_of, lines_of, names_line}
use Rattle.record_rows.specs.Numbers.{AreDistinct}
use Rattle.record_rows.specs.Rows.{Cuts, Line, RowsView, class_cut, closed_at, counts, is_weak, shown, shown_from}
use Rattle.record_rows.specs.declared.cutters.Mark.{Mark}
use Rattle.record_rows.proofs.CutLemmas.{by_first, class_itself, exact_class, firsts, nat_itself}

-- a test of keys and a test of records agree at each row
abbrev pub AreAlike : (RowKey → Bool) → (KeyedRecord → Bool) → List RowKey → List Line → Type 0
AreAlike by test [] [] = Unit {0}
AreAlike by test [] (line ∷ lines) = ⊥
AreAlike by test (key ∷ keys) [] = ⊥
AreAlike by test (key ∷ keys) (line ∷ lines) = (by key ≡ test line.keyed) × AreAlike by test keys lines

-- ---- walks

module _ (by : RowKey → Bool) (test : KeyedRecord → Bool) where
  walk : (cuts : Cuts) (all : List Line) (place : ℕ) (keys : List RowKey) (lines : List Line) → ((n : ℕ) → slice_get all (place + n) ≡ slice_get lines n) → AreAlike by test keys lines
      → shown_among (record { lines = all; cuts = cuts }) (places_from place by keys) ≡ filter test (shown_from place cuts lines)
  walk cuts all place [] [] there alike = refl
  walk cuts all place [] (line ∷ lines) there alike = absurd alike
  walk cuts all place (key ∷ keys) [] there alike = absurd alike
  walk cuts all place (key ∷ keys) (line ∷ lines) there alike =
      let next = λ (n : ℕ). (let on : (place + 1) + n ≡ place + suc n = omega arith in ap (slice_get all) on ∙ there (suc n)) in
      let rest = walk cuts all (place + 1) keys lines next alike.1 in
      let same : place ≡ place + 0 = omega arith in
      let here : shown_at (record { lines = all; cuts = cuts }) place ≡ shown_in cuts place (Some line) = ap (shown_in cuts place) (ap (slice_get all) same ∙ there 0) in
      elim (cases_Bool (by key)) [
        | inl mine ↦ elim (cases_Bool (counts cuts place line)) [
          | inl counted ↦
              let passed : test line.keyed ≡ true = sym alike.0 ∙ mine in
              let first : shown_in cuts place (Some line) ≡ line.keyed ∷ [] = rw counted refl in
              rw (mine, counted, passed, here, first) (ap (λ l. line.keyed ∷ l) rest)
          | inr gone ↦
              let first : shown_in cuts place (Some line) ≡ [] = rw gone refl in
              rw (mine, gone, here, first) rest
        ]
        | inr other ↦
            let failed : test line.keyed ≡ false = sym alike.0 ∙ other in
            elim (cases_Bool (counts cuts place line)) [
              | inl counted ↦ rw (other, counted, failed) rest
              | inr gone ↦ rw (other, gone) rest
            ]
      ]

  last_alike : (place : ℕ) (found : Option ℕ) (keys : List RowKey) (lines : List Line) → AreAlike by test keys lines → last_key_from place found by keys ≡ last_from place found test lines
  last_alike place found [] [] alike = refl
  last_alike place found [] (line ∷ lines) alike = absurd alike
  last_alike place found (key ∷ keys) [] alike = absurd alike
  last_alike place found (key ∷ keys) (line ∷ lines) alike =
      ap (λ (b : Bool). last_key_from (place + 1) (if b then Some place else found) by keys) alike.0 ∙ last_alike (place + 1) (if test line.keyed then Some place else found) keys lines alike.1

pub shown_by_index : (by : RowKey → Bool) (test : KeyedRecord → Bool) (rows : RowsView) (keys : List RowKey) → AreAlike by test keys rows.lines → shown_among rows (places_of by keys) ≡ filter test (shown rows)
shown_by_index by test rows keys alike = walk by test rows.cuts rows.lines 0 keys rows.lines (λ n. (let same : 0 + n ≡ n = omega arith in ap (slice_get rows.lines) same)) alike

pub last_by_index : (by : RowKey → Bool) (test : KeyedRecord → Bool) (keys : List RowKey) (lines : List Line) → AreAlike by test keys lines → last_key by keys ≡ last_line test lines
last_by_index by test keys lines alike = last_alike by test 0 None keys lines alike

-- ---- the tests agree

number_alike : {K C : Type 0} (is_it : K → K → Bool) → ((key other : K) → is_it key other ≡ true → key ≡ other) → ((key : K) → is_it key key ≡ true) → (entries : List (K × C)) → AreDistinct (firsts entries)
    → (key other : K) (number place : ℕ) → HasNumber entries key number → HasNumber entries other place → nat_eq place number ≡ is_it other key
number_alike is_it exact itself entries are key other number place has there = by_test (is_it other key) refl
  where
    by_number : (b : Bool) → nat_eq place number ≡ b → is_it other key ≡ false → b ≡ false
    by_number false is apart = refl
    by_number true is apart =
        let at : place ≡ number = eqb-true place number is in
        let both : Some other ≡ Some key = sym there ∙ ap (λ (n : ℕ). option_map (λ entry. entry.0) (slice_get entries n)) at ∙ has in
        let same : other ≡ key = cc in
        let yes : is_it other key ≡ true = ap (λ k. is_it k key) same ∙ itself key in
        absurd cc

    by_test : (b : Bool) → is_it other key ≡ b → nat_eq place number ≡ b
    by_test true is =
        let same : other ≡ key = exact other key is in
        let at : place ≡ number = are key place number (by_first entries place ∙ there ∙ ap Some same) (by_first entries number ∙ has) in
        ap (λ (n : ℕ). nat_eq n number) at ∙ nat_itself number
    by_test false is = by_number (nat_eq place number) refl is

module _ (names : List (ℕ × ℕ)) (classes : List (Interface × (ℕ × ℕ))) where
  all_alike : (by : RowKey → Bool) (test : KeyedRecord → Bool) → ((one : KeyedRecord) (mark : Mark) → IsMarkOf names classes one mark → by (key_of mark) ≡ test one)
      → (records : List KeyedRecord) (marks : List Mark) → AreMarked names classes records marks → AreAlike by test (map key_of marks) (lines_of records marks)
  all_alike by test each [] [] are = tt
  all_alike by test each [] (mark ∷ marks) are = absurd are
  all_alike by test each (one ∷ records) [] are = absurd are
  all_alike by test each (one ∷ records) (mark ∷ marks) are = (each one mark are.0, all_alike by test each records marks are.1)

  -- a handle number
  pub named_rows : AreDistinct (firsts names) → (name number : ℕ) → HasNumber names name number → (records : List KeyedRecord) (marks : List Mark) → AreMarked names classes records marks
      → AreAlike (is_key_named number) (λ (one : KeyedRecord). is_named name one.rec) (map key_of marks) (lines_of records marks)
  named_rows distinct name number has =
      all_alike (is_key_named number) (λ (one : KeyedRecord). is_named name one.rec)
      (λ one mark is.
      rw (
        number_alike nat_eq eqb-true nat_itself names distinct name one.rec.agent number mark.agent has is.agent,
        number_alike nat_eq eqb-true nat_itself names distinct name one.rec.controller number mark.controller has is.controller,
      ) refl)

module _ (names : List (ℕ × ℕ)) (classes : List (Interface × (ℕ × ℕ))) (distinct_names : AreDistinct (firsts names)) (distinct : AreDistinct (firsts classes)) (interface : Interface) (number : ℕ) (has : HasNumber classes interface number) where
  on_alike : (one : KeyedRecord) (mark : Mark) → IsMarkOf names classes one mark → nat_eq mark.interface number ≡ is_on interface one
  on_alike one mark is = number_alike is_interface exact_class class_itself classes distinct interface (interface_of one) number mark.interface has is.interface

  pub on_rows : (records : List KeyedRecord) (marks : List Mark) → AreMarked names classes records marks → AreAlike (is_key_on number) (is_on interface) (map key_of marks) (lines_of records marks)
  on_rows = all_alike names classes (is_key_on number) (is_on interface) on_alike

  pub others_on : (records : List KeyedRecord) (marks : List Mark) → AreMarked names classes records marks → AreAlike (is_other_on number) (is_other_record_on interface) (map key_of marks) (lines_of records marks)
  others_on = all_alike names classes (is_other_on number) (is_other_record_on interface) (λ one mark is. rw (on_alike one mark is, is.attr) refl)

  pub strong_rows : (records : List KeyedRecord) (marks : List Mark) → AreMarked names classes records marks
      → AreAlike (is_strong_on number) (λ (one : KeyedRecord). is_on interface one && is_strong one.rec) (map key_of marks) (lines_of records marks)
  strong_rows = all_alike names classes (is_strong_on number) (λ (one : KeyedRecord). is_on interface one && is_strong one.rec)
      (λ one mark is. rw (on_alike one mark is, is.attr) refl)

  pub open_rows : (agent controller bits agent_number controller_number : ℕ) → HasNumber names agent agent_number → HasNumber names controller controller_number
      → (records : List KeyedRecord) (marks : List Mark) → AreMarked names classes records marks
      → AreAlike (is_key (number, agent_number, controller_number, bits)) (is_open interface.0 interface.1 agent controller bits) (map key_of marks) (lines_of records marks)
  open_rows agent controller bits agent_number controller_number has_agent has_controller =
      all_alike names classes (is_key (number, agent_number, controller_number, bits)) (is_open interface.0 interface.1 agent controller bits)
      (λ one mark is.
      rw (
        on_alike one mark is,
        number_alike nat_eq eqb-true nat_itself names distinct_names agent one.rec.agent agent_number mark.agent has_agent is.agent,
        number_alike nat_eq eqb-true nat_itself names distinct_names controller one.rec.controller controller_number mark.controller has_controller is.controller,
        is.attr,
      ) (regroup (is_on interface one) (nat_eq one.rec.agent agent) (nat_eq one.rec.controller controller) (nat_eq one.rec.attr bits)))
    where
      regroup : (a b c d : Bool) → (a && b && c && d) ≡ (a && (b && c && d))
      regroup true b c d = refl
      regroup false b c d = refl

-- ---- no row passes

pub none_shown : (test : KeyedRecord → Bool) (cuts : Cuts) (place : ℕ) (lines : List Line) → list_any (λ (line : Line). test line.keyed) lines ≡ false → filter test (shown_from place cuts lines) ≡ []
none_shown test cuts place [] none = refl
none_shown test cuts place (line ∷ lines) none =
    let parts = or_parts (test line.keyed) (list_any (λ (other : Line). test other.keyed) lines) none in
    let rest = none_shown test cuts (place + 1) lines parts.1 in
    elim (cases_Bool (counts cuts place line)) [
      | inl here ↦ rw (here, parts.0) rest
      | inr gone ↦ rw gone rest
    ]

pub none_last : (test : KeyedRecord → Bool) (place : ℕ) (found : Option ℕ) (lines : List Line) → list_any (λ (line : Line). test line.keyed) lines ≡ false → last_from place found test lines ≡ found
none_last test place found [] none = refl
none_last test place found (line ∷ lines) none =
    let parts = or_parts (test line.keyed) (list_any (λ (other : Line). test other.keyed) lines) none in
    rw parts.0 (none_last test (place + 1) found lines parts.1)

-- a test that only such pass as pass another one, which none passes
pub none_weaker : {X : Type 0} (test other : X → Bool) (xs : List X) → ((x : X) → other x ≡ true → test x ≡ true) → list_any test xs ≡ false → list_any other xs ≡ false
none_weaker test other [] only none = refl
none_weaker test other (x ∷ xs) only none =
    let parts = or_parts (test x) (list_any test xs) none in
    or_from (other x) (list_any other xs) (by_test (other x) refl parts.0) (none_weaker test other xs only parts.1)
  where
    by_test : (b : Bool) → other x ≡ b → test x ≡ false → b ≡ false
    by_test false is fails = refl
    by_test true is fails = let passes : test x ≡ true = only x is in absurd cc

-- ---- some rows

pub count_shown : (rows : RowsView) (places : List ℕ) → length (filter (counts_at rows) places) ≡ length (shown_among rows places)
count_shown rows [] = refl
count_shown rows (place ∷ places) = by_row (slice_get rows.lines place) refl (count_shown rows places)
  where
    by_row : (row : Option Line) → slice_get rows.lines place ≡ row → length (filter (counts_at rows) places) ≡ length (shown_among rows places)
        → length (filter (counts_at rows) (place ∷ places)) ≡ length (shown_at rows place ++ shown_among rows places)
    by_row None at rest =
        let gone : counts_at rows place ≡ false = ap (counts_in rows.cuts place) at in
        let none : shown_at rows place ≡ [] = ap (shown_in rows.cuts place) at in
        rw (gone, none) rest
    by_row (Some line) at rest = elim (cases_Bool (counts rows.cuts place line)) [
      | inl here ↦
          let yes : counts_at rows place ≡ true = ap (counts_in rows.cuts place) at ∙ here in
          let one : shown_at rows place ≡ line.keyed ∷ [] = ap (shown_in rows.cuts place) at ∙ rw here refl in
          rw (yes, one) (ap suc rest)
      | inr out ↦
          let gone : counts_at rows place ≡ false = ap (counts_in rows.cuts place) at ∙ out in
          let none : shown_at rows place ≡ [] = ap (shown_in rows.cuts place) at ∙ rw out refl in
          rw (gone, none) rest
    ]

-- ---- places

abbrev pub Holds : {X : Type 0} → X → List X → Type 0
Holds {X} x xs = (number : ℕ) × (slice_get xs number ≡ Some x)

later_holds : {X : Type 0} (x y : X) (xs : List X) → Holds x xs → Holds x (y ∷ xs)
later_holds x y xs holds = (suc holds.0, holds.1)

pub filter_from : {X : Type 0} (test : X → Bool) (xs : List X) (number : ℕ) (x : X) → slice_get (filter test xs) number ≡ Some x → (test x ≡ true) × Holds x xs
filter_from test [] number x is = absurd cc
filter_from {X} test (y ∷ xs) number x is = by_test (test y) refl number is (λ n at. filter_from test xs n x at)
  where
    by_test : (b : Bool) → test y ≡ b → (n : ℕ) → slice_get (if b then y ∷ filter test xs else filter test xs) n ≡ Some x
        → ((m : ℕ) → slice_get (filter test xs) m ≡ Some x → (test x ≡ true) × Holds x xs) → (test x ≡ true) × Holds x (y ∷ xs)
    by_test true passes zero at rest = let same : y ≡ x = cc in (subst (λ (z : X). test z ≡ true) same passes, (0, ap Some same))
    by_test true passes (suc n) at rest = let found = rest n at in (found.0, later_holds x y xs found.1)
    by_test false fails n at rest = let found = rest n at in (found.0, later_holds x y xs found.1)

pub filter_holds : {X : Type 0} (test : X → Bool) (xs : List X) (number : ℕ) (x : X) → slice_get xs number ≡ Some x → test x ≡ true → Holds x (filter test xs)
filter_holds test [] number x is passes = absurd cc
filter_holds test (y ∷ xs) zero x is passes = let same : y ≡ x = cc in let here : test y ≡ true = ap test same ∙ passes in rw here (0, ap Some same)
filter_holds {X} test (y ∷ xs) (suc number) x is passes = by_test (test y) (filter_holds test xs number x is passes)
  where
    by_test : (b : Bool) → Holds x (filter test xs) → Holds x (if b then y ∷ filter test xs else filter test xs)
    by_test true holds = later_holds x y (filter test xs) holds
    by_test false holds = holds

module _ (by : RowKey → Bool) (test : KeyedRecord → Bool) where
  -- a row that passes is among the places
  pub in_places : (place : ℕ) (keys : List RowKey) (lines : List Line) → AreAlike by test keys lines → (n : ℕ) → passes_at test lines n ≡ true → Holds (place + n) (places_from place by keys)
  in_places place [] [] alike n is = absurd cc
  in_places place [] (line ∷ lines) alike n is = absurd alike
  in_places place (key ∷ keys) [] alike n is = absurd alike
  in_places place (key ∷ keys) (line ∷ lines) alike zero is =
      let mine : by key ≡ true = alike.0 ∙ is in
      let here : place ≡ place + 0 = omega arith in
      rw mine (0, ap Some here)
  in_places place (key ∷ keys) (line ∷ lines) alike (suc n) is =
      let on : (place + 1) + n ≡ place + suc n = omega arith in
      let rest : Holds (place + suc n) (places_from (place + 1) by keys) = subst (λ (p : ℕ). Holds p (places_from (place + 1) by keys)) on (in_places (place + 1) keys lines alike.1 n is) in
      by_test (by key) rest
    where
      by_test : (b : Bool) → Holds (place + suc n) (places_from (place + 1) by keys) → Holds (place + suc n) (if b then place ∷ places_from (place + 1) by keys else places_from (place + 1) by keys)
      by_test true holds = later_holds (place + suc n) place (places_from (place + 1) by keys) holds
      by_test false holds = holds

  -- and each of the places is that of a row that passes
  pub from_places : (place : ℕ) (keys : List RowKey) (lines : List Line) → AreAlike by test keys lines → (number at : ℕ) → slice_get (places_from place by keys) number ≡ Some at
      → (n : ℕ) × (at ≡ place + n) × (passes_at test lines n ≡ true)
  from_places place [] [] alike number at is = absurd cc
  from_places place [] (line ∷ lines) alike number at is = absurd alike
  from_places place (key ∷ keys) [] alike number at is = absurd alike
  from_places place (key ∷ keys) (line ∷ lines) alike number at is = by_test (by key) refl number is (λ n here. from_places (place + 1) keys lines alike.1 n at here)
    where
      further : (n : ℕ) × (at ≡ (place + 1) + n) × (passes_at test lines n ≡ true) → (n : ℕ) × (at ≡ place + n) × (passes_at test (line ∷ lines) n ≡ true)
      further found = let on : (place + 1) + found.0 ≡ place + suc found.0 = omega arith in (suc found.0, found.1 ∙ on, found.2)

      by_test : (b : Bool) → by key ≡ b → (n : ℕ) → slice_get (if b then place ∷ places_from (place + 1) by keys else places_from (place + 1) by keys) n ≡ Some at
          → ((m : ℕ) → slice_get (places_from (place + 1) by keys) m ≡ Some at → (n : ℕ) × (at ≡ (place + 1) + n) × (passes_at test lines n ≡ true))
          → (n : ℕ) × (at ≡ place + n) × (passes_at test (line ∷ lines) n ≡ true)
      by_test true mine zero here rest =
          let same : place ≡ at = cc in
          let first : place ≡ place + 0 = omega arith in
          (0, sym same ∙ first, sym alike.0 ∙ mine)
      by_test true mine (suc n) here rest = further (rest n here)
      by_test false other n here rest = further (rest n here)

-- the rows of an interface that count
pub are_places : (by : RowKey → Bool) (on : KeyedRecord → Bool) (rows : RowsView) (keys : List RowKey) → AreAlike by on keys rows.lines → ArePlacesOf on rows (filter (counts_at rows) (places_of by keys))
are_places by on rows keys alike = record {
  only = λ number place is.
      (let found = filter_from (counts_at rows) (places_of by keys) number place is in
      let at = from_places by on 0 keys rows.lines alike found.1.0 place found.1.1 in
      let same : at.0 ≡ place = omega (arith, at.1) in
      let passes : passes_at on rows.lines place ≡ true = subst (λ (p : ℕ). passes_at on rows.lines p ≡ true) same at.2 in
      rw (found.0, passes) refl);
  all = λ place is.
      (let parts = and_parts (counts_at rows place) (passes_at on rows.lines place) is in
      let there = in_places by on 0 keys rows.lines alike place parts.1 in
      let same : 0 + place ≡ place = omega arith in
      let holds : Holds place (places_of by keys) = subst (λ (p : ℕ). Holds p (places_of by keys)) same there in
      filter_holds (counts_at rows) (places_of by keys) holds.0 place holds.1 parts.0);
}

-- those of them that pass a test
pub narrower : (on test : KeyedRecord → Bool) (rows : RowsView) (places : List ℕ) → ArePlacesOf on rows (filter (counts_at rows) places)
    → ArePlacesOf (λ (one : KeyedRecord). on one && test one) rows (filter (λ (place : ℕ). counts_at rows place && passes_at test rows.lines place) places)
narrower on test rows places are = record {
  only = λ number place is.
      (let found = filter_from mine places number place is in
      let parts = and_parts (counts_at rows place) (passes_at test rows.lines place) found.0 in
      let there = filter_holds (counts_at rows) places found.1.0 place found.1.1 parts.0 in
      let passes = (and_parts (counts_at rows place) (passes_at on rows.lines place) (are.only there.0 place there.1)).1 in
      rw (parts.0) (both (slice_get rows.lines place) passes parts.1));
  all = λ place is.
      (let parts = and_parts (counts_at rows place) (passes_at (λ (one : KeyedRecord). on one && test one) rows.lines place) is in
      let split = apart (slice_get rows.lines place) parts.1 in
      let there = are.all place (rw (parts.0, split.0) refl) in
      let found = (filter_from (counts_at rows) places there.0 place there.1).1 in
      filter_holds mine places found.0 place found.1 (rw (parts.0, split.1) refl));
}
  where
    mine : ℕ → Bool
    mine place = counts_at rows place && passes_at test rows.lines place

    both : (row : Option Line) → passes on row ≡ true → passes test row ≡ true → passes (λ (one : KeyedRecord). on one && test one) row ≡ true
    both None here is = absurd cc
    both (Some line) here is = rw (here, is) refl

    apart : (row : Option Line) → passes (λ (one : KeyedRecord). on one && test one) row ≡ true → (passes on row ≡ true) × (passes test row ≡ true)
    apart None is = absurd cc
    apart (Some line) is = and_parts (on line.keyed) (test line.keyed) is

-- those that count show what all show
pub among_counted : (rows : RowsView) (places : List ℕ) → shown_among rows (filter (counts_at rows) places) ≡ shown_among rows places
among_counted rows [] = refl
among_counted rows (place ∷ places) = by_row (slice_get rows.lines place) refl (among_counted rows places)
  where
    by_row : (row : Option Line) → slice_get rows.lines place ≡ row → shown_among rows (filter (counts_at rows) places) ≡ shown_among rows places
        → shown_among rows (filter (counts_at rows) (place ∷ places)) ≡ shown_at rows place ++ shown_among rows places
    by_row None at rest =
        let gone : counts_at rows place ≡ false = ap (counts_in rows.cuts place) at in
        let none : shown_at rows place ≡ [] = ap (shown_in rows.cuts place) at in
        rw (gone, none) rest
    by_row (Some line) at rest = elim (cases_Bool (counts rows.cuts place line)) [
      | inl here ↦
          let yes : counts_at rows place ≡ true = ap (counts_in rows.cuts place) at ∙ here in
          rw yes (ap (λ l. shown_at rows place ++ l) rest)
      | inr out ↦
          let gone : counts_at rows place ≡ false = ap (counts_in rows.cuts place) at ∙ out in
          let none : shown_at rows place ≡ [] = ap (shown_in rows.cuts place) at ∙ rw out refl in
          rw (gone, none) rest
    ]

pub counted_again : (rows : RowsView) (places : List ℕ) → filter (counts_at rows) (filter (counts_at rows) places) ≡ filter (counts_at rows) places
counted_again rows places = filter_both (counts_at rows) (counts_at rows) (counts_at rows) places (λ place. both (counts_at rows place))
  where
    both : (b : Bool) → b ≡ (b && b)
    both true = refl
    both false = refl

-- ---- an interface that was never entered

pub shown_none : (interface : Interface) (rows : RowsView) → list_any (λ (line : Line). is_of interface.0 interface.1 line.keyed) rows.lines ≡ false → shown_on interface rows ≡ []
shown_none interface rows none = none_shown (is_on interface) rows.cuts 0 rows.lines none

pub no_places : (on test : KeyedRecord → Bool) (rows : RowsView) → list_any (λ (line : Line). on line.keyed) rows.lines ≡ false → ArePlacesOf (λ (one : KeyedRecord). on one && test one) rows []
no_places on test rows none = record {
  only = λ number place is. absurd cc;
  all = λ place is. absurd (no_row rows.lines place none (and_parts (counts_at rows place) (passes_at (λ (one : KeyedRecord). on one && test one) rows.lines place) is).1);
}
  where
    no_row : (lines : List Line) (n : ℕ) → list_any (λ (other : Line). on other.keyed) lines ≡ false → passes_at (λ (one : KeyedRecord). on one && test one) lines n ≡ true → ⊥
    no_row [] n fails is = let clash : false ≡ true = is in absurd cc
    no_row (first ∷ lines) zero fails is =
        let mine : on first.keyed ≡ true = (and_parts (on first.keyed) (test first.keyed) is).0 in
        let other : on first.keyed ≡ false = (or_parts (on first.keyed) (list_any (λ (other : Line). on other.keyed) lines) fails).0 in
        absurd cc
    no_row (first ∷ lines) (suc n) fails is = no_row lines n (or_parts (on first.keyed) (list_any (λ (other : Line). on other.keyed) lines) fails).1 is

-- Those of an interface's records that are BY_CHILD_CONTROLLER are among those that are not weak.
child_not_weak : (rec : Rec) → is_for_child rec ≡ true → is_weak rec ≡ false
child_not_weak rec is = ap (has_bit_of WEAK_BITS) (eqb-true rec.attr BY_CHILD_CONTROLLER is)

pub children_of : (interface : Interface) (records : List KeyedRecord)
    → filter is_for_child (map (λ (one : KeyedRecord). one.rec) (filter (is_other_record_on interface) records)) ≡ filter is_for_child (map (λ (one : KeyedRecord). one.rec) (filter (is_on interface) records))
children_of interface records =
    filter-map (λ (one : KeyedRecord). one.rec) is_for_child (filter (is_other_record_on interface) records)
    ∙ ap (map (λ (one : KeyedRecord). one.rec)) (filter_both (is_other_record_on interface) (λ (one : KeyedRecord). is_for_child one.rec) (λ (one : KeyedRecord). is_on interface one && is_for_child one.rec) records each
    ∙ sym (filter_both (is_on interface) (λ (one : KeyedRecord). is_for_child one.rec) (λ (one : KeyedRecord). is_on interface one && is_for_child one.rec) records (λ x. refl)))
    ∙ sym (filter-map (λ (one : KeyedRecord). one.rec) is_for_child (filter (is_on interface) records))
  where
    by_tests : (on child weak : Bool) → (child ≡ true → weak ≡ false) → (on && child) ≡ ((on && not weak) && child)
    by_tests true true true only = let clash : true ≡ false = only refl in absurd cc
    by_tests true true false only = refl
    by_tests true false true only = refl
    by_tests true false false only = refl
    by_tests false child weak only = refl

    each : (one : KeyedRecord) → (is_on interface one && is_for_child one.rec) ≡ (is_other_record_on interface one && is_for_child one.rec)
    each one = by_tests (is_on interface one) (is_for_child one.rec) (is_weak one.rec) (child_not_weak one.rec)

pub any_child_of : (interface : Interface) (records : List KeyedRecord)
    → list_any (λ (one : KeyedRecord). is_for_child one.rec) (filter (is_other_record_on interface) records) ≡ list_any (λ (one : KeyedRecord). is_for_child one.rec) (filter (is_on interface) records)
any_child_of interface [] = refl
any_child_of interface (one ∷ records) = by_tests (is_on interface one) (is_weak one.rec) (is_for_child one.rec) refl (child_not_weak one.rec) (any_child_of interface records)
  where
    child : KeyedRecord → Bool
    child x = is_for_child x.rec

    by_tests : (on weak passed : Bool) → is_for_child one.rec ≡ passed → (is_for_child one.rec ≡ true → weak ≡ false)
        → list_any child (filter (is_other_record_on interface) records) ≡ list_any child (filter (is_on interface) records)
        → list_any child (if on && not weak then one ∷ filter (is_other_record_on interface) records else filter (is_other_record_on interface) records) ≡ list_any child (if on then one ∷ filter (is_on interface) records else filter (is_on interface) records)
    by_tests true false passed is only rest = ap (λ (b : Bool). is_for_child one.rec || b) rest
    by_tests true true true is only rest = let clash : true ≡ false = only is in absurd cc
    by_tests true true false is only rest = rw is rest
    by_tests false weak passed is only rest = rest

-- no row has an opener whose agent, or whose controller, no row names
pub none_open : (handle : ℕ) (guid : List ℕ) (agent controller bits name : ℕ) → (nat_eq agent name || nat_eq controller name) ≡ true → (lines : List Line) → list_any (names_line name) lines ≡ false
    → list_any (λ (line : Line). is_open handle guid agent controller bits line.keyed) lines ≡ false
none_open handle guid agent controller bits name names lines none = none_weaker (names_line name) (λ (line : Line). is_open handle guid agent controller bits line.keyed) lines each none
  where
    each : (line : Line) → is_open handle guid agent controller bits line.keyed ≡ true → names_line name line ≡ true
    each line is =
        let rest = (and_parts (is_of handle guid line.keyed) (is_equal agent controller bits line.keyed.rec) is).1 in
        let front = (and_parts (nat_eq line.keyed.rec.agent agent && nat_eq line.keyed.rec.controller controller) (nat_eq line.keyed.rec.attr bits) rest).0 in
        let both = and_parts (nat_eq line.keyed.rec.agent agent) (nat_eq line.keyed.rec.controller controller) front in
        rw (eqb-true line.keyed.rec.agent agent both.0, eqb-true line.keyed.rec.controller controller both.1) names

pub none_open_on : (handle : ℕ) (guid : List ℕ) (agent controller bits : ℕ) (lines : List Line) → list_any (λ (line : Line). is_of handle guid line.keyed) lines ≡ false
    → list_any (λ (line : Line). is_open handle guid agent controller bits line.keyed) lines ≡ false
none_open_on handle guid agent controller bits lines none =
    none_weaker (λ (line : Line). is_of handle guid line.keyed) (λ (line : Line). is_open handle guid agent controller bits line.keyed) lines
    (λ line is. (and_parts (is_of handle guid line.keyed) (is_equal agent controller bits line.keyed.rec) is).0) none

pub none_strong_on : (handle : ℕ) (guid : List ℕ) (lines : List Line) → list_any (λ (line : Line). is_of handle guid line.keyed) lines ≡ false
    → list_any (λ (line : Line). is_of handle guid line.keyed && is_strong line.keyed.rec) lines ≡ false
none_strong_on handle guid lines none =
    none_weaker (λ (line : Line). is_of handle guid line.keyed) (λ (line : Line). is_of handle guid line.keyed && is_strong line.keyed.rec) lines
    (λ line is. (and_parts (is_of handle guid line.keyed) (is_strong line.keyed.rec) is).0) none

-- ---- a walk over all rows

split_at : (lines : List Line) (place : ℕ) → place < length lines → (line : Line) × (slice_get lines place ≡ Some line) × (drop place lines ≡ line ∷ drop (suc place) lines)
split_at [] place lt = absurd (omega (arith, lt))
split_at (line ∷ lines) zero lt = (line, refl, refl)
split_at (line ∷ lines) (suc place) lt = split_at lines place (omega (arith, lt))

pub shown_step : (rows : RowsView) (place : ℕ) → place < length rows.lines → shown_from place rows.cuts (drop place rows.lines) ≡ shown_at rows place ++ shown_from (place + 1) rows.cuts (drop (place + 1) rows.lines)
shown_step rows place lt =
    let at = split_at rows.lines place lt in
    let line = at.0 in
    let on : suc place ≡ place + 1 = omega arith in
    let later = shown_from (place + 1) rows.cuts (drop (place + 1) rows.lines) in
    let here : shown_at rows place ≡ shown_in rows.cuts place (Some line) = ap (shown_in rows.cuts place) at.1 in
    ap (shown_from place rows.cuts) (at.2 ∙ ap (λ (n : ℕ). line ∷ drop n rows.lines) on) ∙ by_test (counts rows.cuts place line) line.keyed later ∙ ap (λ first. first ++ later) (sym here)
  where
    by_test : (b : Bool) (one : KeyedRecord) (later : List KeyedRecord) → (if b then one ∷ later else later) ≡ (if b then one ∷ [] else []) ++ later
    by_test true one later = refl
    by_test false one later = refl

abbrev pub shown_one : Bool → ℕ
shown_one true = 1
shown_one false = 0

pub length_at : (rows : RowsView) (place : ℕ) → length (shown_at rows place) ≡ shown_one (counts_at rows place)
length_at rows place = by_row (slice_get rows.lines place)
  where
    by_test : (b : Bool) (one : KeyedRecord) → length (if b then one ∷ [] else []) ≡ shown_one b
    by_test true one = refl
    by_test false one = refl

    by_row : (row : Option Line) → length (shown_in rows.cuts place row) ≡ shown_one (counts_in rows.cuts place row)
    by_row None = refl
    by_row (Some line) = by_test (counts rows.cuts place line) line.keyed

pub any_at : (test : KeyedRecord → Bool) (rows : RowsView) (place : ℕ) → list_any test (shown_at rows place) ≡ (counts_at rows place && passes_at test rows.lines place)
any_at test rows place = by_row (slice_get rows.lines place)
  where
    by_test : (b passed : Bool) (one : KeyedRecord) → test one ≡ passed → list_any test (if b then one ∷ [] else []) ≡ (b && passed)
    by_test true true one is = rw is refl
    by_test true false one is = rw is refl
    by_test false passed one is = refl

    by_row : (row : Option Line) → list_any test (shown_in rows.cuts place row) ≡ (counts_in rows.cuts place row && passes test row)
    by_row None = refl
    by_row (Some line) = by_test (counts rows.cuts place line) (test line.keyed) line.keyed refl

pub any-append : {X : Type 0} (test : X → Bool) (xs ys : List X) → list_any test (xs ++ ys) ≡ (list_any test xs || list_any test ys)
any-append test [] ys = refl
any-append test (x ∷ xs) ys = by_test (test x) (any-append test xs ys)
  where
    by_test : (b : Bool) → list_any test (xs ++ ys) ≡ (list_any test xs || list_any test ys) → (b || list_any test (xs ++ ys)) ≡ ((b || list_any test xs) || list_any test ys)
    by_test true rest = refl
    by_test false rest = rest

pub any_step : (test : KeyedRecord → Bool) (rows : RowsView) (place : ℕ) → place < length rows.lines
    → list_any test (shown_from place rows.cuts (drop place rows.lines)) ≡ ((counts_at rows place && passes_at test rows.lines place) || list_any test (shown_from (place + 1) rows.cuts (drop (place + 1) rows.lines)))
any_step test rows place lt =
    let later = shown_from (place + 1) rows.cuts (drop (place + 1) rows.lines) in
    ap (list_any test) (shown_step rows place lt) ∙ any-append test (shown_at rows place) later ∙ ap (λ (b : Bool). b || list_any test later) (any_at test rows place)

-- ---- rows that are closed one after another

abbrev closed_so_far : (KeyedRecord → Bool) → ℕ → List Line → List Line
closed_so_far test place lines = closed_where test (take place lines) ++ drop place lines

pub close_step : (test : KeyedRecord → Bool) (place : ℕ) (lines : List Line) → passes_at test (closed_so_far test place lines) place ≡ true
    → closed_at place true (closed_so_far test place lines) ≡ closed_so_far test (suc place) lines
close_step test zero [] is = absurd cc
close_step test zero (line ∷ lines) is = rw is refl
close_step test (suc place) [] is = absurd cc
close_step test (suc place) (line ∷ lines) is = ap (λ l. (if test line.keyed then record line { closed = true } else line) ∷ l) (close_step test place lines is)

pub pass_step : (test : KeyedRecord → Bool) (place : ℕ) (lines : List Line) → passes_at test (closed_so_far test place lines) place ≡ false → closed_so_far test place lines ≡ closed_so_far test (suc place) lines
pass_step test zero [] is = refl
pass_step test zero (line ∷ lines) is = rw is refl
pass_step test (suc place) [] is = refl
pass_step test (suc place) (line ∷ lines) is = ap (λ l. (if test line.keyed then record line { closed = true } else line) ∷ l) (pass_step test place lines is)

-- ---- all weak records of an interface are cut

module _ (rows : RowsView) (interface : Interface) (cut : nat_le (length rows.lines) (rows.cuts.weak interface) ≡ true) where
  -- a row of the interface that counts is not weak
  cut_is_other : (place : ℕ) (line : Line) → place < length rows.lines → counts rows.cuts place line ≡ true → is_on interface line.keyed ≡ true → is_weak line.keyed.rec ≡ false
  cut_is_other place line within here on = by_class (is_weak line.keyed.rec) refl
    where
      by_class : (b : Bool) → is_weak line.keyed.rec ≡ b → b ≡ false
      by_class false is = refl
      by_class true is =
          let same : interface_of line.keyed ≡ interface = exact_class (interface_of line.keyed) interface on in
          let late : nat_le (rows.cuts.weak (interface_of line.keyed)) place ≡ true = last_test is here in
          let later : nat_le (rows.cuts.weak interface) place ≡ true = ap (λ (i : Interface). nat_le (rows.cuts.weak i) place) (sym same) ∙ late in
          absurd (grind (arith, nat_tests, cut, later, within))
        where
          last_test : is_weak line.keyed.rec ≡ true → counts rows.cuts place line ≡ true → nat_le (rows.cuts.weak (interface_of line.keyed)) place ≡ true
          last_test is here =
              let one = and_parts (not line.closed && nat_le (rows.cuts.name line.keyed.rec.agent) place && nat_le (rows.cuts.name line.keyed.rec.controller) place) (nat_le (class_cut rows.cuts line.keyed) place) here in
              rw is at one.1

  each_other : (place : ℕ) (lines : List Line) → place + length lines ≤ length rows.lines → filter (is_on interface) (shown_from place rows.cuts lines) ≡ filter (is_other_record_on interface) (shown_from place rows.cuts lines)
  each_other place [] le = refl
  each_other place (line ∷ lines) le =
      let rest = each_other (place + 1) lines (omega (arith, le)) in
      elim (cases_Bool (counts rows.cuts place line)) [
        | inl here ↦ elim (cases_Bool (is_on interface line.keyed)) [
          | inl on ↦
              let other = cut_is_other place line (omega (arith, le)) here on in
              rw (here, on, other) (ap (λ l. line.keyed ∷ l) rest)
          | inr off ↦ rw (here, off) rest
        ]
        | inr gone ↦ rw gone rest
      ]

  pub all_other : filter (is_on interface) (shown rows) ≡ filter (is_other_record_on interface) (shown rows)
  all_other = each_other 0 rows.lines (omega arith)

  other_at : (place : ℕ) → (counts_at rows place && passes_at (is_on interface) rows.lines place) ≡ (counts_at rows place && passes_at (is_other_record_on interface) rows.lines place)
  other_at place = by_row (slice_get rows.lines place) refl
    where
      by_row : (row : Option Line) → slice_get rows.lines place ≡ row → (counts_in rows.cuts place row && passes (is_on interface) row) ≡ (counts_in rows.cuts place row && passes (is_other_record_on interface) row)
      by_row None at = refl
      by_row (Some line) at = elim (cases_Bool (counts rows.cuts place line)) [
        | inl here ↦ elim (cases_Bool (is_on interface line.keyed)) [
          | inl on ↦
              let other = cut_is_other place line (slice_get_within rows.lines place line at) here on in
              rw (here, on, other) refl
          | inr off ↦ rw (here, off) refl
        ]
        | inr gone ↦ rw gone refl
      ]

  pub other_places : (places : List ℕ) → ArePlacesOf (is_other_record_on interface) rows places → ArePlacesOf (is_on interface) rows places
  other_places places are = record {
    only = λ number place is. other_at place ∙ are.only number place is;
    all = λ place is. are.all place (sym (other_at place) ∙ is);
  }
