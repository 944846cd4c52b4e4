-- The last row whose record passes a test, and the rows that count.
use Rattle.std.proofs.Common.{◌≡◌, ◌<◌, ◌+◌, ℕ, zero, suc, Bool, true, false, ◌&&◌, ◌||◌, nat_eq, List, [], ◌∷◌, filter, map, Option, Some, None, refl, sym, ap, ◌∙◌, inl, inr, ◌⊎◌, arith, if◌then◌else◌}
use Rattle.std.specs.Prelude.{find, option_map, slice_get}
use Rattle.std.specs.List.{list_any}
use Rattle.std.specs.Option.{option_to_list}
use Rattle.std.proofs.lemmas.Bool.{and_parts, cases_Bool, eqb-true, or_from}
use Rattle.std.proofs.lemmas.Bool.Decides.{nat_tests}
use Rattle.fw_types.specs.Attr.{has_bit_of}
use Rattle.fw_types.specs.declared.attr.TheConstants.Attr.{HOLDING_BITS}
use Rattle.open_records.specs.Records.{is_equal, is_strong}
use Rattle.open_records.specs.declared.open_record.Rec.{Rec}
use Rattle.open_records.specs.Changing.{is_open}
use Rattle.open_records.specs.Keyed.{is_of, records_of}
use Rattle.open_records.specs.declared.open_record.KeyedRecord.{KeyedRecord}
use Rattle.open_records.proofs.ListLemmas.{filter-map, filter_both, filter_none}
use Rattle.open_records.proofs.Order.{same_from_of}
use Rattle.record_rows.specs.Asking.{counts_at, last_from, last_line}
use Rattle.record_rows.specs.Rows.{Cuts, Line, RowsView, counts, entries_of, shown, shown_from}
use Rattle.record_log.specs.SoundRows.{AreChosen, Excludes, OlderAreOut, if_counts, is_among, is_chosen, last_counting}
use Rattle.record_rows.proofs.InOrder.{records_in_order}
use Rattle.record_log.proofs.SoundLemmas.{has_shown}

-- ---- the last row

-- the row at a place passes a test, and no later one does
pub record IsLast (test : KeyedRecord → Bool) (lines : List Line) (place : ℕ) : Type 0 where
  pub line : Line
  pub there : slice_get lines place ≡ Some line
  pub passes : test line.keyed ≡ true
  pub later : (n : ℕ) (other : Line) → place < n → slice_get lines n ≡ Some other → test other.keyed ≡ false

abbrev pub NonePasses : (KeyedRecord → Bool) → List Line → Type 0
NonePasses test lines = (n : ℕ) (line : Line) → slice_get lines n ≡ Some line → test line.keyed ≡ false

-- the last row that passes a test, if any does
abbrev pub LastOrNone : (KeyedRecord → Bool) → List Line → Option ℕ → Type 0
LastOrNone test lines None = NonePasses test lines
LastOrNone test lines (Some place) = IsLast test lines place

abbrev LastFrom : (first : ℕ) → Option ℕ → (KeyedRecord → Bool) → List Line → Option ℕ → Type 0
LastFrom first found test lines result = ((result ≡ found) × NonePasses test lines) ⊎ ((n : ℕ) × (result ≡ Some (first + n)) × IsLast test lines n)

none_more : (test : KeyedRecord → Bool) (line : Line) (lines : List Line) → test line.keyed ≡ false → NonePasses test lines → NonePasses test (line ∷ lines)
none_more test line lines fails none zero other here = let same : line ≡ other = cc in ap (λ (l : Line). test l.keyed) (sym same) ∙ fails
none_more test line lines fails none (suc n) other here = none n other here

last_here : (test : KeyedRecord → Bool) (line : Line) (lines : List Line) → test line.keyed ≡ true → NonePasses test lines → IsLast test (line ∷ lines) zero
last_here test line lines passes none = record {
  line = line;
  there = refl;
  passes = passes;
  later = after;
}
  where
    after : (n : ℕ) (other : Line) → zero < n → slice_get (line ∷ lines) n ≡ Some other → test other.keyed ≡ false
    after zero other lt here = absurd (omega arith)
    after (suc n) other lt here = none n other here

last_later : (test : KeyedRecord → Bool) (line : Line) (lines : List Line) (n : ℕ) → IsLast test lines n → IsLast test (line ∷ lines) (suc n)
last_later test line lines n last = record {
  line = last.line;
  there = last.there;
  passes = last.passes;
  later = after;
}
  where
    after : (m : ℕ) (other : Line) → suc n < m → slice_get (line ∷ lines) m ≡ Some other → test other.keyed ≡ false
    after zero other lt here = absurd (omega arith)
    after (suc m) other lt here = last.later m other (omega (arith, lt)) here

last_from_is : (first : ℕ) (found : Option ℕ) (test : KeyedRecord → Bool) (lines : List Line) → LastFrom first found test lines (last_from first found test lines)
last_from_is first found test [] = inl (refl, λ n line here. absurd cc)
last_from_is first found test (line ∷ lines) = elim (last_from_is (first + 1) (if test line.keyed then Some first else found) test lines) [
  | inl none ↦ elim (cases_Bool (test line.keyed)) [
    | inl passes ↦
        let at : first ≡ first + 0 = omega arith in
        let is : (if test line.keyed then Some first else found) ≡ Some (first + 0) = rw passes (ap Some at) in
        inr (zero, none.0 ∙ is, last_here test line lines passes none.1)
    | inr fails ↦
        let is : (if test line.keyed then Some first else found) ≡ found = rw fails refl in
        inl (none.0 ∙ is, none_more test line lines fails none.1)
  ]
  | inr some ↦
      let at : (first + 1) + some.0 ≡ first + suc some.0 = omega arith in
      inr (suc some.0, some.1 ∙ ap Some at, last_later test line lines some.0 some.2)
]

pub last_line_is : (test : KeyedRecord → Bool) (lines : List Line) → LastOrNone test lines (last_line test lines)
last_line_is test lines = by_either (last_line test lines) (last_from_is 0 None test lines)
  where
    by_either : (result : Option ℕ) → LastFrom 0 None test lines result → LastOrNone test lines result
    by_either None (inl none) = none.1
    by_either None (inr some) = absurd (clash_none some.0 some.1)
      where
        clash_none : (n : ℕ) → None ≡ Some (0 + n) → ⊥
        clash_none n is = cc
    by_either (Some place) (inl none) = absurd (clash_some none.0)
      where
        clash_some : Some place ≡ None → ⊥
        clash_some is = cc
    by_either (Some place) (inr some) =
        let same : place ≡ 0 + some.0 = one_some place (0 + some.0) some.1 in
        let at : some.0 ≡ place = omega (arith, same) in
        subst_last some.0 place at some.2
      where
        one_some : (a b : ℕ) → Some a ≡ Some b → a ≡ b
        one_some a b is = cc

        subst_last : (a b : ℕ) → a ≡ b → IsLast test lines a → IsLast test lines b
        subst_last a b is last = rw (← is) last

-- ---- one chosen row

pub record IsRow (test : KeyedRecord → Bool) (rows : RowsView) (place : ℕ) : Type 0 where
  pub line : Line
  pub there : slice_get rows.lines place ≡ Some line
  pub counted : counts rows.cuts place line ≡ true
  pub passes : test line.keyed ≡ true

pub chosen_by : (test : KeyedRecord → Bool) (rows : RowsView) (place : ℕ) (line : Line) → slice_get rows.lines place ≡ Some line → is_chosen test rows place ≡ (counts rows.cuts place line && test line.keyed)
chosen_by test rows place line there = rw there refl

pub chosen_row : (test : KeyedRecord → Bool) (rows : RowsView) (place : ℕ) → is_chosen test rows place ≡ true → IsRow test rows place
chosen_row test rows place is = by_option (slice_get rows.lines place) refl
  where
    by_option : (o : Option Line) → slice_get rows.lines place ≡ o → IsRow test rows place
    by_option None there =
        let none : false ≡ true = rw there at is in
        absurd cc
    by_option (Some line) there =
        let both : (counts rows.cuts place line && test line.keyed) ≡ true = sym (chosen_by test rows place line there) ∙ is in
        let parts = and_parts (counts rows.cuts place line) (test line.keyed) both in
        record { line = line; there = there; counted = parts.0; passes = parts.1 }

pub not_chosen : (test : KeyedRecord → Bool) (rows : RowsView) (place : ℕ) → (IsRow test rows place → ⊥) → is_chosen test rows place ≡ false
not_chosen test rows place none = by_test (is_chosen test rows place) refl
  where
    by_test : (b : Bool) → is_chosen test rows place ≡ b → b ≡ false
    by_test false is = refl
    by_test true is = absurd (none (chosen_row test rows place is))

-- ---- tests that exclude each other

itself : (n : ℕ) → nat_eq n n ≡ true
itself n = grind (arith, nat_tests)

module _ (test : KeyedRecord → Bool) (rows : RowsView) (excludes : Excludes test) (older : OlderAreOut rows) where
  -- so none but the last can count
  not_other : (place n : ℕ) → IsLast test rows.lines place → nat_eq place n ≡ false → is_chosen test rows n ≡ false
  not_other place n last differs = not_chosen test rows n (λ row. apart row (before place n differs))
    where
      before : (a b : ℕ) → nat_eq a b ≡ false → (b < a) ⊎ (a < b)
      before a b is = by_lt (omega_lt a b is)
        where
          omega_lt : (x y : ℕ) → nat_eq x y ≡ false → (x ≡ y → ⊥)
          omega_lt x y differs same = let is : nat_eq x y ≡ true = ap (λ z. nat_eq z y) same ∙ itself y in let clash : true ≡ false = sym is ∙ differs in cc

          by_lt : (a ≡ b → ⊥) → (b < a) ⊎ (a < b)
          by_lt apart = grind (arith, apart)

      apart : IsRow test rows n → ((n < place) ⊎ (place < n)) → ⊥
      apart row (inl lt) =
          let out = older n place row.line last.line row.there last.there lt (excludes row.line.keyed last.line.keyed row.passes last.passes) in
          let clash : true ≡ false = sym row.counted ∙ out in
          cc
      apart row (inr lt) =
          let out = last.later n row.line lt row.there in
          let clash : true ≡ false = sym row.passes ∙ out in
          cc

  for_last : (result : Option ℕ) → LastOrNone test rows.lines result → (n : ℕ) → is_among (option_to_list (if_counts rows result)) n ≡ is_chosen test rows n
  for_last None none n = sym (not_chosen test rows n (λ row. out row))
    where
      out : IsRow test rows n → ⊥
      out row = let clash : true ≡ false = sym row.passes ∙ none n row.line row.there in cc
  for_last (Some place) last n = elim (cases_Bool (nat_eq place n)) [
    | inl same ↦
        let here : place ≡ n = eqb-true place n same in
        rw (← here) (at_last (counts_at rows place) refl)
    | inr differs ↦ not_among (counts_at rows place) differs ∙ sym (not_other place n last differs)
  ]
    where
      at_last : (b : Bool) → counts_at rows place ≡ b → is_among (option_to_list (if b then Some place else None)) place ≡ is_chosen test rows place
      at_last true is =
          let counted : counts rows.cuts place last.line ≡ true = rw last.there at is in
          let chosen : is_chosen test rows place ≡ true = chosen_by test rows place last.line last.there ∙ rw (counted, last.passes) refl in
          rw (itself place) (sym chosen)
      at_last false is =
          let gone : counts rows.cuts place last.line ≡ false = rw last.there at is in
          sym (chosen_by test rows place last.line last.there ∙ rw gone refl)

      not_among : (b : Bool) → nat_eq place n ≡ false → is_among (option_to_list (if b then Some place else None)) n ≡ false
      not_among true differs = rw differs refl
      not_among false differs = refl

  -- the last that passes, if it counts, is the one that is chosen
  pub last_is_chosen : AreChosen test rows (option_to_list (last_counting test rows))
  last_is_chosen n = for_last (last_line test rows.lines) (last_line_is test rows.lines) n

-- ---- the tests of openers and of BY_DRIVER and EXCLUSIVE

pub open_excludes : (handle : ℕ) (guid : List ℕ) (agent controller attr : ℕ) → Excludes (is_open handle guid agent controller attr)
open_excludes handle guid agent controller attr one other first second =
    let a = and_parts (is_of handle guid one) (is_equal agent controller attr one.rec) first in
    let b = and_parts (is_of handle guid other) (is_equal agent controller attr other.rec) second in
    let same = same_from_of handle guid one a.0 in
    let a1 = and_parts (nat_eq one.rec.agent agent && nat_eq one.rec.controller controller) (nat_eq one.rec.attr attr) a.1 in
    let a2 = and_parts (nat_eq one.rec.agent agent) (nat_eq one.rec.controller controller) a1.0 in
    rw (same.same_handle, same.same_guid, eqb-true one.rec.agent agent a2.0, eqb-true one.rec.controller controller a2.1, eqb-true one.rec.attr attr a1.1, b.0, b.1) (last (has_bit_of HOLDING_BITS attr && is_strong other.rec))
  where
    last : (x : Bool) → (x || true) ≡ true
    last true = refl
    last false = refl

abbrev pub is_strong_on : ℕ → List ℕ → KeyedRecord → Bool
is_strong_on handle guid one = is_of handle guid one && is_strong one.rec

pub strong_excludes : (handle : ℕ) (guid : List ℕ) → Excludes (is_strong_on handle guid)
strong_excludes handle guid one other first second =
    let a = and_parts (is_of handle guid one) (is_strong one.rec) first in
    let b = and_parts (is_of handle guid other) (is_strong other.rec) second in
    let same = same_from_of handle guid one a.0 in
    rw (same.same_handle, same.same_guid, b.0, a.1, b.1) refl

-- ---- what is shown of those that pass

-- a filter of a filter has one that passes
pub any_filter_and : {X : Type 0} (p q : X → Bool) (xs : List X) → list_any q (filter p xs) ≡ list_any (λ (x : X). p x && q x) xs
any_filter_and p q [] = refl
any_filter_and p q (x ∷ xs) = elim (cases_Bool (p x)) [
  | inl passes ↦ rw passes (ap (λ b. q x || b) (any_filter_and p q xs))
  | inr fails ↦ rw fails (any_filter_and p q xs)
]

any_mapped : (q : Rec → Bool) (xs : List KeyedRecord) → list_any q (map (λ (one : KeyedRecord). one.rec) xs) ≡ list_any (λ (one : KeyedRecord). q one.rec) xs
any_mapped q [] = refl
any_mapped q (x ∷ xs) = ap (λ b. q x.rec || b) (any_mapped q xs)

-- whether some record of an interface passes a test, by what is shown
pub any_on : (rows : RowsView) (handle : ℕ) (guid : List ℕ) (q : Rec → Bool) → list_any q (records_of (entries_of rows) handle guid) ≡ list_any (λ (one : KeyedRecord). is_of handle guid one && q one.rec) (shown rows)
any_on rows handle guid q =
    ap (list_any q) (records_in_order (shown rows) handle guid) ∙ any_mapped q (filter (is_of handle guid) (shown rows)) ∙ any_filter_and (is_of handle guid) (λ (one : KeyedRecord). q one.rec) (shown rows)

pub none_from : (cuts : Cuts) (test : KeyedRecord → Bool) (first : ℕ) (lines : List Line) → ((n place : ℕ) (line : Line) → place ≡ first + n → slice_get lines n ≡ Some line → (counts cuts place line && test line.keyed) ≡ false)
    → list_any test (shown_from first cuts lines) ≡ false
none_from cuts test first [] each = refl
none_from cuts test first (line ∷ lines) each =
    let rest = none_from cuts test (first + 1) lines (λ n place other at there. each (suc n) place other (omega (arith, at)) there) in
    let here = each zero first line (omega arith) refl in
    elim (cases_Bool (counts cuts first line)) [
      | inl counted ↦ let fails : test line.keyed ≡ false = rw counted at here in rw counted (or_from (test line.keyed) (list_any test (shown_from (first + 1) cuts lines)) fails rest)
      | inr gone ↦ rw gone rest
    ]

-- if no row is chosen, none of what is shown passes
pub none_shown : (test : KeyedRecord → Bool) (rows : RowsView) → ((n : ℕ) → is_chosen test rows n ≡ false) → list_any test (shown rows) ≡ false
none_shown test rows none = none_from rows.cuts test 0 rows.lines (λ n place line at there. by_place n place line at there)
  where
    by_place : (n place : ℕ) (line : Line) → place ≡ 0 + n → slice_get rows.lines n ≡ Some line → (counts rows.cuts place line && test line.keyed) ≡ false
    by_place n place line at there =
        let same : place ≡ n = omega (arith, at) in
        ap (λ m. counts rows.cuts m line && test line.keyed) same ∙ sym (chosen_by test rows n line there) ∙ none n

pub some_shown : (test : KeyedRecord → Bool) (rows : RowsView) (place : ℕ) → is_chosen test rows place ≡ true → list_any test (shown rows) ≡ true
some_shown test rows place is =
    let row = chosen_row test rows place is in
    has_shown rows test place row.line row.there row.counted row.passes

-- ---- the one that is chosen

-- no chosen row but one
abbrev IsAlone : Cuts → (KeyedRecord → Bool) → (first : ℕ) → (n : ℕ) → List Line → Type 0
IsAlone cuts test first n lines = (m place : ℕ) (other : Line) → place ≡ first + m → slice_get lines m ≡ Some other → (counts cuts place other && test other.keyed) ≡ true → m ≡ n

false_by : (b : Bool) → (b ≡ true → ⊥) → b ≡ false
false_by false never = refl
false_by true never = absurd (never refl)

filter_one : (cuts : Cuts) (test : KeyedRecord → Bool) (first n place : ℕ) (line : Line) (lines : List Line) → place ≡ first + n → slice_get lines n ≡ Some line → counts cuts place line ≡ true → test line.keyed ≡ true → IsAlone cuts test first n lines
    → filter test (shown_from first cuts lines) ≡ line.keyed ∷ []
filter_one cuts test first n place line [] at there counted passes alone = absurd cc
filter_one cuts test first zero place line (one ∷ lines) at there counted passes alone =
    let same : one ≡ line = cc in
    let now : place ≡ first = omega (arith, at) in
    let goes : counts cuts first one ≡ true = ap (λ (l : Line). counts cuts first l) same ∙ ap (λ (m : ℕ). counts cuts m line) (sym now) ∙ counted in
    let is : test one.keyed ≡ true = ap (λ (l : Line). test l.keyed) same ∙ passes in
    let none = none_from cuts test (first + 1) lines (λ m other_place other other_at here. false_by (counts cuts other_place other && test other.keyed) (λ both. never m (alone (suc m) other_place other (omega (arith, other_at)) here both))) in
    rw (goes, is, filter_none test (shown_from (first + 1) cuts lines) none) (ap (λ (l : Line). l.keyed ∷ []) same)
  where
    never : (m : ℕ) → suc m ≡ zero → ⊥
    never m is = omega (arith, is)
filter_one cuts test first (suc n) place line (one ∷ lines) at there counted passes alone =
    let rest = filter_one cuts test (first + 1) n place line lines (omega (arith, at)) there counted passes (λ m other_place other other_at here both. one_less m n (alone (suc m) other_place other (omega (arith, other_at)) here both)) in
    let out = false_by (counts cuts first one && test one.keyed) (λ both. never n (alone zero first one (omega arith) refl both)) in
    elim (cases_Bool (counts cuts first one)) [
      | inl goes ↦ let fails : test one.keyed ≡ false = rw goes at out in rw (goes, fails) rest
      | inr gone ↦ rw gone rest
    ]
  where
    never : (m : ℕ) → zero ≡ suc m → ⊥
    never m is = omega (arith, is)

    one_less : (a b : ℕ) → suc a ≡ suc b → a ≡ b
    one_less a b is = omega (arith, is)

-- the record in the row at a place, if a place is given
abbrev pub rec_at : RowsView → Option ℕ → Option Rec
rec_at rows None = None
rec_at rows (Some place) = option_map (λ (line : Line). line.keyed.rec) (slice_get rows.lines place)

mapped_filter : (rows : RowsView) (handle : ℕ) (guid : List ℕ) (q : Rec → Bool) → filter q (records_of (entries_of rows) handle guid) ≡ map (λ (one : KeyedRecord). one.rec) (filter (λ (one : KeyedRecord). is_of handle guid one && q one.rec) (shown rows))
mapped_filter rows handle guid q =
    ap (filter q) (records_in_order (shown rows) handle guid) ∙ filter-map (λ (one : KeyedRecord). one.rec) q (filter (is_of handle guid) (shown rows))
    ∙ ap (map (λ (one : KeyedRecord). one.rec)) (filter_both (is_of handle guid) (λ (one : KeyedRecord). q one.rec) (λ (one : KeyedRecord). is_of handle guid one && q one.rec) (shown rows) (λ one. refl))

find_by_filter : (q : Rec → Bool) (xs : List Rec) (o : Option Rec) → filter q xs ≡ option_to_list o → find q xs ≡ o
find_by_filter q [] None is = refl
find_by_filter q [] (Some rec) is = absurd cc
find_by_filter q (x ∷ xs) o is = elim (cases_Bool (q x)) [
  | inl passes ↦ rw passes (first o (rw passes at is))
  | inr fails ↦ rw fails (find_by_filter q xs o (rw fails at is))
]
  where
    first : (o : Option Rec) → x ∷ filter q xs ≡ option_to_list o → Some x ≡ o
    first None none = absurd cc
    first (Some rec) some = let same : x ≡ rec = cc in ap Some same

among_one : (place n : ℕ) → is_among (place ∷ []) n ≡ true → n ≡ place
among_one place n is = elim (cases_Bool (nat_eq place n)) [
  | inl same ↦ sym (eqb-true place n same)
  | inr differs ↦ let clash : false ≡ true = rw differs at is in absurd cc
]

at_row : (rows : RowsView) (place : ℕ) (line : Line) → slice_get rows.lines place ≡ Some line → line.keyed.rec ∷ [] ≡ option_to_list (rec_at rows (Some place))
at_row rows place line there = rw there refl

-- the record of an interface that passes a test, if just one row is chosen by it
pub find_chosen : (rows : RowsView) (handle : ℕ) (guid : List ℕ) (q : Rec → Bool) (chosen : Option ℕ) → AreChosen (λ (one : KeyedRecord). is_of handle guid one && q one.rec) rows (option_to_list chosen)
    → find q (records_of (entries_of rows) handle guid) ≡ rec_at rows chosen
find_chosen rows handle guid q None are =
    let test : KeyedRecord → Bool = λ one. is_of handle guid one && q one.rec in
    let none : filter test (shown rows) ≡ [] = filter_none test (shown rows) (none_shown test rows (λ n. sym (are n))) in
    find_by_filter q (records_of (entries_of rows) handle guid) None (mapped_filter rows handle guid q ∙ ap (map (λ (one : KeyedRecord). one.rec)) none)
find_chosen rows handle guid q (Some place) are =
    let test : KeyedRecord → Bool = λ one. is_of handle guid one && q one.rec in
    let among : is_among (place ∷ []) place ≡ true = rw (itself place) refl in
    let chosen : is_chosen test rows place ≡ true = sym (are place) ∙ among in
    let row = chosen_row test rows place chosen in
    let one : filter test (shown rows) ≡ row.line.keyed ∷ [] =
    filter_one rows.cuts test 0 place place row.line rows.lines (omega arith) row.there row.counted row.passes
    (λ m other_place other at here both. among_one place m (are m ∙ chosen_by test rows m other here ∙ same_place m other_place other at both)) in
    find_by_filter q (records_of (entries_of rows) handle guid) (rec_at rows (Some place)) (mapped_filter rows handle guid q ∙ ap (map (λ (o : KeyedRecord). o.rec)) one ∙ at_row rows place row.line row.there)
  where
    same_place : (m other_place : ℕ) (other : Line) → other_place ≡ 0 + m → (counts rows.cuts other_place other && (is_of handle guid other.keyed && q other.keyed.rec)) ≡ true → (counts rows.cuts m other && (is_of handle guid other.keyed && q other.keyed.rec)) ≡ true
    same_place m other_place other at both =
        let same : m ≡ other_place = omega (arith, at) in
        ap (λ k. counts rows.cuts k other && (is_of handle guid other.keyed && q other.keyed.rec)) same ∙ both

-- so it is in the last row of its kind, if that row counts
pub find_last : (rows : RowsView) (handle : ℕ) (guid : List ℕ) (q : Rec → Bool) → Excludes (λ (one : KeyedRecord). is_of handle guid one && q one.rec) → OlderAreOut rows
    → find q (records_of (entries_of rows) handle guid) ≡ rec_at rows (last_counting (λ (one : KeyedRecord). is_of handle guid one && q one.rec) rows)
find_last rows handle guid q excludes older =
    let test : KeyedRecord → Bool = λ one. is_of handle guid one && q one.rec in
    find_chosen rows handle guid q (last_counting test rows) (last_is_chosen test rows excludes older)
