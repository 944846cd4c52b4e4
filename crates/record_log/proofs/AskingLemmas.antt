-- What is asked of the records of an interface.
use Rattle.std.proofs.Common.{◌≡◌, ◌<◌, ◌≤◌, ◌+◌, ℕ, zero, suc, Bool, true, false, not, ◌&&◌, ◌||◌, nat_eq, List, [], ◌∷◌, find, get_or, length, drop, add-one, Option, Some, None, refl, sym, ap, subst, ◌∙◌, inl, inr, arith}
use Rattle.std.specs.Prelude.{is_some, slice_get}
use Rattle.std.specs.Int.RustNames.{bit_and}
use Rattle.std.specs.List.{list_all, list_any}
use Rattle.std.specs.Option.{option_to_list}
use Rattle.std.proofs.lemmas.Bool.{and_from, and_parts, cases_Bool, eq-eqb, eqb-true, not-false}
use Rattle.std.proofs.Math.Seq.{drop-cons}
use Rattle.std.proofs.lemmas.List.{drop_all}
use Rattle.std.proofs.lemmas.Nat.{and_assoc}
use Rattle.fw_types.specs.Attr.{has_bit_of, is_legal, legal_attributes}
use Rattle.fw_types.specs.declared.attr.TheConstants.Attr.{AGENT_BITS, BY_CHILD_CONTROLLER, BY_DRIVER, EXCLUSIVE, HOLDING_BITS}
use Rattle.open_records.specs.Records.{fits, is_asked, is_equal, is_for_child, is_meant, is_strong}
use Rattle.open_records.specs.declared.open_record.Meant.{Meant}
use Rattle.open_records.specs.declared.open_record.Rec.{Rec}
use Rattle.open_records.specs.OpenRecords.{is_kept}
use Rattle.open_records.specs.Verdicts.{against, judge}
use Rattle.open_records.proofs.LawProofs.{one_strong}
use Rattle.open_records.proofs.ManagingLemmas.{any_is}
use Rattle.open_records.specs.Changing.{is_open}
use Rattle.open_records.specs.Keyed.{is_of, records_of}
use Rattle.open_records.specs.declared.open_record.KeyedRecord.{KeyedRecord}
use Rattle.record_rows.specs.Asking.{passes_at, shown_on}
use Rattle.record_rows.specs.Rows.{Cuts, Line, RowsView, counts, entries_of, shown, shown_from}
use Rattle.record_log.specs.SoundRows.{AreChosen, AreSound, is_among, is_holding, last_counting}
use Rattle.record_log.proofs.ChosenLemmas.{any_stronger, last_open, legal_all, row_passes, same_by_ways, some_of_any}
use Rattle.record_log.proofs.LastCounting.{IsRow, any_filter_and, any_on, chosen_row, some_shown}
use Rattle.record_log.proofs.SoundLemmas.{all_shown, shown_kept}

-- ---- what is found first

pub found_any : (p : Rec → Bool) (xs : List Rec) → is_some (find p xs) ≡ list_any p xs
found_any p [] = refl
found_any p (x ∷ xs) = elim (cases_Bool (p x)) [
  | inl passes ↦ rw passes refl
  | inr fails ↦ rw fails (found_any p xs)
]

find_found : (p : Rec → Bool) (xs : List Rec) → find p (option_to_list (find p xs)) ≡ find p xs
find_found p [] = refl
find_found p (x ∷ xs) = elim (cases_Bool (p x)) [
  | inl passes ↦ rw passes (rw passes refl)
  | inr fails ↦ rw fails (find_found p xs)
]

any_found : (p : Rec → Bool) (xs : List Rec) → list_any p (option_to_list (find p xs)) ≡ list_any p xs
any_found p xs = sym (found_any p (option_to_list (find p xs))) ∙ ap is_some (find_found p xs) ∙ found_any p xs

-- a verdict by the one record that it depends on
pub judged_strong : (records : List Rec) (agent controller attr : ℕ) → has_bit_of HOLDING_BITS attr ≡ true → judge (option_to_list (find is_strong records)) agent controller attr ≡ judge records agent controller attr
judged_strong records agent controller attr strong = rw strong (ap (λ (o : Option Rec). against o agent attr) (find_found is_strong records))

pub judged_weak : (records : List Rec) (agent controller attr : ℕ) → has_bit_of HOLDING_BITS attr ≡ false → judge (option_to_list (find (is_equal agent controller attr) records)) agent controller attr ≡ judge records agent controller attr
judged_weak records agent controller attr weak = rw (weak, any_found (is_equal agent controller attr) records) refl

-- ---- BY_DRIVER and EXCLUSIVE

holding_bits : (bits : ℕ) → is_holding bits ≡ true → bit_and HOLDING_BITS bits ≡ bits
holding_bits bits is = elim (cases_Bool (nat_eq bits HOLDING_BITS)) [
  | inl both ↦ by_bits HOLDING_BITS (eqb-true bits HOLDING_BITS both) refl
  | inr not_both ↦ elim (cases_Bool (nat_eq bits BY_DRIVER)) [
    | inl driver ↦ by_bits BY_DRIVER (eqb-true bits BY_DRIVER driver) refl
    | inr no_driver ↦
        let last : nat_eq bits EXCLUSIVE ≡ true = rw (not_both, no_driver) at is in
        by_bits EXCLUSIVE (eqb-true bits EXCLUSIVE last) refl
  ]
]
  where
    by_bits : (these : ℕ) → bits ≡ these → bit_and HOLDING_BITS these ≡ these → bit_and HOLDING_BITS bits ≡ bits
    by_bits these same are = subst (λ (n : ℕ). bit_and HOLDING_BITS n ≡ n) (sym same) are

-- a record without them has no bit of theirs
weak_bits_none : (bits : ℕ) → is_holding bits ≡ true → (rec : Rec) → is_strong rec ≡ false → has_bit_of bits rec.attr ≡ false
weak_bits_none bits holding rec weak =
    let none : bit_and rec.attr HOLDING_BITS ≡ 0 = eqb-true (bit_and rec.attr HOLDING_BITS) 0 (not-false (nat_eq (bit_and rec.attr HOLDING_BITS) 0) weak) in
    let both : bit_and rec.attr (bit_and HOLDING_BITS bits) ≡ 0 = sym (and_assoc bits rec.attr HOLDING_BITS) ∙ ap (λ (n : ℕ). bit_and n bits) none ∙ zero_and bits in
    let these : bit_and rec.attr bits ≡ 0 = ap (bit_and rec.attr) (sym (holding_bits bits holding)) ∙ both in
    ap not (eq-eqb (bit_and rec.attr bits) 0 these)
  where
    zero_and : (n : ℕ) → bit_and 0 n ≡ 0
    zero_and n = refl

weak_fails : (meant : Meant) → is_holding meant.bits ≡ true → (rec : Rec) → is_strong rec ≡ false → is_asked meant rec ≡ false
weak_fails meant holding rec weak = last (fits meant.agent rec.agent && fits meant.controller rec.controller) (has_bit_of meant.bits rec.attr) (weak_bits_none meant.bits holding rec weak)
  where
    last : (a b : Bool) → b ≡ false → (a && b) ≡ false
    last true b is = is
    last false b is = refl

-- the one record with BY_DRIVER or EXCLUSIVE answers for all
pub holder_meant : (rows : RowsView) → AreSound rows → (handle : ℕ) (guid : List ℕ) (meant : Meant) → is_holding meant.bits ≡ true
    → list_any (is_asked meant) (option_to_list (find is_strong (records_of (entries_of rows) handle guid))) ≡ list_any (is_asked meant) (records_of (entries_of rows) handle guid)
holder_meant rows sound handle guid meant holding =
    any_is (is_asked meant) (weak_fails meant holding) (records_of (entries_of rows) handle guid) (one_strong (entries_of rows) sound.1.table.apart handle guid)

-- ---- BY_DRIVER, EXCLUSIVE and BY_CHILD_CONTROLLER

any_or : {X : Type 0} (p q : X → Bool) (xs : List X) → list_any (λ (x : X). p x || q x) xs ≡ (list_any p xs || list_any q xs)
any_or p q [] = refl
any_or p q (x ∷ xs) = ap (λ b. (p x || q x) || b) (any_or p q xs) ∙ mixed (p x) (q x) (list_any p xs) (list_any q xs)
  where
    mixed : (a b c d : Bool) → ((a || b) || (c || d)) ≡ ((a || c) || (b || d))
    mixed true b c d = refl
    mixed false true true d = refl
    mixed false true false d = refl
    mixed false false c d = refl

any_kept : (kept p q : KeyedRecord → Bool) (xs : List KeyedRecord) → list_all kept xs ≡ true → ((x : KeyedRecord) → kept x ≡ true → p x ≡ q x) → list_any p xs ≡ list_any q xs
any_kept kept p q [] all agree = refl
any_kept kept p q (x ∷ xs) all agree =
    let parts = and_parts (kept x) (list_all kept xs) all in
    rw (agree x parts.0, any_kept kept p q xs parts.1 agree) refl

pub agents_any : (rows : RowsView) → AreSound rows → (handle : ℕ) (guid : List ℕ)
    → list_any (is_meant None None AGENT_BITS) (records_of (entries_of rows) handle guid) ≡ (list_any is_strong (records_of (entries_of rows) handle guid) || list_any is_for_child (records_of (entries_of rows) handle guid))
agents_any rows sound handle guid =
    any_on rows handle guid (is_meant None None AGENT_BITS)
    ∙ any_kept is_kept (λ (one : KeyedRecord). is_of handle guid one && is_meant None None AGENT_BITS one.rec) (λ (one : KeyedRecord). is_of handle guid one && (is_strong one.rec || is_for_child one.rec)) (shown rows) (shown_kept sound.0 rows sound.1)
    (λ one kept. ap (λ b. is_of handle guid one && b) (bits_of one.rec.attr (and_parts (is_legal one.rec.attr) _ kept).0))
    ∙ sym (any_on rows handle guid (λ (rec : Rec). is_strong rec || is_for_child rec))
    ∙ any_or is_strong is_for_child (records_of (entries_of rows) handle guid)
  where
    equal_by : (a b : Bool) → ((a && b) || (not a && not b)) ≡ true → a ≡ b
    equal_by true true is = refl
    equal_by true false is = absurd cc
    equal_by false true is = absurd cc
    equal_by false false is = refl

    bits_of : (attr : ℕ) → is_legal attr ≡ true → has_bit_of AGENT_BITS attr ≡ (has_bit_of HOLDING_BITS attr || nat_eq attr BY_CHILD_CONTROLLER)
    bits_of attr legal =
        equal_by (has_bit_of AGENT_BITS attr) (has_bit_of HOLDING_BITS attr || nat_eq attr BY_CHILD_CONTROLLER)
        (legal_all (λ (bits : ℕ). (has_bit_of AGENT_BITS bits && (has_bit_of HOLDING_BITS bits || nat_eq bits BY_CHILD_CONTROLLER)) || (not (has_bit_of AGENT_BITS bits) && not (has_bit_of HOLDING_BITS bits || nat_eq bits BY_CHILD_CONTROLLER))) refl attr legal)

pub child_any : (rows : RowsView) (handle : ℕ) (guid : List ℕ) → list_any (λ (one : KeyedRecord). is_for_child one.rec) (shown_on (handle, guid) rows) ≡ list_any is_for_child (records_of (entries_of rows) handle guid)
child_any rows handle guid = any_filter_and (is_of handle guid) (λ (one : KeyedRecord). is_for_child one.rec) (shown rows) ∙ sym (any_on rows handle guid is_for_child)

-- ---- rows and what is shown

shown_row : (first : ℕ) (cuts : Cuts) (q : KeyedRecord → Bool) (lines : List Line) → list_any q (shown_from first cuts lines) ≡ true
    → (n : ℕ) × ((line : Line) × (slice_get lines n ≡ Some line) × (counts cuts (first + n) line ≡ true) × (q line.keyed ≡ true))
shown_row first cuts q [] is = absurd cc
shown_row first cuts q (line ∷ lines) is = elim (cases_Bool (counts cuts first line)) [
  | inl here ↦
      let either : (q line.keyed || list_any q (shown_from (first + 1) cuts lines)) ≡ true = rw here at is in
      elim (cases_Bool (q line.keyed)) [
        | inl passes ↦
            let at : first ≡ first + 0 = omega arith in
            (zero, (line, refl, ap (λ (n : ℕ). counts cuts n line) (sym at) ∙ here, passes))
        | inr fails ↦ later (shown_row (first + 1) cuts q lines (rw fails at either))
      ]
  | inr gone ↦ later (shown_row (first + 1) cuts q lines (rw gone at is))
]
  where
    later : (n : ℕ) × ((other : Line) × (slice_get lines n ≡ Some other) × (counts cuts ((first + 1) + n) other ≡ true) × (q other.keyed ≡ true))
        → (n : ℕ) × ((other : Line) × (slice_get (line ∷ lines) n ≡ Some other) × (counts cuts (first + n) other ≡ true) × (q other.keyed ≡ true))
    later found =
        let at : first + suc found.0 ≡ (first + 1) + found.0 = omega arith in
        (suc found.0, (found.1.0, found.1.1, ap (λ (n : ℕ). counts cuts n found.1.0) at ∙ found.1.2, found.1.3))

-- a record that is shown has a row
pub row_of_shown : (q : KeyedRecord → Bool) (rows : RowsView) → list_any q (shown rows) ≡ true → (place : ℕ) × IsRow q rows place
row_of_shown q rows is =
    let found = shown_row 0 rows.cuts q rows.lines is in
    let at : found.0 ≡ 0 + found.0 = omega arith in
    (found.0, record { line = found.1.0; there = found.1.1; counted = ap (λ (n : ℕ). counts rows.cuts n found.1.0) at ∙ found.1.2; passes = found.1.3 })

-- ---- an agent and a controller

abbrev pub is_bit_open : RowsView → ℕ → List ℕ → (agent controller bits attr : ℕ) → Bool
is_bit_open rows handle guid agent controller bits attr = has_bit_of bits attr && is_some (last_counting (is_open handle guid agent controller attr) rows)

some_among : (o : Option ℕ) (place : ℕ) → is_among (option_to_list o) place ≡ true → is_some o ≡ true
some_among None place is = absurd cc
some_among (Some other) place is = refl

among_some : (o : Option ℕ) → is_some o ≡ true → (place : ℕ) × (is_among (option_to_list o) place ≡ true)
among_some None is = absurd cc
among_some (Some place) is =
    let same : nat_eq place place ≡ true = eq-eqb place place refl in
    (place, rw same refl)

abbrev asked_on : ℕ → List ℕ → Meant → KeyedRecord → Bool
asked_on handle guid meant one = is_of handle guid one && is_asked meant one.rec

module _ (rows : RowsView) (sound : AreSound rows) (handle : ℕ) (guid : List ℕ) (agent controller bits : ℕ) where
  abbrev meant : Meant
  meant = record { agent = Some agent; controller = Some controller; bits = bits }

  pub opener_meant : list_any (is_bit_open rows handle guid agent controller bits) legal_attributes ≡ list_any (is_asked meant) (records_of (entries_of rows) handle guid)
  opener_meant = same_by_ways _ _ to from ∙ sym (any_on rows handle guid (is_asked meant))
    where
      to : list_any (is_bit_open rows handle guid agent controller bits) legal_attributes ≡ true → list_any (asked_on handle guid meant) (shown rows) ≡ true
      to any =
          let some = some_of_any (is_bit_open rows handle guid agent controller bits) legal_attributes any in
          let parts = and_parts (has_bit_of bits some.0) (is_some (last_counting (is_open handle guid agent controller some.0) rows)) some.1 in
          let at = among_some (last_counting (is_open handle guid agent controller some.0) rows) parts.1 in
          let row = chosen_row (is_open handle guid agent controller some.0) rows at.0 (sym (last_open rows sound handle guid agent controller some.0 at.0) ∙ at.1) in
          let rec = row.line.keyed.rec in
          let outer = and_parts (is_of handle guid row.line.keyed) (is_equal agent controller some.0 rec) row.passes in
          let equal = and_parts (nat_eq rec.agent agent && nat_eq rec.controller controller) (nat_eq rec.attr some.0) outer.1 in
          some_shown (asked_on handle guid meant) rows at.0
          (row_passes (is_open handle guid agent controller some.0) (asked_on handle guid meant) rows at.0 row
          (and_from (is_of handle guid row.line.keyed) (is_asked meant rec) outer.0
          (and_from (nat_eq rec.agent agent && nat_eq rec.controller controller) (has_bit_of bits rec.attr) equal.0 (ap (has_bit_of bits) (eqb-true rec.attr some.0 equal.1) ∙ parts.0))))

      from : list_any (asked_on handle guid meant) (shown rows) ≡ true → list_any (is_bit_open rows handle guid agent controller bits) legal_attributes ≡ true
      from any =
          let found = row_of_shown (asked_on handle guid meant) rows any in
          let row = found.1 in
          let rec = row.line.keyed.rec in
          let outer = and_parts (is_of handle guid row.line.keyed) (is_asked meant rec) row.passes in
          let asked = and_parts (nat_eq rec.agent agent && nat_eq rec.controller controller) (has_bit_of bits rec.attr) outer.1 in
          let legal = (and_parts (is_legal rec.attr) _ (all_shown rows is_kept found.0 row.line (shown_kept sound.0 rows sound.1) row.there row.counted)).0 in
          any_stronger (nat_eq rec.attr) (is_bit_open rows handle guid agent controller bits) legal_attributes
          (λ attr same.
          (let opened = row_passes (asked_on handle guid meant) (is_open handle guid agent controller attr) rows found.0 row
          (and_from (is_of handle guid row.line.keyed) (is_equal agent controller attr rec) outer.0
          (and_from (nat_eq rec.agent agent && nat_eq rec.controller controller) (nat_eq rec.attr attr) asked.0 same)) in
          and_from (has_bit_of bits attr) (is_some (last_counting (is_open handle guid agent controller attr) rows))
          (ap (has_bit_of bits) (sym (eqb-true rec.attr attr same)) ∙ asked.1)
          (some_among (last_counting (is_open handle guid agent controller attr) rows) found.0 (last_open rows sound handle guid agent controller attr found.0 ∙ opened))))
          legal

-- ---- an agent

-- whether one is meant, by the places of an agent's records
pub places_meant : (rows : RowsView) (handle : ℕ) (guid : List ℕ) (agent : ℕ) (meant : Meant) (places : List ℕ) → meant.agent ≡ Some agent
    → AreChosen (λ (one : KeyedRecord). is_of handle guid one && nat_eq one.rec.agent agent) rows places
    → list_any (λ (place : ℕ). passes_at (λ (one : KeyedRecord). is_asked meant one.rec) rows.lines place) places ≡ list_any (is_asked meant) (records_of (entries_of rows) handle guid)
places_meant rows handle guid agent meant places is are = same_by_ways _ _ to from ∙ sym (any_on rows handle guid (is_asked meant))
  where
    agent_of : (rec : Rec) → is_asked meant rec ≡ true → nat_eq rec.agent agent ≡ true
    agent_of rec asked =
        let fit = and_parts (fits meant.agent rec.agent) (fits meant.controller rec.controller) (and_parts (fits meant.agent rec.agent && fits meant.controller rec.controller) (has_bit_of meant.bits rec.attr) asked).0 in
        sym (ap (λ (o : Option ℕ). fits o rec.agent) is) ∙ fit.0

    to : list_any (λ (place : ℕ). passes_at (λ (one : KeyedRecord). is_asked meant one.rec) rows.lines place) places ≡ true → list_any (asked_on handle guid meant) (shown rows) ≡ true
    to any =
        let some = among_any (λ (place : ℕ). passes_at (λ (one : KeyedRecord). is_asked meant one.rec) rows.lines place) places any in
        let row = chosen_row (λ (one : KeyedRecord). is_of handle guid one && nat_eq one.rec.agent agent) rows some.0 (sym (are some.0) ∙ some.1) in
        let outer = and_parts (is_of handle guid row.line.keyed) (nat_eq row.line.keyed.rec.agent agent) row.passes in
        some_shown (asked_on handle guid meant) rows some.0
        (row_passes (λ (one : KeyedRecord). is_of handle guid one && nat_eq one.rec.agent agent) (asked_on handle guid meant) rows some.0 row
        (and_from (is_of handle guid row.line.keyed) (is_asked meant row.line.keyed.rec) outer.0 (at_line some.0 row.line row.there some.2)))
      where
        at_line : (place : ℕ) (line : Line) → slice_get rows.lines place ≡ Some line → passes_at (λ (one : KeyedRecord). is_asked meant one.rec) rows.lines place ≡ true → is_asked meant line.keyed.rec ≡ true
        at_line place line there passes = rw there at passes

        among_any : (p : ℕ → Bool) (xs : List ℕ) → list_any p xs ≡ true → (place : ℕ) × (is_among xs place ≡ true) × (p place ≡ true)
        among_any p [] none = absurd cc
        among_any p (x ∷ xs) any_of = elim (cases_Bool (p x)) [
          | inl passes ↦ let same : nat_eq x x ≡ true = eq-eqb x x refl in (x, rw same refl, passes)
          | inr fails ↦ let rest = among_any p xs (rw fails at any_of) in (rest.0, either (nat_eq x rest.0) (is_among xs rest.0) rest.1, rest.2)
        ]
          where
            either : (a b : Bool) → b ≡ true → (a || b) ≡ true
            either true b holds = refl
            either false b holds = holds

    from : list_any (asked_on handle guid meant) (shown rows) ≡ true → list_any (λ (place : ℕ). passes_at (λ (one : KeyedRecord). is_asked meant one.rec) rows.lines place) places ≡ true
    from any =
        let found = row_of_shown (asked_on handle guid meant) rows any in
        let row = found.1 in
        let outer = and_parts (is_of handle guid row.line.keyed) (is_asked meant row.line.keyed.rec) row.passes in
        let chosen = row_passes (asked_on handle guid meant) (λ (one : KeyedRecord). is_of handle guid one && nat_eq one.rec.agent agent) rows found.0 row
        (and_from (is_of handle guid row.line.keyed) (nat_eq row.line.keyed.rec.agent agent) outer.0 (agent_of row.line.keyed.rec outer.1)) in
        any_stronger (λ (other : ℕ). nat_eq other found.0) (λ (place : ℕ). passes_at (λ (one : KeyedRecord). is_asked meant one.rec) rows.lines place) places
        (λ place same. passes_there place row.line (ap (slice_get rows.lines) (eqb-true place found.0 same) ∙ row.there) outer.1) (are found.0 ∙ chosen)
      where
        passes_there : (place : ℕ) (line : Line) → slice_get rows.lines place ≡ Some line → is_asked meant line.keyed.rec ≡ true → passes_at (λ (one : KeyedRecord). is_asked meant one.rec) rows.lines place ≡ true
        passes_there place line there passes = rw there passes

-- ---- one after another

module _ (p : ℕ → Bool) (xs : List ℕ) (i : ℕ) (looked : list_any p (drop i xs) ≡ list_any p xs) where
  next_of : i < length xs → drop i xs ≡ get_or xs i 0 ∷ drop (i + 1) xs
  next_of within = drop-cons xs i 0 within ∙ ap (λ (n : ℕ). get_or xs i 0 ∷ drop n xs) (sym (add-one i))

  -- one that passes is found
  pub look_found : i < length xs → p (get_or xs i 0) ≡ true → true ≡ list_any p xs
  look_found within passes =
      let here : list_any p (get_or xs i 0 ∷ drop (i + 1) xs) ≡ true = rw passes refl in
      sym here ∙ ap (list_any p) (sym (next_of within)) ∙ looked

  -- one that fails leaves the others
  pub look_on : i < length xs → p (get_or xs i 0) ≡ false → list_any p (drop (i + 1) xs) ≡ list_any p xs
  look_on within fails =
      let here : list_any p (get_or xs i 0 ∷ drop (i + 1) xs) ≡ list_any p (drop (i + 1) xs) = rw fails refl in
      sym here ∙ ap (list_any p) (sym (next_of within)) ∙ looked

  -- and none is left
  pub look_end : length xs ≤ i → false ≡ list_any p xs
  look_end past = ap (list_any p) (sym (drop_all i xs past)) ∙ looked
