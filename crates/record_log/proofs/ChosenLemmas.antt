-- The places of some records of an interface or of a handle.
use Rattle.std.proofs.Common.{◌≡◌, ℕ, zero, suc, Bool, true, false, not, ◌&&◌, ◌||◌, nat_eq, List, [], ◌∷◌, ◌++◌, Some, None, refl, sym, ap, subst, ◌∙◌, inl, inr, append_assoc, arith}
use Rattle.std.specs.Prelude.{Err, IfOk, Ok, Result, slice_get}
use Rattle.std.specs.List.{flat_map, list_all, list_any}
use Rattle.std.specs.Option.{option_to_list}
use Rattle.std.proofs.lemmas.Bool.{and_from, and_parts, cases_Bool, eqb-true, not-false}
use Rattle.std.proofs.lemmas.Bool.Decides.{nat_tests}
use Rattle.std.proofs.lemmas.List.Folds.{list_any-append}
use Rattle.fw_types.specs.Attr.{has_bit_of, is_legal, legal_attributes}
use Rattle.fw_types.specs.declared.attr.TheConstants.Attr.{ALL_BITS, BY_CHILD_CONTROLLER}
use Rattle.open_records.specs.Records.{is_equal, is_meant}
use Rattle.open_records.specs.OpenRecords.{is_kept}
use Rattle.open_records.proofs.LawProofs.{kept_is_meant}
use Rattle.open_records.specs.Changing.{is_open}
use Rattle.open_records.specs.Keyed.{is_of}
use Rattle.open_records.specs.declared.open_record.KeyedRecord.{KeyedRecord}
use Rattle.open_records.proofs.ListLemmas.{any_same}
use Rattle.open_records.proofs.Order.{of_itself}
use Rattle.record_rows.specs.Asking.{ArePlacesOf}
use Rattle.record_rows.specs.Rows.{Line, RowsView}
use Rattle.record_log.specs.SoundRows.{AreChosen, AreSound, is_among, is_chosen, last_counting}
use Rattle.record_log.proofs.LastCounting.{IsRow, chosen_by, chosen_row, last_is_chosen, open_excludes}
use Rattle.record_log.proofs.SoundLemmas.{all_shown, shown_kept}

-- ---- tests

pub same_by_ways : (a b : Bool) → (a ≡ true → b ≡ true) → (b ≡ true → a ≡ true) → a ≡ b
same_by_ways true b to from = sym (to refl)
same_by_ways false true to from = from refl
same_by_ways false false to from = refl

-- one that passes
pub some_of_any : {X : Type 0} (p : X → Bool) (xs : List X) → list_any p xs ≡ true → (x : X) × (p x ≡ true)
some_of_any p [] is = absurd cc
some_of_any p (x ∷ xs) is = elim (cases_Bool (p x)) [
  | inl passes ↦ (x, passes)
  | inr fails ↦ some_of_any p xs (rw fails at is)
]

pub any_stronger : {X : Type 0} (p q : X → Bool) (xs : List X) → ((x : X) → p x ≡ true → q x ≡ true) → list_any p xs ≡ true → list_any q xs ≡ true
any_stronger p q [] stronger is = absurd cc
any_stronger p q (x ∷ xs) stronger is = elim (cases_Bool (p x)) [
  | inl passes ↦ rw (stronger x passes) refl
  | inr fails ↦ either (q x) (any_stronger p q xs stronger (rw fails at is))
]
  where
    either : (b : Bool) → {c : Bool} → c ≡ true → (b || c) ≡ true
    either true is = refl
    either false is = is

pub any_get : {X : Type 0} (p : X → Bool) (xs : List X) (n : ℕ) (x : X) → slice_get xs n ≡ Some x → p x ≡ true → list_any p xs ≡ true
any_get p [] n x is passes = absurd cc
any_get {X} p (y ∷ xs) zero x is passes =
    let same : y ≡ x = cc in
    let here : p y ≡ true = ap p same ∙ passes in
    rw here refl
any_get p (y ∷ xs) (suc n) x is passes = either (p y) (any_get p xs n x is passes)
  where
    either : (b : Bool) → {c : Bool} → c ≡ true → (b || c) ≡ true
    either true is = refl
    either false is = is

-- ---- places

pub among_append : (xs ys : List ℕ) (place : ℕ) → is_among (xs ++ ys) place ≡ (is_among xs place || is_among ys place)
among_append xs ys place = list_any-append (λ (other : ℕ). nat_eq other place) xs ys

pub among_flat : {X : Type 0} (f : X → List ℕ) (xs : List X) (place : ℕ) → is_among (flat_map f xs) place ≡ list_any (λ (x : X). is_among (f x) place) xs
among_flat f [] place = refl
among_flat {X} f (x ∷ xs) place = among_append (f x) (flat_map f xs) place ∙ ap (λ b. is_among (f x) place || b) (among_flat f xs place)

-- what is found with one more of a list
pub flat_step : {X : Type 0} (f : X → List ℕ) (found : List ℕ) (x : X) (left right : List X) → left ≡ x ∷ right → (found ++ f x) ++ flat_map f right ≡ found ++ flat_map f left
flat_step f found x left right is = append_assoc found (f x) (flat_map f right) ∙ ap (λ l. found ++ flat_map f l) (sym is)

pub any_step : {X : Type 0} (p : X → Bool) (found : Bool) (x : X) (left right : List X) → left ≡ x ∷ right → ((found || p x) || list_any p right) ≡ (found || list_any p left)
any_step p found x left right is = assoc found (p x) (list_any p right) ∙ ap (λ l. found || list_any p l) (sym is)
  where
    assoc : (a b c : Bool) → ((a || b) || c) ≡ (a || (b || c))
    assoc true b c = refl
    assoc false b c = refl

pub or_false : (b : Bool) → (b || false) ≡ b
or_false true = refl
or_false false = refl

-- a row that is chosen
pub is_row : (test : KeyedRecord → Bool) (rows : RowsView) (place : ℕ) → IsRow test rows place → is_chosen test rows place ≡ true
is_row test rows place row = chosen_by test rows place row.line row.there ∙ rw (row.counted, row.passes) refl

-- a row that passes another test
pub row_passes : (test other : KeyedRecord → Bool) (rows : RowsView) (place : ℕ) → (row : IsRow test rows place) → other row.line.keyed ≡ true → is_chosen other rows place ≡ true
row_passes test other rows place row passes = is_row other rows place (record { line = row.line; there = row.there; counted = row.counted; passes = passes })

among_get : (places : List ℕ) (place : ℕ) → is_among places place ≡ true → (n : ℕ) × (slice_get places n ≡ Some place)
among_get [] place is = absurd cc
among_get (other ∷ places) place is = elim (cases_Bool (nat_eq other place)) [
  | inl same ↦ (zero, ap Some (eqb-true other place same))
  | inr differs ↦ let later = among_get places place (rw differs at is) in (suc later.0, later.1)
]

-- places that are listed, at least once each
pub listed_chosen : (test : KeyedRecord → Bool) (rows : RowsView) (places : List ℕ) → ArePlacesOf test rows places → AreChosen test rows places
listed_chosen test rows places are place =
    same_by_ways (is_among places place) (is_chosen test rows place)
    (λ among. let at = among_get places place among in are.only at.0 place at.1)
    (λ chosen. let at = are.all place chosen in any_get (λ (other : ℕ). nat_eq other place) places at.0 place at.1 (itself place))
  where
    itself : (n : ℕ) → nat_eq n n ≡ true
    itself n = grind (arith, nat_tests)

-- ---- legal attributes

-- what holds of each legal attribute
pub legal_all : (q : ℕ → Bool) → list_all q legal_attributes ≡ true → (attr : ℕ) → is_legal attr ≡ true → q attr ≡ true
legal_all q all attr legal = among legal_attributes all legal
  where
    among : (attrs : List ℕ) → list_all q attrs ≡ true → list_any (nat_eq attr) attrs ≡ true → q attr ≡ true
    among [] every is = absurd cc
    among (one ∷ attrs) every is =
        let parts = and_parts (q one) (list_all q attrs) every in
        elim (cases_Bool (nat_eq attr one)) [
          | inl same ↦ ap q (eqb-true attr one same) ∙ parts.0
          | inr differs ↦ among attrs parts.1 (rw differs at is)
        ]

child_attr : (attr : ℕ) → is_legal attr ≡ true → has_bit_of BY_CHILD_CONTROLLER attr ≡ true → nat_eq attr BY_CHILD_CONTROLLER ≡ true
child_attr attr legal has = implied (has_bit_of BY_CHILD_CONTROLLER attr) (nat_eq attr BY_CHILD_CONTROLLER) (legal_all (λ (bits : ℕ). not (has_bit_of BY_CHILD_CONTROLLER bits) || nat_eq bits BY_CHILD_CONTROLLER) refl attr legal) has
  where
    implied : (a b : Bool) → (not a || b) ≡ true → a ≡ true → b ≡ true
    implied true b either holds = either
    implied false b either holds = absurd cc

-- ---- by sound rows

abbrev pub is_left : ℕ → List ℕ → (agent controller : ℕ) → KeyedRecord → Bool
is_left handle guid agent controller one = is_of handle guid one && is_meant (Some agent) (Some controller) ALL_BITS one.rec

abbrev pub is_by_agent : ℕ → (agent : ℕ) → List ℕ → KeyedRecord → Bool
is_by_agent handle agent guid one = is_of handle guid one && nat_eq one.rec.agent agent

abbrev pub is_of_agent : ℕ → (agent : ℕ) → KeyedRecord → Bool
is_of_agent handle agent one = nat_eq one.handle handle && is_meant (Some agent) None ALL_BITS one.rec

abbrev pub is_of_child : ℕ → (agent child : ℕ) → KeyedRecord → Bool
is_of_child handle agent child one = nat_eq one.handle handle && is_meant (Some agent) (Some child) BY_CHILD_CONTROLLER one.rec

abbrev by_child : RowsView → ℕ → (agent child place : ℕ) → List ℕ → Bool
by_child rows handle agent child place guid = is_chosen (is_open handle guid agent child BY_CHILD_CONTROLLER) rows place

abbrev by_agent : RowsView → ℕ → (agent place : ℕ) → List ℕ → Bool
by_agent rows handle agent place guid = is_chosen (is_by_agent handle agent guid) rows place

module _ (rows : RowsView) (sound : AreSound rows) where
  kept_row : (test : KeyedRecord → Bool) (place : ℕ) → (row : IsRow test rows place) → is_kept row.line.keyed ≡ true
  kept_row test place row = all_shown rows is_kept place row.line (shown_kept sound.0 rows sound.1) row.there row.counted

  legal_row : (test : KeyedRecord → Bool) (place : ℕ) → (row : IsRow test rows place) → is_legal row.line.keyed.rec.attr ≡ true
  legal_row test place row = (and_parts (is_legal row.line.keyed.rec.attr) _ (kept_row test place row)).0

  all_bits_row : (test : KeyedRecord → Bool) (place : ℕ) → (row : IsRow test rows place) → has_bit_of ALL_BITS row.line.keyed.rec.attr ≡ true
  all_bits_row test place row = not-false (has_bit_of ALL_BITS row.line.keyed.rec.attr) (kept_is_meant row.line.keyed (kept_row test place row))

  -- the last row of an opener, if it counts
  pub last_open : (handle : ℕ) (guid : List ℕ) (agent controller attr place : ℕ) → is_among (option_to_list (last_counting (is_open handle guid agent controller attr) rows)) place ≡ is_chosen (is_open handle guid agent controller attr) rows place
  last_open handle guid agent controller attr place = last_is_chosen (is_open handle guid agent controller attr) rows (open_excludes handle guid agent controller attr) sound.1.older place

  -- those of an agent and a controller, by the attributes
  pub chosen_left : (handle : ℕ) (guid : List ℕ) (agent controller : ℕ)
      → AreChosen (λ (one : KeyedRecord). is_of handle guid one && is_meant (Some agent) (Some controller) ALL_BITS one.rec) rows (flat_map (λ (attr : ℕ). option_to_list (last_counting (is_open handle guid agent controller attr) rows)) legal_attributes)
  chosen_left handle guid agent controller place =
      among_flat (λ (attr : ℕ). option_to_list (last_counting (is_open handle guid agent controller attr) rows)) legal_attributes place
      ∙ any_same (λ (attr : ℕ). is_among (option_to_list (last_counting (is_open handle guid agent controller attr) rows)) place) (λ (attr : ℕ). is_chosen (is_open handle guid agent controller attr) rows place) legal_attributes (λ attr. last_open handle guid agent controller attr place)
      ∙ same_by_ways (list_any (λ (attr : ℕ). is_chosen (is_open handle guid agent controller attr) rows place) legal_attributes) (is_chosen (is_left handle guid agent controller) rows place) to from
    where
      to : list_any (λ (attr : ℕ). is_chosen (is_open handle guid agent controller attr) rows place) legal_attributes ≡ true → is_chosen (is_left handle guid agent controller) rows place ≡ true
      to any =
          let some = some_of_any (λ (attr : ℕ). is_chosen (is_open handle guid agent controller attr) rows place) legal_attributes any in
          let row = chosen_row (is_open handle guid agent controller some.0) rows place some.1 in
          let rec = row.line.keyed.rec in
          let outer = and_parts (is_of handle guid row.line.keyed) (is_equal agent controller some.0 rec) row.passes in
          let equal = and_parts (nat_eq rec.agent agent && nat_eq rec.controller controller) (nat_eq rec.attr some.0) outer.1 in
          row_passes (is_open handle guid agent controller some.0) (is_left handle guid agent controller) rows place row
          (and_from (is_of handle guid row.line.keyed) (is_meant (Some agent) (Some controller) ALL_BITS rec) outer.0
          (and_from (nat_eq rec.agent agent && nat_eq rec.controller controller) (has_bit_of ALL_BITS rec.attr) equal.0 (all_bits_row (is_open handle guid agent controller some.0) place row)))

      from : is_chosen (is_left handle guid agent controller) rows place ≡ true → list_any (λ (attr : ℕ). is_chosen (is_open handle guid agent controller attr) rows place) legal_attributes ≡ true
      from chosen =
          let row = chosen_row (is_left handle guid agent controller) rows place chosen in
          let rec = row.line.keyed.rec in
          let outer = and_parts (is_of handle guid row.line.keyed) (is_meant (Some agent) (Some controller) ALL_BITS rec) row.passes in
          let meant = and_parts (nat_eq rec.agent agent && nat_eq rec.controller controller) (has_bit_of ALL_BITS rec.attr) outer.1 in
          any_stronger (nat_eq rec.attr) (λ (attr : ℕ). is_chosen (is_open handle guid agent controller attr) rows place) legal_attributes
          (λ attr same. row_passes (is_left handle guid agent controller) (is_open handle guid agent controller attr) rows place row
          (and_from (is_of handle guid row.line.keyed) (is_equal agent controller attr rec) outer.0
          (and_from (nat_eq rec.agent agent && nat_eq rec.controller controller) (nat_eq rec.attr attr) meant.0 same)))
          (legal_row (is_left handle guid agent controller) place row)

  module _ (handle : ℕ) (guids : List (List ℕ)) (all : (guid : List ℕ) → list_any (λ (line : Line). is_of handle guid line.keyed) rows.lines ≡ true → (number : ℕ) × (slice_get guids number ≡ Some guid)) where
    -- the interface of a row on the handle is among them
    on_handle : (test : KeyedRecord → Bool) (place : ℕ) → (row : IsRow test rows place) → nat_eq row.line.keyed.handle handle ≡ true → is_of handle row.line.keyed.guid row.line.keyed ≡ true
    on_handle test place row on =
        let same : row.line.keyed.handle ≡ handle = eqb-true row.line.keyed.handle handle on in
        subst (λ (h : ℕ). is_of h row.line.keyed.guid row.line.keyed ≡ true) same (of_itself row.line.keyed)

    any_guid : (test : KeyedRecord → Bool) (p : List ℕ → Bool) (place : ℕ) → (row : IsRow test rows place) → nat_eq row.line.keyed.handle handle ≡ true → p row.line.keyed.guid ≡ true → list_any p guids ≡ true
    any_guid test p place row on passes =
        let listed = all row.line.keyed.guid (any_get (λ (line : Line). is_of handle row.line.keyed.guid line.keyed) rows.lines place row.line row.there (on_handle test place row on)) in
        any_get p guids listed.0 row.line.keyed.guid listed.1 passes

    -- those of an agent, by the protocols
    pub chosen_of_agent : (agent place : ℕ) → list_any (λ (guid : List ℕ). is_chosen (λ (one : KeyedRecord). is_of handle guid one && nat_eq one.rec.agent agent) rows place) guids
        ≡ is_chosen (λ (one : KeyedRecord). nat_eq one.handle handle && is_meant (Some agent) None ALL_BITS one.rec) rows place
    chosen_of_agent agent place = same_by_ways (list_any (by_agent rows handle agent place) guids) (is_chosen (is_of_agent handle agent) rows place) to from
      where
        to : list_any (by_agent rows handle agent place) guids ≡ true → is_chosen (is_of_agent handle agent) rows place ≡ true
        to any =
            let some = some_of_any (by_agent rows handle agent place) guids any in
            let row = chosen_row (is_by_agent handle agent some.0) rows place some.1 in
            let rec = row.line.keyed.rec in
            let outer = and_parts (is_of handle some.0 row.line.keyed) (nat_eq rec.agent agent) row.passes in
            let here = and_parts (nat_eq row.line.keyed.handle handle) _ outer.0 in
            row_passes (is_by_agent handle agent some.0) (is_of_agent handle agent) rows place row
            (and_from (nat_eq row.line.keyed.handle handle) (is_meant (Some agent) None ALL_BITS rec) here.0
            (and_from (nat_eq rec.agent agent && true) (has_bit_of ALL_BITS rec.attr) (and_from (nat_eq rec.agent agent) true outer.1 refl) (all_bits_row (is_by_agent handle agent some.0) place row)))

        from : is_chosen (is_of_agent handle agent) rows place ≡ true → list_any (by_agent rows handle agent place) guids ≡ true
        from chosen =
            let row = chosen_row (is_of_agent handle agent) rows place chosen in
            let rec = row.line.keyed.rec in
            let outer = and_parts (nat_eq row.line.keyed.handle handle) (is_meant (Some agent) None ALL_BITS rec) row.passes in
            let meant = and_parts (nat_eq rec.agent agent && true) (has_bit_of ALL_BITS rec.attr) outer.1 in
            let agents = and_parts (nat_eq rec.agent agent) true meant.0 in
            any_guid (is_of_agent handle agent) (by_agent rows handle agent place) place row outer.0
            (row_passes (is_of_agent handle agent) (is_by_agent handle agent row.line.keyed.guid) rows place row
            (and_from (is_of handle row.line.keyed.guid row.line.keyed) (nat_eq rec.agent agent) (on_handle (is_of_agent handle agent) place row outer.0) agents.0))

    -- those of an agent for a child, by the protocols
    pub chosen_of_child : (agent child : ℕ)
        → AreChosen (λ (one : KeyedRecord). nat_eq one.handle handle && is_meant (Some agent) (Some child) BY_CHILD_CONTROLLER one.rec) rows (flat_map (λ (guid : List ℕ). option_to_list (last_counting (is_open handle guid agent child BY_CHILD_CONTROLLER) rows)) guids)
    chosen_of_child agent child place =
        among_flat (λ (guid : List ℕ). option_to_list (last_counting (is_open handle guid agent child BY_CHILD_CONTROLLER) rows)) guids place
        ∙ any_same (λ (guid : List ℕ). is_among (option_to_list (last_counting (is_open handle guid agent child BY_CHILD_CONTROLLER) rows)) place) (by_child rows handle agent child place) guids (λ guid. last_open handle guid agent child BY_CHILD_CONTROLLER place)
        ∙ same_by_ways (list_any (by_child rows handle agent child place) guids) (is_chosen (is_of_child handle agent child) rows place) to from
      where
        to : list_any (by_child rows handle agent child place) guids ≡ true → is_chosen (is_of_child handle agent child) rows place ≡ true
        to any =
            let some = some_of_any (by_child rows handle agent child place) guids any in
            let row = chosen_row (is_open handle some.0 agent child BY_CHILD_CONTROLLER) rows place some.1 in
            let rec = row.line.keyed.rec in
            let outer = and_parts (is_of handle some.0 row.line.keyed) (is_equal agent child BY_CHILD_CONTROLLER rec) row.passes in
            let here = and_parts (nat_eq row.line.keyed.handle handle) _ outer.0 in
            let equal = and_parts (nat_eq rec.agent agent && nat_eq rec.controller child) (nat_eq rec.attr BY_CHILD_CONTROLLER) outer.1 in
            row_passes (is_open handle some.0 agent child BY_CHILD_CONTROLLER) (is_of_child handle agent child) rows place row
            (and_from (nat_eq row.line.keyed.handle handle) (is_meant (Some agent) (Some child) BY_CHILD_CONTROLLER rec) here.0
            (and_from (nat_eq rec.agent agent && nat_eq rec.controller child) (has_bit_of BY_CHILD_CONTROLLER rec.attr) equal.0 (ap (has_bit_of BY_CHILD_CONTROLLER) (eqb-true rec.attr BY_CHILD_CONTROLLER equal.1))))

        from : is_chosen (is_of_child handle agent child) rows place ≡ true → list_any (by_child rows handle agent child place) guids ≡ true
        from chosen =
            let row = chosen_row (is_of_child handle agent child) rows place chosen in
            let rec = row.line.keyed.rec in
            let outer = and_parts (nat_eq row.line.keyed.handle handle) (is_meant (Some agent) (Some child) BY_CHILD_CONTROLLER rec) row.passes in
            let meant = and_parts (nat_eq rec.agent agent && nat_eq rec.controller child) (has_bit_of BY_CHILD_CONTROLLER rec.attr) outer.1 in
            any_guid (is_of_child handle agent child) (by_child rows handle agent child place) place row outer.0
            (row_passes (is_of_child handle agent child) (is_open handle row.line.keyed.guid agent child BY_CHILD_CONTROLLER) rows place row
            (and_from (is_of handle row.line.keyed.guid row.line.keyed) (is_equal agent child BY_CHILD_CONTROLLER rec) (on_handle (is_of_child handle agent child) place row outer.0)
            (and_from (nat_eq rec.agent agent && nat_eq rec.controller child) (nat_eq rec.attr BY_CHILD_CONTROLLER) meant.0 (child_attr rec.attr (legal_row (is_of_child handle agent child) place row) meant.1))))

-- what an answer gives, if what it is equal to does
pub mapped_ok : {T E : Type 0} (result : Result T E) (p q : T → Type 0) → ((value : T) → p value → q value) → IfOk result p → IfOk result q
mapped_ok (Ok value) p q to holds = to value holds
mapped_ok (Err error) p q to holds = tt
