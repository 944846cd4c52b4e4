-- What is collected with the records of one more protocol.
use Rattle.std.proofs.Common.{◌≡◌, ◌<◌, ◌≤◌, ℕ, suc, Bool, true, false, not, ◌&&◌, nat_eq, List, [], ◌∷◌, ◌++◌, length, map, filter, find, get_or, drop, Option, None, refl, sym, ap, ◌∙◌, inl, inr, arith}
use Rattle.std.specs.Int.RustNames.{bit_and}
use Rattle.std.specs.List.{list_any}
use Rattle.std.specs.Option.{option_to_list}
use Rattle.std.specs.Prelude.{is_some}
use Rattle.std.proofs.lemmas.Bool.{cases_Bool, eqb-true, eq-eqb, not-false}
use Rattle.std.proofs.lemmas.Nat.{and_assoc}
use Rattle.fw_types.specs.declared.attr.TheConstants.Attr.{BY_CHILD_CONTROLLER, BY_DRIVER, HOLDING_BITS}
use Rattle.std.proofs.Math.Seq.{drop-cons}
use Rattle.std.proofs.lemmas.List.{map-append}
use Rattle.std.proofs.lemmas.List.Elements.{filter-append}
use Rattle.open_records.specs.OpenRecords.{is_strong}
use Rattle.open_records.specs.Keyed.{records_of}
use Rattle.open_records.specs.Managing.{child_numbers, is_child, is_managing, manager_numbers, records_on}
use Rattle.open_records.specs.NumberLists.{joined}
use Rattle.open_records.specs.declared.open_record.KeyedRecord.{KeyedRecord}
use Rattle.open_records.specs.declared.open_record.Rec.{Rec}
use Rattle.open_records.specs.Records.{is_for_child}
use Rattle.open_records.specs.Leaving.{fits}
use Rattle.open_records.proofs.DistinctNumbers.{joined-append}
use Rattle.open_records.proofs.ListLemmas.{filter_both}

children-append : (agent : Option ℕ) (records more : List Rec) → child_numbers agent (records ++ more) ≡ child_numbers agent records ++ child_numbers agent more
children-append agent records more = ap (map (λ (rec : Rec). rec.controller)) (filter-append (is_child agent) records more) ∙ map-append (λ (rec : Rec). rec.controller) (filter (is_child agent) records) (filter (is_child agent) more)

managers-append : (records more : List Rec) → manager_numbers (records ++ more) ≡ manager_numbers records ++ manager_numbers more
managers-append records more = ap (map (λ (rec : Rec). rec.agent)) (filter-append is_managing records more) ∙ map-append (λ (rec : Rec). rec.agent) (filter is_managing records) (filter is_managing more)

-- what is found with the records of one more protocol
module _ (entries : List KeyedRecord) (handle : ℕ) (protocols : List (List ℕ × ℕ × ℕ)) (i : ℕ) (protocol : List ℕ × ℕ × ℕ) (within : i < length protocols) (here : protocol ≡ get_or protocols i protocol) where
  rest : records_on entries handle (drop i protocols) ≡ records_of entries handle protocol.0 ++ records_on entries handle (drop (suc i) protocols)
  rest = ap (records_on entries handle) (drop-cons protocols i protocol within ∙ ap (λ (p : List ℕ × ℕ × ℕ). p ∷ drop (suc i) protocols) (sym here))

  pub children_at : (agent : Option ℕ) (found : List ℕ) → joined found (child_numbers agent (records_on entries handle (drop i protocols))) ≡ joined (joined found (child_numbers agent (records_of entries handle protocol.0))) (child_numbers agent (records_on entries handle (drop (suc i) protocols)))
  children_at agent found =
      ap (λ l. joined found (child_numbers agent l)) rest ∙ ap (joined found) (children-append agent (records_of entries handle protocol.0) (records_on entries handle (drop (suc i) protocols)))
      ∙ joined-append found (child_numbers agent (records_of entries handle protocol.0)) (child_numbers agent (records_on entries handle (drop (suc i) protocols)))

  pub managers_at : (found : List ℕ) → joined found (manager_numbers (records_on entries handle (drop i protocols))) ≡ joined (joined found (manager_numbers (records_of entries handle protocol.0))) (manager_numbers (records_on entries handle (drop (suc i) protocols)))
  managers_at found =
      ap (λ l. joined found (manager_numbers l)) rest ∙ ap (joined found) (managers-append (records_of entries handle protocol.0) (records_on entries handle (drop (suc i) protocols)))
      ∙ joined-append found (manager_numbers (records_of entries handle protocol.0)) (manager_numbers (records_on entries handle (drop (suc i) protocols)))

-- ---- the one record that may have BY_DRIVER

weak_agent : (rec : Rec) → is_strong rec ≡ false → is_managing rec ≡ false
weak_agent rec weak =
    let none : bit_and rec.attr HOLDING_BITS ≡ 0 = eqb-true (bit_and rec.attr HOLDING_BITS) 0 (not-false (nat_eq (bit_and rec.attr HOLDING_BITS) 0) weak) in
    let driver : bit_and rec.attr BY_DRIVER ≡ 0 = sym (and_assoc BY_DRIVER rec.attr HOLDING_BITS) ∙ ap (λ n. bit_and n BY_DRIVER) none in
    ap not (eq-eqb (bit_and rec.attr BY_DRIVER) 0 driver)

none_managing : (records : List Rec) → length (filter is_strong records) ≡ 0 → filter is_managing records ≡ []
none_managing [] none = refl
none_managing (rec ∷ records) none = elim (cases_Bool (is_strong rec)) [
  | inl strong ↦ let more : suc (length (filter is_strong records)) ≡ 0 = rw strong at none in absurd (omega arith)
  | inr weak ↦ let rest : length (filter is_strong records) ≡ 0 = rw weak at none in rw (weak_agent rec weak) (none_managing records rest)
]

-- if at most one record has BY_DRIVER or EXCLUSIVE, only that one may manage
pub managing_is : (records : List Rec) → length (filter is_strong records) ≤ 1 → manager_numbers (option_to_list (find is_strong records)) ≡ manager_numbers records
managing_is records one = ap (map (λ (rec : Rec). rec.agent)) (by_filter records one)
  where
    by_filter : (records : List Rec) → length (filter is_strong records) ≤ 1 → filter is_managing (option_to_list (find is_strong records)) ≡ filter is_managing records
    by_filter [] one = refl
    by_filter (rec ∷ records) one = elim (cases_Bool (is_strong rec)) [
      | inl strong ↦
          let most : suc (length (filter is_strong records)) ≤ 1 = rw strong at one in
          let none = none_managing records (omega arith) in
          rw (strong, none) refl
      | inr weak ↦
          let rest : length (filter is_strong records) ≤ 1 = rw weak at one in
          rw (weak, weak_agent rec weak) (by_filter records rest)
    ]

found-any : (test : Rec → Bool) (records : List Rec) → is_some (find test records) ≡ list_any test records
found-any test [] = refl
found-any test (rec ∷ records) = elim (cases_Bool (test rec)) [
  | inl passes ↦ rw passes refl
  | inr fails ↦ rw fails (found-any test records)
]

-- if a test fails on all records without BY_DRIVER and EXCLUSIVE, only that one may pass it
module _ (test : Rec → Bool) (weak_fails : (rec : Rec) → is_strong rec ≡ false → test rec ≡ false) where
  found_none : (records : List Rec) → length (filter is_strong records) ≡ 0 → find test records ≡ None
  found_none [] none = refl
  found_none (rec ∷ records) none = elim (cases_Bool (is_strong rec)) [
    | inl strong ↦ let more : suc (length (filter is_strong records)) ≡ 0 = rw strong at none in absurd (omega arith)
    | inr weak ↦ let rest : length (filter is_strong records) ≡ 0 = rw weak at none in rw (weak_fails rec weak) (found_none records rest)
  ]

  pub found_is : (records : List Rec) → length (filter is_strong records) ≤ 1 → find test (option_to_list (find is_strong records)) ≡ find test records
  found_is [] one = refl
  found_is (rec ∷ records) one = elim (cases_Bool (is_strong rec)) [
    | inl strong ↦
        let most : suc (length (filter is_strong records)) ≤ 1 = rw strong at one in
        let none = found_none records (omega arith) in
        rw (strong, none) refl
    | inr weak ↦
        let rest : length (filter is_strong records) ≤ 1 = rw weak at one in
        rw (weak, weak_fails rec weak) (found_is records rest)
  ]

  pub any_is : (records : List Rec) → length (filter is_strong records) ≤ 1 → list_any test (option_to_list (find is_strong records)) ≡ list_any test records
  any_is records one =
      sym (found-any test (option_to_list (find is_strong records))) ∙ ap is_some (found_is records one) ∙ found-any test records

pub manager_is : (records : List Rec) → length (filter is_strong records) ≤ 1 → find is_managing (option_to_list (find is_strong records)) ≡ find is_managing records
manager_is = found_is is_managing weak_agent

-- ---- only the BY_CHILD_CONTROLLER records

pub of_children : (agent : Option ℕ) (records : List Rec) → child_numbers agent (filter is_for_child records) ≡ child_numbers agent records
of_children agent records =
    ap (map (λ (rec : Rec). rec.controller))
    (filter_both is_for_child (is_child agent) (is_child agent) records (λ rec. by_bool (nat_eq rec.attr BY_CHILD_CONTROLLER) (fits agent rec.agent) (not (nat_eq rec.controller 0))))
  where
    by_bool : (a b c : Bool) → ((a && b) && c) ≡ (a && ((a && b) && c))
    by_bool true b c = refl
    by_bool false b c = refl
