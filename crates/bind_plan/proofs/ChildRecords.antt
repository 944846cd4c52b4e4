-- The children of an agent on a controller, and its records for one of them.
use Rattle.std.proofs.Common.{◌≡◌, ℕ, Bool, true, false, not, ◌&&◌, ◌||◌, nat_eq, List, [], ◌∷◌, refl, sym, ap, ◌∙◌, inl, inr, arith}
use Rattle.std.specs.Prelude.{Some, filter, if◌then◌else◌}
use Rattle.std.specs.List.{list_all, list_any}
use Rattle.std.proofs.lemmas.Bool.{and_from, and_parts, cases_Bool, eq-eqb, eqb-true, not-true}
use Rattle.std.proofs.lemmas.Bool.Decides.{nat_tests}
use Rattle.std.proofs.lemmas.List.Folds.{list_all-append}
use Rattle.std.proofs.lemmas.Map.Views.{any-filter_same}
use Rattle.fw_types.specs.Attr.{has_bit_of, is_legal, legal_attributes}
use Rattle.fw_types.specs.declared.attr.TheConstants.Attr.{BY_CHILD_CONTROLLER}
use Rattle.handle_db.specs.Database.{protocols_of}
use Rattle.open_records.specs.OpenRecords.{is_kept, is_of, records_of}
use Rattle.open_records.specs.Leaving.{is_meant}
use Rattle.open_records.specs.Managing.{child_numbers, is_child, once_each, records_on}
use Rattle.open_records.specs.declared.open_record.Rec.{Rec}
use Rattle.open_records.specs.declared.open_record.KeyedRecord.{KeyedRecord}
use Rattle.world_model.specs.World.{Soft}
use Rattle.world_model.specs.Kept.{IsKept}
use Rattle.driver_model.specs.StopOrder.{has_child}

-- ---- the attributes of records are legal, and only one legal attribute has the bit of a child

abbrev has_legal : Rec → Bool
has_legal rec = is_legal rec.attr

module _ (handle : ℕ) where
  legal_of : (guid : List ℕ) (entries : List KeyedRecord) → list_all is_kept entries ≡ true → list_all has_legal (records_of entries handle guid) ≡ true
  legal_of guid [] kept = refl
  legal_of guid (one ∷ entries) kept =
      let parts = and_parts (is_kept one) (list_all is_kept entries) kept in
      let legal = (and_parts (is_legal one.rec.attr) _ parts.0).0 in
      let later = legal_of guid entries parts.1 in
      elim (cases_Bool (is_of handle guid one)) [
        | inl here ↦ rw here (and_from (has_legal one.rec) (list_all has_legal (records_of entries handle guid)) legal later)
        | inr other ↦ rw other later
      ]

  legal_on : (entries : List KeyedRecord) (protocols : List (List ℕ × ℕ × ℕ)) → list_all is_kept entries ≡ true → list_all has_legal (records_on entries handle protocols) ≡ true
  legal_on entries [] kept = refl
  legal_on entries (protocol ∷ protocols) kept =
      list_all-append has_legal (records_of entries handle protocol.0) (records_on entries handle protocols)
      ∙ and_from (list_all has_legal (records_of entries handle protocol.0)) (list_all has_legal (records_on entries handle protocols))
      (legal_of protocol.0 entries kept) (legal_on entries protocols kept)

-- a test that holds for some numbers holds for each one of them
one_of : (test : ℕ → Bool) (number : ℕ) (numbers : List ℕ) → list_any (nat_eq number) numbers ≡ true → list_all test numbers ≡ true → test number ≡ true
one_of test number [] there all = cc
one_of test number (first ∷ numbers) there all =
    let parts = and_parts (test first) (list_all test numbers) all in
    elim (cases_Bool (nat_eq number first)) [
      | inl same ↦ ap test (eqb-true number first same) ∙ parts.0
      | inr other ↦ one_of test number numbers (rw other at there) parts.1
    ]

equal_by : (has is : Bool) → (if has then is else not is) ≡ true → has ≡ is
equal_by true true same = refl
equal_by true false same = sym same
equal_by false true same = same
equal_by false false same = refl

child_bit : (attr : ℕ) → is_legal attr ≡ true → has_bit_of BY_CHILD_CONTROLLER attr ≡ nat_eq attr BY_CHILD_CONTROLLER
child_bit attr legal =
    let same = λ (bits : ℕ). if has_bit_of BY_CHILD_CONTROLLER bits then nat_eq bits BY_CHILD_CONTROLLER else not (nat_eq bits BY_CHILD_CONTROLLER) in
    equal_by (has_bit_of BY_CHILD_CONTROLLER attr) (nat_eq attr BY_CHILD_CONTROLLER) (one_of same attr legal_attributes legal refl)

-- ---- one number among numbers that are each taken once

or_same : (first one other : Bool) → (first ≡ false → one ≡ other) → (first || one) ≡ (first || other)
or_same true one other same = refl
or_same false one other same = same refl

not-from : (b : Bool) → (b ≡ true → true ≡ false) → not b ≡ true
not-from true never = sym (never refl)
not-from false never = refl

any_once : (number : ℕ) (numbers : List ℕ) → list_any (nat_eq number) (once_each numbers) ≡ list_any (nat_eq number) numbers
any_once number [] = refl
any_once number (first ∷ numbers) =
    let others = λ (other : ℕ). not (nat_eq first other) in
    let stays : nat_eq number first ≡ false → (other : ℕ) → nat_eq number other ≡ true → others other ≡ true =
    λ apart other same. not-from (nat_eq first other) (λ equal. sym (eq-eqb number first (eqb-true number other same ∙ sym (eqb-true first other equal))) ∙ apart) in
    or_same (nat_eq number first) (list_any (nat_eq number) (filter others (once_each numbers))) (list_any (nat_eq number) numbers)
    (λ apart. any-filter_same (nat_eq number) others true (stays apart) (once_each numbers) ∙ any_once number numbers)

-- ---- one child

swapped : (attr owner null number : Bool) → (number ≡ true → null ≡ false) → (((attr && owner) && not null) && number) ≡ ((owner && number) && attr)
swapped true true true true apart = sym (apart refl)
swapped true true true false apart = refl
swapped true true false true apart = refl
swapped true true false false apart = refl
swapped true false null number apart = refl
swapped false true null true apart = refl
swapped false true null false apart = refl
swapped false false null number apart = refl

nat_eq-sym : (a b : ℕ) → nat_eq a b ≡ nat_eq b a
nat_eq-sym a b = grind (arith, nat_tests)

module _ (agent child : ℕ) (real : nat_eq child 0 ≡ false) where
  -- the records that make a number a child are those of the agent for it
  one_record : (rec : Rec) → has_legal rec ≡ true → (is_child (Some agent) rec && nat_eq child rec.controller) ≡ is_meant (Some agent) (Some child) BY_CHILD_CONTROLLER rec
  one_record rec legal =
      let apart : nat_eq child rec.controller ≡ true → nat_eq rec.controller 0 ≡ false =
      λ same. ap (λ (n : ℕ). nat_eq n 0) (sym (eqb-true child rec.controller same)) ∙ real in
      swapped (nat_eq rec.attr BY_CHILD_CONTROLLER) (nat_eq rec.agent agent) (nat_eq rec.controller 0) (nat_eq child rec.controller) apart
      ∙ ap (λ (b : Bool). (nat_eq rec.agent agent && b) && nat_eq rec.attr BY_CHILD_CONTROLLER) (nat_eq-sym child rec.controller)
      ∙ ap (λ (b : Bool). (nat_eq rec.agent agent && nat_eq rec.controller child) && b) (sym (child_bit rec.attr legal))

  any_child : (records : List Rec) → list_all has_legal records ≡ true
      → list_any (nat_eq child) (child_numbers (Some agent) records) ≡ list_any (is_meant (Some agent) (Some child) BY_CHILD_CONTROLLER) records
  any_child [] legal = refl
  any_child (rec ∷ records) legal =
      let parts = and_parts (has_legal rec) (list_all has_legal records) legal in
      let meant = is_meant (Some agent) (Some child) BY_CHILD_CONTROLLER in
      let later = any_child records parts.1 in
      elim (cases_Bool (is_child (Some agent) rec)) [
        | inl is ↦
            let here : nat_eq child rec.controller ≡ meant rec = rw is at (one_record rec parts.0) in
            rw is (ap (λ (b : Bool). b || list_any (nat_eq child) (child_numbers (Some agent) records)) here ∙ ap (λ (b : Bool). meant rec || b) later)
        | inr other ↦
            let none : false ≡ meant rec = rw other at (one_record rec parts.0) in
            rw other (later ∙ ap (λ (b : Bool). b || list_any meant records) none)
      ]

  pub child_by_record : (soft : Soft) (controller : ℕ) → IsKept soft
      → list_any (is_meant (Some agent) (Some child) BY_CHILD_CONTROLLER) (records_on soft.records.entries controller (protocols_of controller soft.database)) ≡ has_child controller child soft agent
  child_by_record soft controller kept =
      let records = records_on soft.records.entries controller (protocols_of controller soft.database) in
      sym (any_once child (child_numbers (Some agent) records) ∙ any_child records (legal_on controller soft.records.entries (protocols_of controller soft.database) kept.records.sound.kept))

-- 0 is not a child
no_null : (agent : ℕ) (records : List Rec) → list_any (nat_eq 0) (child_numbers (Some agent) records) ≡ false
no_null agent [] = refl
no_null agent (rec ∷ records) = elim (cases_Bool (is_child (Some agent) rec)) [
  | inl is ↦
      let apart : nat_eq 0 rec.controller ≡ false = nat_eq-sym 0 rec.controller ∙ not-true (nat_eq rec.controller 0) (and_parts _ _ is).1 in
      rw is (ap (λ (b : Bool). b || list_any (nat_eq 0) (child_numbers (Some agent) records)) apart ∙ no_null agent records)
  | inr other ↦ rw other (no_null agent records)
]

pub null_is_no_child : (soft : Soft) (controller agent : ℕ) → has_child controller 0 soft agent ≡ false
null_is_no_child soft controller agent =
    let records = records_on soft.records.entries controller (protocols_of controller soft.database) in
    any_once 0 (child_numbers (Some agent) records) ∙ no_null agent records
