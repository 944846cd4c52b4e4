-- The keys between two bounds, and the interfaces of a handle.
use Rattle.std.proofs.Common.{◌≡◌, ◌<◌, ℕ, suc, true, false, List, [], ◌∷◌, map, Some, refl, sym, ap, subst, ◌∙◌, inl, inr, arith}
use Rattle.std.specs.Prelude.{Err, IfOk, Ok, Result, Vec, option_map, slice_get}
use Rattle.std.specs.declared.alloc.Global.{Global}
use Rattle.std.specs.declared.cmp.Ordering.{Ordering}
use Rattle.std.specs.declared.cmp.Ordering.TheVariants.{Less, Greater}
use Rattle.std.specs.declared.ops.Bound.{Bound}
use Rattle.std.specs.declared.ops.Bound.TheVariants.{Excluded, Included, Unbounded}
use Rattle.std.specs.BTreeMap as tree
use Rattle.std.specs.BTreeMap.Range.{entries_between, is_from_start, is_past_end, range_contains}
use Rattle.std.specs.Map.{keys_of, lookup}
use Rattle.std.specs.Ordering.{nat_cmp}
use Rattle.std.proofs.lemmas.Bool.{cases_Bool, or_cases}
use Rattle.std.proofs.lemmas.Bool.Decides.{nat_tests}
use Rattle.std.proofs.lemmas.Option.{slice_get-map}
use Rattle.open_records.proofs.KeyLemmas.{is_equal_by}
use Rattle.std.specs.List.{list_any}
use Rattle.open_records.specs.Interfaces.{Interface, interface_cmp, interface_of}
use Rattle.open_records.specs.Keyed.{is_of}
use Rattle.open_records.specs.declared.open_record.KeyedRecord.{KeyedRecord}
use Rattle.open_records.proofs.Order.{same_from_of}
use Rattle.record_rows.specs.Inside.{AreMarked, BeginsBefore, EndsAfter, HasNumber, HasProtocols, lines_of}
use Rattle.record_rows.specs.Numbers.{HasBetween, IsExact, IsNumbered}
use Rattle.record_rows.specs.Rows.{Line}
use Rattle.record_rows.specs.declared.cutters.Mark.{Mark}
use Rattle.record_rows.proofs.CutLemmas.{by_first, firsts}

module _ {K : Type 0} (cmp : K → K → Ordering) (low high : Bound K) where
  in_between : (entries : List (K × ℕ)) (key : K) (number : ℕ) → IsExact cmp → lookup (tree.is_at (cmp key)) entries ≡ Some number → range_contains cmp low high key ≡ true
      → (place : ℕ) × (slice_get (keys_of (entries_between cmp low high entries)) place ≡ Some key)
  in_between [] key number exact is within = absurd cc
  in_between (entry ∷ entries) key number exact is within = elim (cases_Bool (tree.is_at (cmp key) entry.0)) [
    | inl on ↦
        let same : key ≡ entry.0 = exact key entry.0 (is_equal_by (cmp key entry.0) on) in
        let here : range_contains cmp low high entry.0 ≡ true = ap (range_contains cmp low high) (sym same) ∙ within in
        (0, rw here (ap Some (sym same)))
    | inr off ↦
        let later : lookup (tree.is_at (cmp key)) entries ≡ Some number = rw off at is in
        let rest = in_between entries key number exact later within in
        elim (cases_Bool (range_contains cmp low high entry.0)) [
          | inl kept ↦ (suc rest.0, rw kept rest.1)
          | inr left ↦ (rest.0, rw left rest.1)
        ]
  ]

  pub has_between : (numbers : tree.BTreeMap K ℕ) (owners keys : List K) → IsExact cmp → IsNumbered cmp numbers owners → keys ≡ keys_of (entries_between cmp low high numbers.entries) → HasBetween cmp low high owners keys
  has_between numbers owners keys exact are is = record {
    each = λ key number at within.
        (let there = in_between numbers.entries key number exact (are.all key number at) within in
        (there.0, ap (λ (list : List K). slice_get list there.0) is ∙ there.1));
  }

-- ---- the bounds of a handle

less : (a b : Interface) → a.0 < b.0 → interface_cmp a b ≡ Less
less a b lt = let first : nat_cmp a.0 b.0 ≡ Less = grind (arith, nat_tests, lt) in rw first refl

greater : (a b : Interface) → b.0 < a.0 → interface_cmp a b ≡ Greater
greater a b lt = let first : nat_cmp a.0 b.0 ≡ Greater = grind (arith, nat_tests, lt) in rw first refl

from_start : (handle : ℕ) (low : Bound Interface) (guid : List ℕ) → BeginsBefore handle low → is_from_start interface_cmp low (handle, guid) ≡ true
from_start handle Unbounded guid begins = refl
from_start handle (Included a) guid begins = rw (less a (handle, guid) begins) refl
from_start handle (Excluded a) guid begins = rw (less a (handle, guid) begins) refl

not_past : (handle : ℕ) (high : Bound Interface) (guid : List ℕ) → EndsAfter handle high → is_past_end interface_cmp high (handle, guid) ≡ false
not_past handle Unbounded guid ends = refl
not_past handle (Included b) guid ends = rw (greater b (handle, guid) ends) refl
not_past handle (Excluded b) guid ends = rw (greater b (handle, guid) ends) refl

within_handle : (handle : ℕ) (low high : Bound Interface) (guid : List ℕ) → BeginsBefore handle low → EndsAfter handle high → range_contains interface_cmp low high (handle, guid) ≡ true
within_handle handle low high guid begins ends = rw (from_start handle low guid begins, not_past handle high guid ends) refl

pub has_protocols : (handle : ℕ) (low high : Bound Interface) (classes : List (Interface × (ℕ × ℕ))) (interfaces : List Interface) (guids : List (List ℕ)) → BeginsBefore handle low → EndsAfter handle high
    → HasBetween interface_cmp low high (firsts classes) interfaces → guids ≡ map (λ (interface : Interface). interface.1) interfaces → HasProtocols handle classes guids
has_protocols handle low high classes interfaces guids begins ends has are = record { each = each }
  where
    each : (guid : List ℕ) (number : ℕ) → HasNumber classes (handle, guid) number → (place : ℕ) × (slice_get guids place ≡ Some guid)
    each guid number is =
        let there = has.each (handle, guid) number (by_first classes number ∙ is) (within_handle handle low high guid begins ends) in
        (there.0, ap (λ (list : List (List ℕ)). slice_get list there.0) are ∙ slice_get-map (λ (interface : Interface). interface.1) interfaces there.0 ∙ ap (option_map (λ (interface : Interface). interface.1)) there.1)

-- ---- what a call answers

pub if_between : {K E : Type 0} (cmp : K → K → Ordering) (low high : Bound K) (owners list : List K) (result : Result (Vec K Global) E)
    → HasBetween cmp low high owners list → IfOk result (λ (keys : Vec K Global). keys.items ≡ list) → IfOk result (λ (keys : Vec K Global). HasBetween cmp low high owners keys.items)
if_between cmp low high owners list (Ok keys) has is = subst (HasBetween cmp low high owners) (sym is) has
if_between cmp low high owners list (Err error) has is = tt

pub if_owners : {K E : Type 0} (cmp : K → K → Ordering) (low high : Bound K) (owners others : List K) (result : Result (Vec K Global) E)
    → owners ≡ others → IfOk result (λ (keys : Vec K Global). HasBetween cmp low high owners keys.items) → IfOk result (λ (keys : Vec K Global). HasBetween cmp low high others keys.items)
if_owners {K} cmp low high owners others (Ok keys) same has = subst (λ (list : List K). HasBetween cmp low high list keys.items) same has
if_owners cmp low high owners others (Err error) same has = tt

pub if_protocols : {E : Type 0} (handle : ℕ) (low high : Bound Interface) (classes : List (Interface × (ℕ × ℕ))) (interfaces : List Interface) (result : Result (Vec (List ℕ) Global) E)
    → BeginsBefore handle low → EndsAfter handle high → HasBetween interface_cmp low high (firsts classes) interfaces
    → IfOk result (λ (guids : Vec (List ℕ) Global). guids.items ≡ map (λ (interface : Interface). interface.1) interfaces) → IfOk result (λ (guids : Vec (List ℕ) Global). HasProtocols handle classes guids.items)
if_protocols handle low high classes interfaces (Ok guids) begins ends has are = has_protocols handle low high classes interfaces guids.items begins ends has are
if_protocols handle low high classes interfaces (Err error) begins ends has are = tt

-- ---- the interfaces of rows

-- an interface that a row is of has a number
number_of_row : (names : List (ℕ × ℕ)) (classes : List (Interface × (ℕ × ℕ))) (handle : ℕ) (guid : List ℕ) (records : List KeyedRecord) (marks : List Mark) → AreMarked names classes records marks
    → list_any (λ (line : Line). is_of handle guid line.keyed) (lines_of records marks) ≡ true → (number : ℕ) × HasNumber classes (handle, guid) number
number_of_row names classes handle guid [] marks are has = absurd cc
number_of_row names classes handle guid (one ∷ records) [] are has = absurd are
number_of_row names classes handle guid (one ∷ records) (mark ∷ marks) are has =
    elim (or_cases (is_of handle guid one) (list_any (λ (line : Line). is_of handle guid line.keyed) (lines_of records marks)) has) [
      | inl here ↦
          let by = same_from_of handle guid one here in
          let same : interface_of one ≡ (handle, guid) = ap (λ (h : ℕ). (h, one.guid)) by.same_handle ∙ ap (λ (g : List ℕ). (handle, g)) by.same_guid in
          (mark.interface, subst (λ (interface : Interface). HasNumber classes interface mark.interface) same are.0.interface)
      | inr later ↦ number_of_row names classes handle guid records marks are.1 later
    ]

pub if_rows : {E : Type 0} (names : List (ℕ × ℕ)) (classes : List (Interface × (ℕ × ℕ))) (handle : ℕ) (records : List KeyedRecord) (marks : List Mark) (result : Result (Vec (List ℕ) Global) E)
    → AreMarked names classes records marks → IfOk result (λ (guids : Vec (List ℕ) Global). HasProtocols handle classes guids.items)
    → IfOk result (λ (guids : Vec (List ℕ) Global). (guid : List ℕ) → list_any (λ (line : Line). is_of handle guid line.keyed) (lines_of records marks) ≡ true → (number : ℕ) × (slice_get guids.items number ≡ Some guid))
if_rows names classes handle records marks (Ok guids) are has = λ guid is. (let by = number_of_row names classes handle guid records marks are is in has.each guid by.0 by.1)
if_rows names classes handle records marks (Err error) are has = tt
