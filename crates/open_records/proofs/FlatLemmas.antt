-- The records of one interface, and a rising list, which is given by the records of each.
use Rattle.std.proofs.Common.{◌≡◌, ℕ, Bool, true, false, not, List, [], ◌∷◌, refl, sym, ap, ◌∙◌, inl, inr, filter, map}
use Rattle.std.specs.declared.cmp.Ordering.{Ordering}
use Rattle.std.specs.declared.cmp.Ordering.TheVariants.{Less, Equal, Greater}
use Rattle.std.specs.List.{list_any}
use Rattle.std.specs.Ordering.{is_eq, is_gt, is_lt}
use Rattle.std.proofs.lemmas.Bool.{and_parts, both_ways, cases_Bool, not-true, or_from, or_parts}
use Rattle.std.proofs.lemmas.Cmp.{eq_by_cmp_equiv, tied_itself}
use Rattle.open_records.specs.Interfaces.{Interface, interface_cmp, interface_of, keyed}
use Rattle.open_records.specs.Keyed.{falls, is_of, records_of, rise}
use Rattle.open_records.specs.declared.open_record.KeyedRecord.{KeyedRecord}
use Rattle.open_records.specs.declared.open_record.Rec.{Rec}
use Rattle.open_records.proofs.Order.{flipped, of_is_eq, of_itself, same_from_of, total}

-- ---- the records of one interface

module _ (interface : Interface) where
  pub row_none : (p : KeyedRecord → Bool) → ((rec : Rec) → p (keyed interface rec) ≡ false) → (records : List Rec) → list_any p (map (keyed interface) records) ≡ false
  row_none p all [] = refl
  row_none p all (rec ∷ records) = or_from (p (keyed interface rec)) (list_any p (map (keyed interface) records)) (all rec) (row_none p all records)

  -- no record of the interface comes before another
  level : (rec other : Rec) → falls (keyed interface rec) (keyed interface other) ≡ false
  level rec other = ap is_lt (tied_itself total interface)

-- ---- a rising list is given by the records of each interface

-- the records of an interface, with the interface again
pub of_records : (handle : ℕ) (guid : List ℕ) (entries : List KeyedRecord) → filter (is_of handle guid) entries ≡ map (keyed (handle, guid)) (records_of entries handle guid)
of_records handle guid [] = refl
of_records handle guid (one ∷ entries) = elim (cases_Bool (is_of handle guid one)) [
  | inl on ↦
      let same = same_from_of handle guid one on in
      let first : one ≡ record { handle = handle; guid = guid; rec = one.rec } = ap (λ h. record one { handle = h }) same.same_handle ∙ ap (λ g. record { handle = handle; guid = g; rec = one.rec }) same.same_guid in
      rw on (ap (λ (x : KeyedRecord). x ∷ filter (is_of handle guid) entries) first ∙ ap (λ l. record { handle = handle; guid = guid; rec = one.rec } ∷ l) (of_records handle guid entries))
  | inr off ↦ rw off (of_records handle guid entries)
]

-- what no element of a list passes, no element of its filters does
head_of_filter : (p q : KeyedRecord → Bool) (x : KeyedRecord) (l zs : List KeyedRecord) → filter p zs ≡ x ∷ l → list_any q zs ≡ false → q x ≡ false
head_of_filter p q x l [] is none = absurd cc
head_of_filter p q x l (z ∷ zs) is none =
    let parts = or_parts (q z) (list_any q zs) none in
    elim (cases_Bool (p z)) [
      | inl passes ↦
          let heads : z ∷ filter p zs ≡ x ∷ l = rw passes at is in
          let first : z ≡ x = cc in
          ap q (sym first) ∙ parts.0
      | inr fails ↦ head_of_filter p q x l zs (rw fails at is) parts.1
    ]

pub neither : (o : Ordering) → is_lt o ≡ false → is_gt o ≡ false → is_eq o ≡ true
neither Less lt gt = absurd cc
neither Equal lt gt = refl
neither Greater lt gt = absurd cc

abbrev pub SameEach : List KeyedRecord → List KeyedRecord → Type 0
SameEach xs ys = (handle : ℕ) (guid : List ℕ) → filter (is_of handle guid) xs ≡ filter (is_of handle guid) ys

tails_same : (x : KeyedRecord) (xs ys : List KeyedRecord) → SameEach (x ∷ xs) (x ∷ ys) → SameEach xs ys
tails_same x xs ys same handle guid = elim (cases_Bool (is_of handle guid x)) [
  | inl on ↦ let both : x ∷ filter (is_of handle guid) xs ≡ x ∷ filter (is_of handle guid) ys = rw on at (same handle guid) in cc
  | inr off ↦ rw off at (same handle guid)
]

-- the first of one list comes no later than the first of the other
not_before : (x y : KeyedRecord) (xs ys : List KeyedRecord) → SameEach (x ∷ xs) (y ∷ ys) → is_of x.handle x.guid y ≡ false → list_any (falls y) ys ≡ false → falls y x ≡ false
not_before x y xs ys same off none =
    let both : filter (is_of x.handle x.guid) ys ≡ x ∷ filter (is_of x.handle x.guid) xs = sym (rw (of_itself x, off) at (same x.handle x.guid)) in
    head_of_filter (is_of x.handle x.guid) (falls y) x (filter (is_of x.handle x.guid) xs) ys both none

heads_same : (x y : KeyedRecord) (xs ys : List KeyedRecord) → rise (x ∷ xs) ≡ true → rise (y ∷ ys) ≡ true → SameEach (x ∷ xs) (y ∷ ys) → x ≡ y
heads_same x y xs ys up too same = elim (cases_Bool (is_of x.handle x.guid y)) [
  | inl on ↦
      let both : x ∷ filter (is_of x.handle x.guid) xs ≡ y ∷ filter (is_of x.handle x.guid) ys = rw (of_itself x, on) at (same x.handle x.guid) in
      cc
  | inr off ↦
      let first = and_parts (not (list_any (falls x) xs)) (rise xs) up in
      let second = and_parts (not (list_any (falls y) ys)) (rise ys) too in
      let flip : is_of y.handle y.guid x ≡ is_of x.handle x.guid y = of_is_eq y.handle y.guid x ∙ (eq_by_cmp_equiv total).symm (interface_of x) (interface_of y) ∙ sym (of_is_eq x.handle x.guid y) in
      let low : is_lt (interface_cmp (interface_of x) (interface_of y)) ≡ false = not_before x y xs ys same off (not-true _ second.0) in
      let high : is_lt (interface_cmp (interface_of y) (interface_of x)) ≡ false = not_before y x ys xs (λ h g. sym (same h g)) (flip ∙ off) (not-true _ first.0) in
      let tied = neither (interface_cmp (interface_of y) (interface_of x)) high (sym (flipped (interface_of x) (interface_of y)) ∙ low) in
      absurd (both_ways _ off (of_is_eq x.handle x.guid y ∙ tied))
]

pub same_filters : (xs ys : List KeyedRecord) → rise xs ≡ true → rise ys ≡ true → SameEach xs ys → xs ≡ ys
same_filters [] [] up too same = refl
same_filters [] (y ∷ ys) up too same = let none : [] ≡ y ∷ filter (is_of y.handle y.guid) ys = rw (of_itself y) at (same y.handle y.guid) in absurd cc
same_filters (x ∷ xs) [] up too same = let none : x ∷ filter (is_of x.handle x.guid) xs ≡ [] = rw (of_itself x) at (same x.handle x.guid) in absurd cc
same_filters (x ∷ xs) (y ∷ ys) up too same =
    let first = and_parts (not (list_any (falls x) xs)) (rise xs) up in
    let second = and_parts (not (list_any (falls y) ys)) (rise ys) too in
    let head = heads_same x y xs ys up too same in
    let tails : SameEach xs ys = tails_same x xs ys (λ h g. same h g ∙ ap (λ (z : KeyedRecord). filter (is_of h g) (z ∷ ys)) (sym head)) in
    ap (λ (z : KeyedRecord). z ∷ xs) head ∙ ap (λ l. y ∷ l) (same_filters xs ys first.1 second.1 tails)
