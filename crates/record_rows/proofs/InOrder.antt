-- Records in order of their making, put in order of interfaces.
use Rattle.std.proofs.Common.{◌≡◌, ◌+◌, ℕ, Bool, true, false, ◌&&◌, List, [], ◌∷◌, ◌++◌, length, filter, map, refl, sym, ap, subst, ◌∙◌, inl, inr, append_assoc, length-append, arith}
use Rattle.std.proofs.lemmas.Bool.{cases_Bool}
use Rattle.std.proofs.lemmas.List.{append-nil}
use Rattle.std.proofs.lemmas.List.Elements.{filter-append}
use Rattle.open_records.specs.Changing.{with_new}
use Rattle.open_records.specs.Keyed.{falls, is_after, is_before, is_of, records_of, rise}
use Rattle.open_records.specs.declared.open_record.KeyedRecord.{KeyedRecord}
use Rattle.open_records.proofs.FlatLemmas.{same_filters}
use Rattle.open_records.proofs.ListLemmas.{any_filtered, filter_both, filter_none, filter-map, no_pair-filter, no_pair-map}
use Rattle.open_records.proofs.RangeLemmas.{three_parts}
use Rattle.open_records.proofs.WithLemmas.{rising_with, with_pushed}
use Rattle.open_records.proofs.Order.{after-not_here, same_from_of}
use Rattle.record_rows.specs.Rows.{in_order, put_in_order}

-- ---- one more record

pub rise_new : (one : KeyedRecord) (entries : List KeyedRecord) → rise entries ≡ true → rise (with_new one entries) ≡ true
rise_new one entries up =
    ap rise (sym (with_pushed one entries)) ∙ rising_with one.handle one.guid entries up (records_of entries one.handle one.guid ++ one.rec ∷ [])

module _ (one : KeyedRecord) (entries : List KeyedRecord) (up : rise entries ≡ true) where
  abbrev front : List KeyedRecord
  front = filter (is_before one.handle one.guid) entries

  abbrev mine : List KeyedRecord
  mine = filter (is_of one.handle one.guid) entries

  abbrev back : List KeyedRecord
  back = filter (is_after one.handle one.guid) entries

  parts : entries ≡ front ++ (mine ++ back)
  parts = three_parts one.handle one.guid entries up

  pub length_new : length (with_new one entries) ≡ length entries + 1
  length_new =
      let all : length entries ≡ length (front ++ (mine ++ back)) = ap length parts in
      omega (arith, all, length-append front (mine ++ back), length-append mine back, length-append front (mine ++ one ∷ back), length-append mine (one ∷ back))

  module _ (handle : ℕ) (guid : List ℕ) where
    abbrev here : KeyedRecord → Bool
    here other = is_of handle guid other

    -- those of an interface in the three parts, with the new one
    split_new : filter here (with_new one entries) ≡ filter here front ++ (filter here mine ++ filter here (one ∷ back))
    split_new = filter-append here front (mine ++ one ∷ back) ∙ ap (λ l. filter here front ++ l) (filter-append here mine (one ∷ back))

    split_old : filter here entries ≡ filter here front ++ (filter here mine ++ filter here back)
    split_old = ap (filter here) parts ∙ filter-append here front (mine ++ back) ∙ ap (λ l. filter here front ++ l) (filter-append here mine back)

    none_after : here one ≡ true → filter here back ≡ []
    none_after on =
        let same = same_from_of handle guid one on in
        filter_none here back (any_filtered (is_after one.handle one.guid) here entries
        (λ x late. subst (λ (h : ℕ). is_of h guid x ≡ false) same.same_handle (subst (λ (g : List ℕ). is_of one.handle g x ≡ false) same.same_guid (after-not_here one.handle one.guid x late))))

    pub of_new : filter here (with_new one entries) ≡ filter here entries ++ filter here (one ∷ [])
    of_new = elim (cases_Bool (here one)) [
      | inl on ↦
          let none = none_after on in
          let last : filter here (one ∷ back) ≡ one ∷ [] = rw (on, none) refl in
          let new : filter here (one ∷ []) ≡ one ∷ [] = rw on refl in
          split_new ∙ ap (λ l. filter here front ++ (filter here mine ++ l)) last
          ∙ sym (append_assoc (filter here front) (filter here mine) (one ∷ []))
          ∙ ap (λ l. l ++ one ∷ []) (ap (λ l. filter here front ++ l) (sym (append-nil (filter here mine))) ∙ ap (λ l. filter here front ++ (filter here mine ++ l)) (sym none) ∙ sym split_old)
          ∙ ap (λ l. filter here entries ++ l) (sym new)
      | inr off ↦
          let last : filter here (one ∷ back) ≡ filter here back = rw off refl in
          let new : filter here (one ∷ []) ≡ [] = rw off refl in
          split_new ∙ ap (λ l. filter here front ++ (filter here mine ++ l)) last ∙ sym split_old ∙ sym (append-nil (filter here entries)) ∙ ap (λ l. filter here entries ++ l) (sym new)
    ]

-- ---- all of them

pub rise_from : (records entries : List KeyedRecord) → rise entries ≡ true → rise (put_in_order entries records) ≡ true
rise_from [] entries up = up
rise_from (one ∷ later) entries up = rise_from later (with_new one entries) (rise_new one entries up)

pub rise_in_order : (records : List KeyedRecord) → rise (in_order records) ≡ true
rise_in_order records = rise_from records [] refl

length_from : (records entries : List KeyedRecord) → rise entries ≡ true → length (put_in_order entries records) ≡ length entries + length records
length_from [] entries up = omega arith
length_from (one ∷ later) entries up =
    let rest = length_from later (with_new one entries) (rise_new one entries up) in
    omega (arith, rest, length_new one entries up)

pub length_in_order : (records : List KeyedRecord) → length (in_order records) ≡ length records
length_in_order records = let all = length_from records [] refl in omega (arith, all)

of_from : (records entries : List KeyedRecord) → rise entries ≡ true → (handle : ℕ) (guid : List ℕ)
    → filter (is_of handle guid) (put_in_order entries records) ≡ filter (is_of handle guid) entries ++ filter (is_of handle guid) records
of_from [] entries up handle guid = sym (append-nil (filter (is_of handle guid) entries))
of_from (one ∷ later) entries up handle guid =
    let here : KeyedRecord → Bool = is_of handle guid in
    of_from later (with_new one entries) (rise_new one entries up) handle guid
    ∙ ap (λ l. l ++ filter here later) (of_new one entries up handle guid)
    ∙ append_assoc (filter here entries) (filter here (one ∷ [])) (filter here later)
    ∙ ap (λ l. filter here entries ++ l) (sym (filter-append here (one ∷ []) later))

-- the records of an interface are as they were made
pub of_in_order : (records : List KeyedRecord) (handle : ℕ) (guid : List ℕ) → filter (is_of handle guid) (in_order records) ≡ filter (is_of handle guid) records
of_in_order records handle guid = of_from records [] refl handle guid

pub records_in_order : (records : List KeyedRecord) (handle : ℕ) (guid : List ℕ) → records_of (in_order records) handle guid ≡ map (λ (one : KeyedRecord). one.rec) (filter (is_of handle guid) records)
records_in_order records handle guid = ap (map (λ (one : KeyedRecord). one.rec)) (of_in_order records handle guid)

-- one more record
put-append : (records later entries : List KeyedRecord) → put_in_order entries (records ++ later) ≡ put_in_order (put_in_order entries records) later
put-append [] later entries = refl
put-append (one ∷ records) later entries = put-append records later (with_new one entries)

pub in_order-pushed : (records : List KeyedRecord) (one : KeyedRecord) → in_order (records ++ one ∷ []) ≡ with_new one (in_order records)
in_order-pushed records one = put-append records (one ∷ []) []

-- ---- fewer records, and other ones

filter_swap : (p q : KeyedRecord → Bool) (xs : List KeyedRecord) → filter p (filter q xs) ≡ filter q (filter p xs)
filter_swap p q xs =
    filter_both q p (λ (x : KeyedRecord). q x && p x) xs (λ x. refl) ∙ sym (filter_both p q (λ (x : KeyedRecord). q x && p x) xs (λ x. both (q x) (p x)))
  where
    both : (a b : Bool) → (a && b) ≡ (b && a)
    both true true = refl
    both true false = refl
    both false true = refl
    both false false = refl

pub in_order-filter : (p : KeyedRecord → Bool) (records : List KeyedRecord) → in_order (filter p records) ≡ filter p (in_order records)
in_order-filter p records =
    same_filters (in_order (filter p records)) (filter p (in_order records)) (rise_in_order (filter p records)) (no_pair-filter falls p (in_order records) (rise_in_order records))
    (λ handle guid.
    of_in_order (filter p records) handle guid ∙ filter_swap (is_of handle guid) p records
    ∙ ap (filter p) (sym (of_in_order records handle guid)) ∙ filter_swap p (is_of handle guid) (in_order records))

pub in_order-map : (f : KeyedRecord → KeyedRecord) → ((handle : ℕ) (guid : List ℕ) (one : KeyedRecord) → is_of handle guid (f one) ≡ is_of handle guid one)
    → ((one other : KeyedRecord) → falls (f one) (f other) ≡ falls one other) → (records : List KeyedRecord) → in_order (map f records) ≡ map f (in_order records)
in_order-map f keeps level records =
    same_filters (in_order (map f records)) (map f (in_order records)) (rise_in_order (map f records)) (no_pair-map falls f (in_order records) level ∙ rise_in_order records)
    (λ handle guid.
    of_in_order (map f records) handle guid ∙ of_map handle guid records ∙ ap (map f) (sym (of_in_order records handle guid)) ∙ sym (of_map handle guid (in_order records)))
  where
    filter_same : (p q : KeyedRecord → Bool) (xs : List KeyedRecord) → ((x : KeyedRecord) → p x ≡ q x) → filter p xs ≡ filter q xs
    filter_same p q [] same = refl
    filter_same p q (x ∷ xs) same = rw (same x, filter_same p q xs same) refl

    of_map : (handle : ℕ) (guid : List ℕ) (xs : List KeyedRecord) → filter (is_of handle guid) (map f xs) ≡ map f (filter (is_of handle guid) xs)
    of_map handle guid xs = filter-map f (is_of handle guid) xs ∙ ap (map f) (filter_same (λ x. is_of handle guid (f x)) (is_of handle guid) xs (keeps handle guid))
