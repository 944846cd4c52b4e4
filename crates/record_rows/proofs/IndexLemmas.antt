-- The places of the keys that pass a test, and the last of them.
use Rattle.std.proofs.Common.{◌≡◌, ◌+◌, ◌-◌, ◌<◌, ℕ, zero, suc, Bool, true, List, [], ◌∷◌, ◌++◌, length, take, Option, Some, None, refl, ap, subst, ◌∙◌, inl, inr, arith}
use Rattle.std.specs.Prelude.{slice_get, if◌then◌else◌}
use Rattle.std.proofs.lemmas.Bool.{cases_Bool}
use Rattle.std.proofs.lemmas.List.{length-append, take_at}
use Rattle.std.proofs.lemmas.Option.{slice_get_within}
use Rattle.record_rows.specs.Asking.{Rise}
use Rattle.record_rows.specs.Index.{RowKey, last_key, last_key_from, places_from, places_of}

-- a place, if a key passes
abbrev pub place_if : (RowKey → Bool) → ℕ → RowKey → List ℕ
place_if test place key = if test key then place ∷ [] else []

-- a place at which a key passes
pub record IsPassed (test : RowKey → Bool) (keys : List RowKey) (place : ℕ) : Type 0 where
  pub key : RowKey
  pub at : slice_get keys place ≡ Some key
  pub passes : test key ≡ true

-- ---- a list and its last element

pub without_pushed : {X : Type 0} (xs : List X) (x : X) → take (length (xs ++ x ∷ []) - 1) (xs ++ x ∷ []) ≡ xs
without_pushed xs x =
    let long : length xs ≡ length (xs ++ x ∷ []) - 1 = omega (arith, length-append xs (x ∷ [])) in
    take_at xs (x ∷ []) (length (xs ++ x ∷ []) - 1) long

-- ---- keys that pass a test

module _ (test : RowKey → Bool) where
  -- ---- one more key

  places_from_more : (place : ℕ) (keys : List RowKey) (key : RowKey) → places_from place test (keys ++ key ∷ []) ≡ places_from place test keys ++ place_if test (place + length keys) key
  places_from_more place [] key = let here : place ≡ place + 0 = omega arith in ap (λ (n : ℕ). place_if test n key) here
  places_from_more place (first ∷ keys) key =
      let last : (place + 1) + length keys ≡ place + suc (length keys) = omega arith in
      let rest : places_from (place + 1) test (keys ++ key ∷ []) ≡ places_from (place + 1) test keys ++ place_if test (place + suc (length keys)) key =
      places_from_more (place + 1) keys key ∙ ap (λ (n : ℕ). places_from (place + 1) test keys ++ place_if test n key) last in
      elim (cases_Bool (test first)) [
        | inl on ↦ rw on (ap (λ (l : List ℕ). place ∷ l) rest)
        | inr off ↦ rw off rest
      ]

  pub places_more : (keys : List RowKey) (key : RowKey) → places_of test (keys ++ key ∷ []) ≡ places_of test keys ++ place_if test (length keys) key
  places_more keys key =
      let last : 0 + length keys ≡ length keys = omega arith in
      places_from_more 0 keys key ∙ ap (λ (n : ℕ). places_of test keys ++ place_if test n key) last

  last_key_from_more : (place : ℕ) (found : Option ℕ) (keys : List RowKey) (key : RowKey)
      → last_key_from place found test (keys ++ key ∷ []) ≡ (if test key then Some (place + length keys) else last_key_from place found test keys)
  last_key_from_more place found [] key = let here : place ≡ place + 0 = omega arith in ap (λ (n : ℕ). if test key then Some n else found) here
  last_key_from_more place found (first ∷ keys) key =
      let last : (place + 1) + length keys ≡ place + suc (length keys) = omega arith in
      let before : Option ℕ = if test first then Some place else found in
      last_key_from_more (place + 1) before keys key ∙ ap (λ (n : ℕ). if test key then Some n else last_key_from (place + 1) before test keys) last

  pub last_key_more : (keys : List RowKey) (key : RowKey) → last_key test (keys ++ key ∷ []) ≡ (if test key then Some (length keys) else last_key test keys)
  last_key_more keys key =
      let last : 0 + length keys ≡ length keys = omega arith in
      last_key_from_more 0 None keys key ∙ ap (λ (n : ℕ). if test key then Some n else last_key test keys) last

  -- ---- the last place

  -- the last of some places, or one from before
  abbrev last_or : Option ℕ → List ℕ → Option ℕ
  last_or found [] = found
  last_or found (place ∷ places) = last_or (Some place) places

  last_of_places : (place : ℕ) (found : Option ℕ) (keys : List RowKey) → last_key_from place found test keys ≡ last_or found (places_from place test keys)
  last_of_places place found [] = refl
  last_of_places place found (first ∷ keys) = elim (cases_Bool (test first)) [
    | inl on ↦ rw on (last_of_places (place + 1) (Some place) keys)
    | inr off ↦ rw off (last_of_places (place + 1) found keys)
  ]

  last_or_at : (place : ℕ) (places : List ℕ) → last_or (Some place) places ≡ slice_get (place ∷ places) (length places)
  last_or_at place [] = refl
  last_or_at place (next ∷ places) = last_or_at next places

  last_at : (places : List ℕ) → last_or None places ≡ slice_get places (length places - 1)
  last_at [] = refl
  last_at (place ∷ places) = let same : length places ≡ suc (length places) - 1 = omega arith in last_or_at place places ∙ ap (slice_get (place ∷ places)) same

  -- the last key that passes is at the last place
  pub last_is_last : (keys : List RowKey) → last_key test keys ≡ slice_get (places_of test keys) (length (places_of test keys) - 1)
  last_is_last keys = last_of_places 0 None keys ∙ last_at (places_of test keys)

  -- ---- the places are those of the keys that pass

  record IsPassedFrom (first place : ℕ) (keys : List RowKey) : Type 0 where
    offset : ℕ
    is : place ≡ first + offset
    passed : IsPassed test keys offset

  one_later : (first : ℕ) (key : RowKey) (keys : List RowKey) (place : ℕ) → IsPassedFrom (first + 1) place keys → IsPassedFrom first place (key ∷ keys)
  one_later first key keys place by = record {
    offset = suc by.offset;
    is = omega (arith, by.is);
    passed = record { key = by.passed.key; at = by.passed.at; passes = by.passed.passes };
  }

  passed_from : (first : ℕ) (keys : List RowKey) (number place : ℕ) → slice_get (places_from first test keys) number ≡ Some place → IsPassedFrom first place keys
  passed_from first [] number place is = absurd cc
  passed_from first (key ∷ keys) number place is =
      let later = λ (n : ℕ) (at : slice_get (places_from (first + 1) test keys) n ≡ Some place). one_later first key keys place (passed_from (first + 1) keys n place at) in
      elim (cases_Bool (test key)) [
        | inl on ↦ let at : slice_get (first ∷ places_from (first + 1) test keys) number ≡ Some place = rw on at is in by_number later number at on
        | inr off ↦ let at : slice_get (places_from (first + 1) test keys) number ≡ Some place = rw off at is in later number at
      ]
    where
      by_number : ((n : ℕ) → slice_get (places_from (first + 1) test keys) n ≡ Some place → IsPassedFrom first place (key ∷ keys))
          → (n : ℕ) → slice_get (first ∷ places_from (first + 1) test keys) n ≡ Some place → test key ≡ true → IsPassedFrom first place (key ∷ keys)
      by_number later zero at on = let same : first ≡ place = cc in record { offset = 0; is = omega (arith, same); passed = record { key = key; at = refl; passes = on } }
      by_number later (suc n) at on = later n at

  pub place_passes : (keys : List RowKey) (number place : ℕ) → slice_get (places_of test keys) number ≡ Some place → IsPassed test keys place
  place_passes keys number place is =
      let by = passed_from 0 keys number place is in
      let same : by.offset ≡ place = omega (arith, by.is) in
      subst (IsPassed test keys) same by.passed

  -- ---- the places rise

  rises_from : (first : ℕ) (keys : List RowKey) (number other place later : ℕ) → number < other
      → slice_get (places_from first test keys) number ≡ Some place → slice_get (places_from first test keys) other ≡ Some later → place < later
  rises_from first [] number other place later lt here there = absurd cc
  rises_from first (key ∷ keys) number other place later lt here there =
      let rest = λ (n m : ℕ) (less : n < m) (at : slice_get (places_from (first + 1) test keys) n ≡ Some place) (next : slice_get (places_from (first + 1) test keys) m ≡ Some later).
      rises_from (first + 1) keys n m place later less at next in
      elim (cases_Bool (test key)) [
        | inl on ↦
            let at : slice_get (first ∷ places_from (first + 1) test keys) number ≡ Some place = rw on at here in
            let next : slice_get (first ∷ places_from (first + 1) test keys) other ≡ Some later = rw on at there in
            by_numbers rest number other lt at next
        | inr off ↦
            let at : slice_get (places_from (first + 1) test keys) number ≡ Some place = rw off at here in
            let next : slice_get (places_from (first + 1) test keys) other ≡ Some later = rw off at there in
            rest number other lt at next
      ]
    where
      by_numbers : ((n m : ℕ) → n < m → slice_get (places_from (first + 1) test keys) n ≡ Some place → slice_get (places_from (first + 1) test keys) m ≡ Some later → place < later)
          → (n m : ℕ) → n < m → slice_get (first ∷ places_from (first + 1) test keys) n ≡ Some place → slice_get (first ∷ places_from (first + 1) test keys) m ≡ Some later → place < later
      by_numbers rest n zero less at next = absurd (omega (arith, less))
      by_numbers rest zero (suc m) less at next =
          let same : first ≡ place = cc in
          let by = passed_from (first + 1) keys m later next in
          omega (arith, same, by.is)
      by_numbers rest (suc n) (suc m) less at next = rest n m (omega (arith, less)) at next

  pub places_rise : (keys : List RowKey) → Rise (places_of test keys)
  places_rise keys number other place later lt here there = rises_from 0 keys number other place later lt here there

  pub places_within : (keys : List RowKey) (number place : ℕ) → slice_get (places_of test keys) number ≡ Some place → place < length keys
  places_within keys number place is = let by = place_passes keys number place is in slice_get_within keys place by.key by.at
