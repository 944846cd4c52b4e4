-- Lists of records by tests.
use Rattle.std.proofs.Common.{◌≡◌, ◌<◌, ◌≤◌, ℕ, zero, suc, Bool, true, false, not, ◌&&◌, ◌||◌, List, [], ◌∷◌, ◌++◌, length, map, filter, get_or, refl, sym, ap, ◌∙◌, inl, inr, arith}
use Rattle.std.specs.List.{list_any, list_all}
use Rattle.std.proofs.lemmas.List.Folds.{list_any-append}
use Rattle.std.proofs.lemmas.Bool.{and_parts, and_from, or_parts, or_from, not-true, not_from_false, cases_Bool}
use Rattle.open_records.specs.Keyed.{no_pair}
use Rattle.open_records.specs.declared.open_record.KeyedRecord.{KeyedRecord}

-- ---- any and filter

pub any_weaker : {X : Type 0} (p q : X → Bool) (xs : List X) → ((x : X) → p x ≡ false → q x ≡ false) → list_any p xs ≡ false → list_any q xs ≡ false
any_weaker p q [] weaker none = refl
any_weaker p q (x ∷ xs) weaker none =
    let parts = or_parts (p x) (list_any p xs) none in
    or_from (q x) (list_any q xs) (weaker x parts.0) (any_weaker p q xs weaker parts.1)

pub filter_none : {X : Type 0} (p : X → Bool) (xs : List X) → list_any p xs ≡ false → filter p xs ≡ []
filter_none p [] none = refl
filter_none p (x ∷ xs) none =
    let parts = or_parts (p x) (list_any p xs) none in
    rw parts.0 (filter_none p xs parts.1)

pub filter_stays : {X : Type 0} (p : X → Bool) (xs : List X) → list_any p xs ≡ false → filter (λ x. not (p x)) xs ≡ xs
filter_stays p [] none = refl
filter_stays p (x ∷ xs) none = let parts = or_parts (p x) (list_any p xs) none in rw parts.0 (ap (λ l. x ∷ l) (filter_stays p xs parts.1))

pub any_filtered : {X : Type 0} (p q : X → Bool) (xs : List X) → ((x : X) → p x ≡ true → q x ≡ false) → list_any q (filter p xs) ≡ false
any_filtered p q [] apart = refl
any_filtered p q (x ∷ xs) apart =
    let rest = any_filtered p q xs apart in
    elim (cases_Bool (p x)) [
      | inl passes ↦ rw passes (or_from (q x) (list_any q (filter p xs)) (apart x passes) rest)
      | inr fails ↦ rw fails rest
    ]

pub any_filter : {X : Type 0} (p q : X → Bool) (xs : List X) → list_any q xs ≡ false → list_any q (filter p xs) ≡ false
any_filter p q [] none = refl
any_filter p q (x ∷ xs) none =
    let parts = or_parts (q x) (list_any q xs) none in
    let rest = any_filter p q xs parts.1 in
    elim (cases_Bool (p x)) [
      | inl passes ↦ rw passes (or_from (q x) (list_any q (filter p xs)) parts.0 rest)
      | inr fails ↦ rw fails rest
    ]

pub all_filter : {X : Type 0} (p q : X → Bool) (xs : List X) → list_all q xs ≡ true → list_all q (filter p xs) ≡ true
all_filter p q [] all = refl
all_filter p q (x ∷ xs) all =
    let parts = and_parts (q x) (list_all q xs) all in
    let rest = all_filter p q xs parts.1 in
    elim (cases_Bool (p x)) [
      | inl passes ↦ rw passes (and_from (q x) (list_all q (filter p xs)) parts.0 rest)
      | inr fails ↦ rw fails rest
    ]

pub length-filter-le : {X : Type 0} (p : X → Bool) (xs : List X) → length (filter p xs) ≤ length xs
length-filter-le p [] = omega arith
length-filter-le p (x ∷ xs) =
    let rest = length-filter-le p xs in
    elim (cases_Bool (p x)) [
      | inl passes ↦ rw passes (omega arith)
      | inr fails ↦ rw fails (omega arith)
    ]

-- a filter of a filter
pub filter_both : {X : Type 0} (p q r : X → Bool) (xs : List X) → ((x : X) → r x ≡ (p x && q x)) → filter q (filter p xs) ≡ filter r xs
filter_both p q r [] both = refl
filter_both p q r (x ∷ xs) both =
    let rest = filter_both p q r xs both in
    elim (cases_Bool (p x)) [
      | inl passes ↦
          let same : r x ≡ q x = both x ∙ rw passes refl in
          elim (cases_Bool (q x)) [
            | inl holds ↦ rw (passes, same, holds) (ap (λ l. x ∷ l) rest)
            | inr fails ↦ rw (passes, same, fails) rest
          ]
      | inr fails ↦
          let out : r x ≡ false = both x ∙ rw fails refl in
          rw (fails, out) rest
    ]

-- the map of a filter is a filter of the map
pub filter-map : {X Y : Type 0} (f : X → Y) (p : Y → Bool) (xs : List X) → filter p (map f xs) ≡ map f (filter (λ x. p (f x)) xs)
filter-map f p [] = refl
filter-map f p (x ∷ xs) =
    let rest = filter-map f p xs in
    elim (cases_Bool (p (f x))) [
      | inl passes ↦ rw passes (ap (λ l. f x ∷ l) rest)
      | inr fails ↦ rw fails rest
    ]

pub any_same : {X : Type 0} (p q : X → Bool) (xs : List X) → ((x : X) → p x ≡ q x) → list_any p xs ≡ list_any q xs
any_same p q [] same = refl
any_same p q (x ∷ xs) same = rw (same x, any_same p q xs same) refl

pub any_map : {X Y : Type 0} (f : X → Y) (p : Y → Bool) (xs : List X) → list_any p (map f xs) ≡ list_any (λ x. p (f x)) xs
any_map f p [] = refl
any_map f p (x ∷ xs) = ap (λ b. p (f x) || b) (any_map f p xs)

-- ---- places

pub any_at : {X : Type 0} (p : X → Bool) (xs : List X) (i : ℕ) (d : X) → i < length xs → list_any p xs ≡ false → p (get_or xs i d) ≡ false
any_at p [] i d within none = absurd (omega arith)
any_at p (x ∷ xs) zero d within none = (or_parts (p x) (list_any p xs) none).0
any_at p (x ∷ xs) (suc i) d within none = any_at p xs i d (omega arith) (or_parts (p x) (list_any p xs) none).1

-- ---- pairs

pub no_pair-filter : (test : KeyedRecord → KeyedRecord → Bool) (p : KeyedRecord → Bool) (entries : List KeyedRecord) → no_pair test entries ≡ true → no_pair test (filter p entries) ≡ true
no_pair-filter test p [] none = refl
no_pair-filter test p (one ∷ entries) none =
    let parts = and_parts (not (list_any (test one) entries)) (no_pair test entries) none in
    let rest = no_pair-filter test p entries parts.1 in
    let first : list_any (test one) (filter p entries) ≡ false = any_filter p (test one) entries (not-true _ parts.0) in
    elim (cases_Bool (p one)) [
      | inl passes ↦ rw passes (and_from (not (list_any (test one) (filter p entries))) (no_pair test (filter p entries)) (not_from_false _ first) rest)
      | inr fails ↦ rw fails rest
    ]

-- one more between two parts
pub no_pair-insert : (test : KeyedRecord → KeyedRecord → Bool) (front : List KeyedRecord) (new : KeyedRecord) (back : List KeyedRecord) → no_pair test (front ++ back) ≡ true → list_any (λ (one : KeyedRecord). test one new) front ≡ false → list_any (test new) back ≡ false → no_pair test (front ++ new ∷ back) ≡ true
no_pair-insert test [] new back none before after = and_from (not (list_any (test new) back)) (no_pair test back) (not_from_false _ after) none
no_pair-insert test (one ∷ front) new back none before after =
    let parts = and_parts (not (list_any (test one) (front ++ back))) (no_pair test (front ++ back)) none in
    let firsts = or_parts (test one new) (list_any (λ (other : KeyedRecord). test other new) front) before in
    let both : (list_any (test one) front || list_any (test one) back) ≡ false = sym (list_any-append (test one) front back) ∙ not-true _ parts.0 in
    let each = or_parts (list_any (test one) front) (list_any (test one) back) both in
    let later : list_any (test one) (front ++ new ∷ back) ≡ false =
    list_any-append (test one) front (new ∷ back) ∙ or_from (list_any (test one) front) (test one new || list_any (test one) back) each.0 (or_from (test one new) (list_any (test one) back) firsts.0 each.1) in
    and_from (not (list_any (test one) (front ++ new ∷ back))) (no_pair test (front ++ new ∷ back)) (not_from_false _ later) (no_pair-insert test front new back parts.1 firsts.1 after)

pub no_pair-map : (test : KeyedRecord → KeyedRecord → Bool) (f : KeyedRecord → KeyedRecord) (entries : List KeyedRecord) → ((one other : KeyedRecord) → test (f one) (f other) ≡ test one other) → no_pair test (map f entries) ≡ no_pair test entries
no_pair-map test f [] same = refl
no_pair-map test f (one ∷ entries) same =
    let rest = no_pair-map test f entries same in
    let first : list_any (test (f one)) (map f entries) ≡ list_any (test one) entries = any_map f (test (f one)) entries ∙ any_same (λ (other : KeyedRecord). test (f one) (f other)) (test one) entries (same one) in
    rw (first, rest) refl

pub any_of_filter : {X Y : Type 0} (f : X → Y) (p : X → Bool) (q : Y → Bool) (xs : List X) → list_any q (map f (filter p xs)) ≡ false → list_any (λ x. p x && q (f x)) xs ≡ false
any_of_filter f p q [] none = refl
any_of_filter f p q (x ∷ xs) none = elim (cases_Bool (p x)) [
  | inl passes ↦
      let both : (q (f x) || list_any q (map f (filter p xs))) ≡ false = rw passes at none in
      let parts = or_parts (q (f x)) (list_any q (map f (filter p xs))) both in
      rw passes (or_from (q (f x)) (list_any (λ y. p y && q (f y)) xs) parts.0 (any_of_filter f p q xs parts.1))
  | inr fails ↦
      let rest : list_any q (map f (filter p xs)) ≡ false = rw fails at none in
      rw fails (any_of_filter f p q xs rest)
]
