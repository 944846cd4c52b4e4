-- What a look-up in the index gives is what the handles say.
use Rattle.std.proofs.Common.{◌≡◌, ◌<◌, ◌≤◌, ℕ, ◌+◌, Bool, true, false, cond, ◌&&◌, ◌||◌, nat_eq, nat_le, nat_lt, List, [], ◌∷◌, length, map, filter, find, bytes_eq, Option, Some, None, Result, Ok, Err, Vec, Global, refl, ap, sym, ◌∙◌, inl, inr, arith}
use Rattle.std.specs.BTreeSet.{BTreeSet, IsOrdered}
use Rattle.std.specs.BTreeMap.Range.{range_contains}
use Rattle.std.specs.List.{AllByRecursion, list_any, list_all, slice_get}
use Rattle.std.specs.List.Sorted.{IsStrictlySortedBy}
use Rattle.std.specs.Option.{option_map}
use Rattle.std.specs.Result.{IfOk}
use Rattle.std.specs.Ordering.{is_eq, nat_cmp}
use Rattle.std.specs.declared.cmp.Ordering.TheVariants.{Less}
use Rattle.std.specs.declared.ops.Bound.TheVariants.{Included, Excluded}
use Rattle.std.proofs.lemmas.Bool.{and_parts, and_from, both_ways, cases_Bool, cases_lt, eqb-true, eq-eqb, leb-true, le-leb, ltb-true, lt-ltb, ne_eqb}
use Rattle.std.proofs.lemmas.Bool.Decides.{nat_tests}
use Rattle.std.proofs.lemmas.Map.Keys.{sorted_head, sorted_tail}
use Rattle.std.proofs.lemmas.Slice.Eq.{bytes_eq-Decides}
use Rattle.handle_db.specs.Database.{Database, first_with, has_guid, has_in, interface_in, interfaces_in, is_below, is_guid, is_handle, numbers, rise_from}
use Rattle.handle_db.specs.ProtocolIndex.{IsInside, Naming, named, naming_cmp}
use Rattle.handle_db.specs.declared.handle_entry.HandleEntry.{HandleEntry}
use Rattle.handle_db.specs.declared.handle_entry.Interface.{Interface}
use Rattle.handle_db.proofs.IndexLemmas.{by_handle, in_part, is_naming}
use Rattle.handle_db.proofs.OnlyOne.{find-none}
use Rattle.handle_db.proofs.Order.{head_rises, none_below}

-- ---- numbers that rise strictly, from a number on

abbrev pub rise_numbers : ℕ → List ℕ → Bool
rise_numbers low [] = true
rise_numbers low (n ∷ ns) = nat_le low n && rise_numbers (n + 1) ns

head_number : (low n : ℕ) (ns : List ℕ) → rise_numbers low (n ∷ ns) ≡ true → (low ≤ n) × (rise_numbers (n + 1) ns ≡ true)
head_number low n ns rise =
    let parts = and_parts (nat_le low n) (rise_numbers (n + 1) ns) rise in
    (leb-true low n parts.0, parts.1)

none_under : (low n : ℕ) (ns : List ℕ) → rise_numbers low ns ≡ true → n < low → list_any (nat_eq n) ns ≡ false
none_under low n [] rise less = refl
none_under low n (m ∷ ns) rise less =
    let head = head_number low m ns rise in
    rw (ne_eqb n m (λ same. omega (arith, head.0))) (none_under (m + 1) n ns head.1 (omega (arith, head.0)))

-- the same numbers in one order are one list
or_left : (a b c : Bool) → a ≡ false → (a || b) ≡ (a || c) → b ≡ c
or_left true b c is same = absurd cc
or_left false b c is same = same

pub same_numbers : (low : ℕ) (ms ns : List ℕ) → rise_numbers low ms ≡ true → rise_numbers low ns ≡ true → ((q : ℕ) → list_any (nat_eq q) ms ≡ list_any (nat_eq q) ns) → ms ≡ ns
same_numbers low [] [] first second same = refl
same_numbers low [] (n ∷ ns) first second same =
    let here : list_any (nat_eq n) (n ∷ ns) ≡ true = rw (eq-eqb n n refl) refl in
    absurd (both_ways (list_any (nat_eq n) (n ∷ ns)) (sym (same n)) here)
same_numbers low (m ∷ ms) [] first second same =
    let here : list_any (nat_eq m) (m ∷ ms) ≡ true = rw (eq-eqb m m refl) refl in
    absurd (both_ways (list_any (nat_eq m) (m ∷ ms)) (same m) here)
same_numbers low (m ∷ ms) (n ∷ ns) first second same =
    let one = head_number low m ms first in
    let two = head_number low n ns second in
    let equal : m ≡ n = equal_heads m n ms ns one.1 two.1 same in
    let two' : rise_numbers (m + 1) ns ≡ true = rw equal two.1 in
    let rest : ms ≡ ns = same_numbers (m + 1) ms ns one.1 two' (λ q. rest_same q m n ms ns equal one.1 two' (same q)) in
    rw (equal, rest) refl
  where
    not_in : (low m n : ℕ) (ns : List ℕ) → rise_numbers (n + 1) ns ≡ true → m < n → list_any (nat_eq m) (n ∷ ns) ≡ false
    not_in low m n ns rise less = rw (ne_eqb m n (λ e. omega arith)) (none_under (n + 1) m ns rise (omega arith))

    equal_heads : (m n : ℕ) (ms ns : List ℕ) → rise_numbers (m + 1) ms ≡ true → rise_numbers (n + 1) ns ≡ true → ((q : ℕ) → list_any (nat_eq q) (m ∷ ms) ≡ list_any (nat_eq q) (n ∷ ns)) → m ≡ n
    equal_heads m n ms ns one two same =
        let here : list_any (nat_eq m) (m ∷ ms) ≡ true = rw (eq-eqb m m refl) refl in
        let there : list_any (nat_eq n) (n ∷ ns) ≡ true = rw (eq-eqb n n refl) refl in
        elim (cases_lt m n) [
          | inl less ↦ absurd (both_ways (list_any (nat_eq m) (n ∷ ns)) (not_in 0 m n ns two less) (sym (same m) ∙ here))
          | inr most ↦ elim (cases_lt n m) [
            | inl less ↦ absurd (both_ways (list_any (nat_eq n) (m ∷ ms)) (not_in 0 n m ms one less) (same n ∙ there))
            | inr least ↦ omega arith
          ]
        ]

    rest_same : (q m n : ℕ) (ms ns : List ℕ) → m ≡ n → rise_numbers (m + 1) ms ≡ true → rise_numbers (m + 1) ns ≡ true → list_any (nat_eq q) (m ∷ ms) ≡ list_any (nat_eq q) (n ∷ ns) → list_any (nat_eq q) ms ≡ list_any (nat_eq q) ns
    rest_same q m n ms ns equal one two same = elim (cases_Bool (nat_eq q m)) [
      | inl here ↦ (let named : q ≡ m = eqb-true q m here in
          none_under (m + 1) q ms one (omega arith) ∙ sym (none_under (m + 1) q ns two (omega arith)))
      | inr other ↦ or_left (nat_eq q m) (list_any (nat_eq q) ms) (list_any (nat_eq q) ns) other (same ∙ ap (λ k. nat_eq q k || list_any (nat_eq q) ns) (sym equal))
    ]

-- ---- the handles that have a protocol

numbers_under : (low more : ℕ) (ns : List ℕ) → low ≤ more → rise_numbers more ns ≡ true → rise_numbers low ns ≡ true
numbers_under low more [] le rise = refl
numbers_under low more (n ∷ ns) le rise =
    let head = head_number more n ns rise in
    and_from (nat_le low n) (rise_numbers (n + 1) ns) (le-leb low n (omega (arith, head.0))) head.1

handles_rise : (p : HandleEntry → Bool) (low : ℕ) (entries : List HandleEntry) → rise_from low entries ≡ true → rise_numbers low (numbers (filter p entries)) ≡ true
handles_rise p low [] rise = refl
handles_rise p low (first ∷ rest) rise =
    let above = head_rises low first rest rise in
    by_first (p first) above.0 (handles_rise p (first.handle + 1) rest above.1)
  where
    by_first : (b : Bool) → low ≤ first.handle → rise_numbers (first.handle + 1) (numbers (filter p rest)) ≡ true → rise_numbers low (numbers (cond b (first ∷ filter p rest) (filter p rest))) ≡ true
    by_first true le later = and_from (nat_le low first.handle) (rise_numbers (first.handle + 1) (numbers (filter p rest))) (le-leb low first.handle le) later
    by_first false le later = numbers_under low (first.handle + 1) (numbers (filter p rest)) (omega (arith, le)) later

has_first : (guid : List ℕ) (q : ℕ) (has here : Bool) (first : HandleEntry) (rest : List HandleEntry) → has_guid guid first ≡ has → nat_eq q first.handle ≡ here → rise_from (first.handle + 1) rest ≡ true
    → list_any (nat_eq q) (numbers (filter (has_guid guid) rest)) ≡ has_in q guid rest
    → list_any (nat_eq q) (numbers (cond has (first ∷ filter (has_guid guid) rest) (filter (has_guid guid) rest))) ≡ list_any (is_guid guid) (interfaces_in (cond here (Some first) (find (is_handle q) rest)))
has_first guid q true true first rest has is rise later = rw is (sym has)
has_first guid q true false first rest has is rise later = rw is later
has_first guid q false true first rest has is rise later =
    let named : q ≡ first.handle = eqb-true q first.handle is in
    let none : list_any (is_handle q) rest ≡ false = none_below (first.handle + 1) q rest rise (omega arith) in
    later ∙ ap (λ one. list_any (is_guid guid) (interfaces_in one)) (find-none (is_handle q) rest none) ∙ sym has
has_first guid q false false first rest has is rise later = later

pub numbers_have : (guid : List ℕ) (q low : ℕ) (entries : List HandleEntry) → rise_from low entries ≡ true → list_any (nat_eq q) (numbers (filter (has_guid guid) entries)) ≡ has_in q guid entries
numbers_have guid q low [] rise = refl
numbers_have guid q low (first ∷ rest) rise =
    let above = head_rises low first rest rise in
    has_first guid q (has_guid guid first) (nat_eq q first.handle) first rest refl refl above.1 (numbers_have guid q (first.handle + 1) rest above.1)
    ∙ ap (λ b. list_any (is_guid guid) (interfaces_in (cond b (Some first) (find (is_handle q) rest)))) (eq_swapped q first.handle)
  where
    eq_swapped : (a b : ℕ) → nat_eq a b ≡ nat_eq b a
    eq_swapped a b = grind (arith, nat_tests)

-- ---- the namings of a protocol

abbrev pub is_part : List ℕ → ℕ → Naming → Bool
is_part guid next one = range_contains naming_cmp (Included (guid, 1)) (Excluded (guid, next)) one

abbrev pub part : List ℕ → ℕ → List Naming → List ℕ
part guid next keys = map (λ (one : Naming). one.1) (filter (is_part guid next) keys)

-- what is in the part is of the protocol, and not below handle 1
record IsPart (guid : List ℕ) (next : ℕ) (one : Naming) : Type 0 where
  named : one.0 ≡ guid
  from : 1 ≤ one.1
  below : one.1 < next

part_is : (guid : List ℕ) (next : ℕ) (one : Naming) → is_part guid next one ≡ true → IsPart guid next one
part_is guid next one is =
    let parts = and_parts (bytes_eq guid one.0) (nat_le 1 one.1 && nat_lt one.1 next) (sym (in_part guid one.0 next one.1) ∙ is) in
    let bounds = and_parts (nat_le 1 one.1) (nat_lt one.1 next) parts.1 in
    record {
      named = sym ((bytes_eq-Decides guid one.0).0 parts.0);
      from = leb-true 1 one.1 bounds.0;
      below = ltb-true one.1 next bounds.1;
    }

-- no naming of the part is below a number
AboveIn : List ℕ → ℕ → ℕ → List Naming → Type 0
AboveIn guid next low keys = AllByRecursion (λ (one : Naming). is_part guid next one ≡ true → low ≤ one.1) keys

above_start : (guid : List ℕ) (next : ℕ) (keys : List Naming) → AboveIn guid next 1 keys
unfolding AboveIn
above_start guid next [] = tt
above_start guid next (one ∷ keys) = (λ is. (part_is guid next one is).from, above_start guid next keys)

less_numbers : (a b : ℕ) → nat_cmp a b ≡ Less → a < b
less_numbers a b less = grind (arith, nat_tests, less)

above_next : (guid : List ℕ) (next : ℕ) (one : Naming) (keys : List Naming) → is_part guid next one ≡ true → AllByRecursion (λ (other : Naming). naming_cmp one other ≡ Less) keys → AboveIn guid next (one.1 + 1) keys
unfolding AboveIn
above_next guid next one [] is less = tt
above_next guid next one (other ∷ keys) is less = (
  λ too.
      let first = part_is guid next one is in
      let second = part_is guid next other too in
      let same : naming_cmp one other ≡ nat_cmp one.1 other.1 =
      ap (λ g. naming_cmp (g, one.1) other) first.named ∙ ap (λ g. naming_cmp (guid, one.1) (g, other.1)) second.named ∙ by_handle guid one.1 other.1 in
      let lower : one.1 < other.1 = less_numbers one.1 other.1 (sym same ∙ less.0) in
      omega arith,
  above_next guid next one keys is less.1,
)

part_rises : (guid : List ℕ) (next low : ℕ) (keys : List Naming) → IsStrictlySortedBy naming_cmp keys → AboveIn guid next low keys → rise_numbers low (part guid next keys) ≡ true
unfolding AboveIn
part_rises guid next low [] sorted above = refl
part_rises guid next low (one ∷ keys) sorted above =
    by_first (is_part guid next one) refl
    (λ is. part_rises guid next (one.1 + 1) keys (sorted_tail naming_cmp one keys sorted) (above_next guid next one keys is (sorted_head naming_cmp one keys sorted)))
    (part_rises guid next low keys (sorted_tail naming_cmp one keys sorted) above.1)
  where
    by_first : (b : Bool) → is_part guid next one ≡ b → (is_part guid next one ≡ true → rise_numbers (one.1 + 1) (part guid next keys) ≡ true) → rise_numbers low (part guid next keys) ≡ true
        → rise_numbers low (map (λ (k : Naming). k.1) (cond b (one ∷ filter (is_part guid next) keys) (filter (is_part guid next) keys))) ≡ true
    by_first true is later same = and_from (nat_le low one.1) (rise_numbers (one.1 + 1) (part guid next keys)) (le-leb low one.1 (above.0 is)) (later is)
    by_first false is later same = same

-- ---- what is in the part

abbrev pub inside : ℕ → ℕ → Bool
inside next q = nat_le 1 q && nat_lt q next

part_first : (guid other : List ℕ) (next q number : ℕ) (keys : List Naming) (named here within : Bool) → bytes_eq guid other ≡ named → nat_eq q number ≡ here → inside next number ≡ within
    → list_any (nat_eq q) (part guid next keys) ≡ (inside next q && list_any (λ (one : Naming). is_eq (naming_cmp (guid, q) one)) keys)
    → list_any (nat_eq q) (map (λ (k : Naming). k.1) (cond (named && within) ((other, number) ∷ filter (is_part guid next) keys) (filter (is_part guid next) keys)))
    ≡ (inside next q && ((named && here) || list_any (λ (one : Naming). is_eq (naming_cmp (guid, q) one)) keys))
part_first guid other next q number keys true true true n h w later =
    let same : q ≡ number = eqb-true q number h in
    let within : inside next q ≡ true = ap (inside next) same ∙ w in
    rw (h, within) refl
part_first guid other next q number keys true true false n h w later =
    let same : q ≡ number = eqb-true q number h in
    let outside : inside next q ≡ false = ap (inside next) same ∙ w in
    later ∙ ap (λ b. b && list_any (λ (one : Naming). is_eq (naming_cmp (guid, q) one)) keys) outside ∙ sym (ap (λ b. b && true) outside)
part_first guid other next q number keys true false true n h w later = rw h later
part_first guid other next q number keys true false false n h w later = later
part_first guid other next q number keys false here within n h w later = later

pub part_has : (guid : List ℕ) (next q : ℕ) (keys : List Naming) → list_any (nat_eq q) (part guid next keys) ≡ (inside next q && list_any (λ (one : Naming). is_eq (naming_cmp (guid, q) one)) keys)
part_has guid next q [] = by_inside (inside next q)
  where
    by_inside : (b : Bool) → false ≡ (b && false)
    by_inside true = refl
    by_inside false = refl
part_has guid next q (one ∷ keys) =
    ap (λ b. list_any (nat_eq q) (map (λ (k : Naming). k.1) (cond b (one ∷ filter (is_part guid next) keys) (filter (is_part guid next) keys)))) (in_part guid one.0 next one.1)
    ∙ part_first guid one.0 next q one.1 keys (bytes_eq guid one.0) (nat_eq q one.1) (inside next one.1) refl refl refl (part_has guid next q keys)
    ∙ sym (ap (λ b. inside next q && (b || list_any (λ (k : Naming). is_eq (naming_cmp (guid, q) k)) keys)) (is_naming guid one.0 q one.1))

-- ---- the look-ups

below_none : (high q : ℕ) (entries : List HandleEntry) → list_all (is_below high) entries ≡ true → high ≤ q → list_any (is_handle q) entries ≡ false
below_none high q [] below le = refl
below_none high q (entry ∷ entries) below le =
    let parts = and_parts (is_below high entry) (list_all (is_below high) entries) below in
    let less : entry.handle < high = ltb-true entry.handle high parts.0 in
    rw (ne_eqb entry.handle q (λ same. omega arith), below_none high q entries parts.1 le) refl

module _ (guid : List ℕ) (index : BTreeSet Naming) (db : Database) (is : IsInside index db) (ordered : IsOrdered naming_cmp index) where
  outside_none : (q : ℕ) → inside db.next q ≡ false → has_in q guid db.handles ≡ false
  outside_none q out = elim (cases_lt q 1) [
    | inl less ↦ nobody (none_below 1 q db.handles is.sound.rising less)
    | inr from ↦ elim (cases_lt q db.next) [
      | inl below ↦ absurd (both_ways (inside db.next q) out (and_from (nat_le 1 q) (nat_lt q db.next) (le-leb 1 q from) (lt-ltb q db.next below)))
      | inr past ↦ nobody (below_none db.next q db.handles is.sound.below past)
    ]
  ]
    where
      nobody : list_any (is_handle q) db.handles ≡ false → has_in q guid db.handles ≡ false
      nobody none = ap (λ one. list_any (is_guid guid) (interfaces_in one)) (find-none (is_handle q) db.handles none)

  and_same : (a b : Bool) → (a ≡ false → b ≡ false) → (a && b) ≡ b
  and_same true b out = refl
  and_same false b out = sym (out refl)

  pub named_is : named guid db.next index ≡ numbers (filter (has_guid guid) db.handles)
  named_is = same_numbers 1 (part guid db.next index.keys) (numbers (filter (has_guid guid) db.handles))
      (part_rises guid db.next 1 index.keys ordered (above_start guid db.next index.keys))
      (handles_rise (has_guid guid) 1 db.handles is.sound.rising)
      (λ q. part_has guid db.next q index.keys ∙ ap (λ b. inside db.next q && b) (is.names guid q)
      ∙ and_same (inside db.next q) (has_in q guid db.handles) (outside_none q) ∙ sym (numbers_have guid q 1 db.handles is.sound.rising))

  -- what the code reads from it
  pub handles_named : (next : ℕ) → next ≡ db.next → named guid next index ≡ numbers (filter (has_guid guid) db.handles)
  handles_named next same = ap (λ n. named guid n index) same ∙ named_is

-- ---- the first handle that has a protocol

head_is : (p : HandleEntry → Bool) (entries : List HandleEntry) → slice_get (numbers (filter p entries)) 0 ≡ option_map (λ (e : HandleEntry). e.handle) (find p entries)
head_is p [] = refl
head_is p (first ∷ rest) = by_first (p first) (head_is p rest)
  where
    by_first : (b : Bool) → slice_get (numbers (filter p rest)) 0 ≡ option_map (λ (e : HandleEntry). e.handle) (find p rest)
        → slice_get (numbers (cond b (first ∷ filter p rest) (filter p rest))) 0 ≡ option_map (λ (e : HandleEntry). e.handle) (cond b (Some first) (find p rest))
    by_first true later = refl
    by_first false later = later

-- a handle that is found is found by its number
by_its_number : (p : HandleEntry → Bool) (low : ℕ) (entries : List HandleEntry) (entry : HandleEntry) → rise_from low entries ≡ true → find p entries ≡ Some entry → find (is_handle entry.handle) entries ≡ Some entry
by_its_number p low [] entry rise found = absurd cc
by_its_number p low (first ∷ rest) entry rise found =
    let above = head_rises low first rest rise in
    by_first (p first) found (λ later. by_its_number p (first.handle + 1) rest entry above.1 later) above.1
  where
    by_first : (b : Bool) → cond b (Some first) (find p rest) ≡ Some entry → (find p rest ≡ Some entry → find (is_handle entry.handle) rest ≡ Some entry) → rise_from (first.handle + 1) rest ≡ true
        → find (is_handle entry.handle) (first ∷ rest) ≡ Some entry
    by_first true found later rise = let same : first ≡ entry = cc in rw (← same, eq-eqb first.handle first.handle refl) refl
    by_first false found later rise = elim (cases_Bool (is_handle entry.handle first)) [
      | inl here ↦ (let named : first.handle ≡ entry.handle = eqb-true first.handle entry.handle here in
          let none = find-none (is_handle entry.handle) rest (none_below (first.handle + 1) entry.handle rest rise (omega arith)) in
          let no_entry : None ≡ Some entry = sym none ∙ later found in absurd cc)
      | inr other ↦ rw other (later found)
    ]

-- so the least handle that is named is the first that has the protocol
pub first_found : (p : HandleEntry → Bool) (entries : List HandleEntry) (number : ℕ) → rise_from 1 entries ≡ true → Some number ≡ slice_get (numbers (filter p entries)) 0 → find (is_handle number) entries ≡ find p entries
first_found p entries number rise is = by_found (find p entries) refl
  where
    by_found : (one : Option HandleEntry) → find p entries ≡ one → find (is_handle number) entries ≡ find p entries
    by_found None found = let no_number : Some number ≡ None = is ∙ head_is p entries ∙ ap (option_map (λ (e : HandleEntry). e.handle)) found in absurd cc
    by_found (Some entry) found =
        let named : Some number ≡ Some entry.handle = is ∙ head_is p entries ∙ ap (option_map (λ (e : HandleEntry). e.handle)) found in
        let same : number ≡ entry.handle = cc in
        rw (same, found) (by_its_number p 1 entries entry rise found)

pub none_first : (p : HandleEntry → Bool) (entries : List HandleEntry) → None ≡ slice_get (numbers (filter p entries)) 0 → find p entries ≡ None
none_first p entries is = by_found (find p entries) refl
  where
    by_found : (one : Option HandleEntry) → find p entries ≡ one → find p entries ≡ None
    by_found None found = found
    by_found (Some entry) found = let no_entry : None ≡ Some entry.handle = is ∙ head_is p entries ∙ ap (option_map (λ (e : HandleEntry). e.handle)) found in absurd cc

-- ---- as the code looks up the first

module _ (guid : List ℕ) (index : BTreeSet Naming) (db : Database) (is : IsInside index db) (ordered : IsOrdered naming_cmp index) where
  pub no_first : None ≡ slice_get (named guid db.next index) 0 → first_with guid db ≡ None
  no_first none =
      let nobody : find (has_guid guid) db.handles ≡ None = none_first (has_guid guid) db.handles (none ∙ ap (λ ns. slice_get ns 0) (named_is guid index db is ordered)) in
      ap (interface_in guid) nobody

  pub first_entry : (number handle : ℕ) (shown : List HandleEntry) (entry : Option HandleEntry) → number ≡ handle → shown ≡ db.handles → Some handle ≡ slice_get (named guid db.next index) 0
      → entry ≡ find (is_handle number) shown → first_with guid db ≡ interface_in guid entry
  first_entry number handle shown entry named same first found =
      let at : Some handle ≡ slice_get (numbers (filter (has_guid guid) db.handles)) 0 = first ∙ ap (λ ns. slice_get ns 0) (named_is guid index db is ordered) in
      let one : find (is_handle handle) db.handles ≡ find (has_guid guid) db.handles = first_found (has_guid guid) db.handles handle is.sound.rising at in
      let here : entry ≡ find (is_handle handle) db.handles = found ∙ ap (λ n. find (is_handle n) shown) named ∙ ap (find (is_handle handle)) same in
      ap (interface_in guid) (sym (here ∙ one))

  -- and its interface
  pub first_read : (number handle : ℕ) (shown : List HandleEntry) (entry : HandleEntry) (interfaces : List Interface) (one : Option Interface) → number ≡ handle → shown ≡ db.handles
      → Some handle ≡ slice_get (named guid db.next index) 0 → Some entry ≡ find (is_handle number) shown → interfaces ≡ entry.interfaces → one ≡ find (is_guid guid) interfaces
      → option_map (λ (i : Interface). (i.interface, i.owner)) one ≡ first_with guid db
  first_read number handle shown entry interfaces one number_is same first found its read =
      ap (option_map (λ (i : Interface). (i.interface, i.owner))) (read ∙ ap (find (is_guid guid)) its)
      ∙ sym (first_entry number handle shown (Some entry) number_is same first found)

-- ---- a list that a call answers

pub listed_is : {E : Type 0} (result : Result (Vec ℕ Global) E) (listed wanted : List ℕ) → listed ≡ wanted → IfOk result (λ handles. handles.items ≡ listed) → IfOk result (λ handles. handles.items ≡ wanted)
listed_is (Ok handles) listed wanted same is = is ∙ same
listed_is (Err error) listed wanted same is = tt

pub listed_few : {E : Type 0} (result : Result (Vec ℕ Global) E) (listed : List ℕ) (most : ℕ) → length listed ≤ most → IfOk result (λ handles. handles.items ≡ listed) → IfOk result (λ handles. length handles.items ≤ most)
listed_few (Ok handles) listed most few is = omega (arith, ap length is)
listed_few (Err error) listed most few is = tt
