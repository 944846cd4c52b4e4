-- Handles that rise by number: what a search finds among them, and what keeps their order.
use Rattle.std.proofs.Common.{◌≡◌, ◌<◌, ◌≤◌, ℕ, zero, suc, ◌+◌, Bool, true, false, nat_le, List, [], ◌∷◌, ◌++◌, length, map, filter, take, drop, get_or, cond, Ok, Err, Result, IfSome, IfNone, refl, ap, sym, arith}
use Rattle.std.specs.List.{list_any, list_all}
use Rattle.std.specs.Result.{result_ok}
use Rattle.std.specs.List.Sorted.{IsSearchInRange, IsBinarySearchResult, IsNonDecreasingBy}
use Rattle.std.specs.Ordering.{nat_cmp, ordering_index}
use Rattle.std.proofs.lemmas.Cmp.{ranked}
use Rattle.std.proofs.lemmas.List.{get_or-take, length-take}
use Rattle.std.proofs.lemmas.List.Sorted.{IsNonDecreasingBy-from_default}
use Rattle.std.proofs.lemmas.List.Folds.{list_any_at}
use Rattle.std.proofs.lemmas.Bool.{both_ways, and_parts, and_from, leb-true, le-leb, ltb-true, lt-ltb, ne_eqb, eq-eqb}
use Rattle.std.proofs.lemmas.Bool.Decides.{nat_tests}
use Rattle.handle_db.specs.Database.{is_handle, is_below, rise_from}
use Rattle.handle_db.specs.Places.{IsPlaceOf, IsRoomFor}
use Rattle.handle_db.specs.declared.handle_entry.HandleEntry.{HandleEntry}
use Rattle.handle_db.proofs.OnlyOne.{IsOnly, none_pass, split_at}

-- past the end
abbrev pub nobody : HandleEntry
nobody = record { handle = 0; interfaces = [] }

abbrev pub handle_at : List HandleEntry → ℕ → ℕ
handle_at entries i = (get_or entries i nobody).handle

-- ---- the order by places

pub head_rises : (low : ℕ) (entry : HandleEntry) (entries : List HandleEntry) → rise_from low (entry ∷ entries) ≡ true → (low ≤ entry.handle) × (rise_from (entry.handle + 1) entries ≡ true)
head_rises low entry entries rise =
    let parts = and_parts (nat_le low entry.handle) (rise_from (entry.handle + 1) entries) rise in
    (leb-true low entry.handle parts.0, parts.1)

low_at : (low : ℕ) (entries : List HandleEntry) (i : ℕ) → rise_from low entries ≡ true → i < length entries → low ≤ handle_at entries i
low_at low [] i rise h = absurd (omega arith)
low_at low (entry ∷ entries) zero rise h = (head_rises low entry entries rise).0
low_at low (entry ∷ entries) (suc i) rise h =
    let parts = head_rises low entry entries rise in
    omega (arith, parts.0, low_at (entry.handle + 1) entries i parts.1 (omega arith))

rises_at : (low : ℕ) (entries : List HandleEntry) (i j : ℕ) → rise_from low entries ≡ true → i < j → j < length entries → handle_at entries i < handle_at entries j
rises_at low [] i j rise lt h = absurd (omega arith)
rises_at low (entry ∷ entries) i zero rise lt h = absurd (omega arith)
rises_at low (entry ∷ entries) zero (suc j) rise lt h =
    omega (arith, low_at (entry.handle + 1) entries j (head_rises low entry entries rise).1 (omega arith))
rises_at low (entry ∷ entries) (suc i) (suc j) rise lt h =
    rises_at (entry.handle + 1) entries i j (head_rises low entry entries rise).1 (omega arith) (omega arith)

-- ---- a search

-- what is below on one side of a place and above on the other is not equal
apart : (k at number : ℕ) {handle : ℕ} → (k < at → number < handle) → (at ≤ k → handle < number) → number ≡ handle → ⊥
apart k at number low high same = grind (arith, low, high)

module _ (entries : List HandleEntry) (rise : rise_from 1 entries ≡ true) (handle : ℕ) where
  -- the comparisons with the number rise along the list, as a binary search asks
  comparisons_rise : IsNonDecreasingBy (λ (entry : HandleEntry). ordering_index (nat_cmp entry.handle handle)) entries
  comparisons_rise = IsNonDecreasingBy-from_default (λ (entry : HandleEntry). ordering_index (nat_cmp entry.handle handle)) entries nobody (λ i j le within.
      let up : handle_at entries i ≤ handle_at entries j = grind (arith, rises_at 1 entries i j rise, λ (same : i ≡ j). ap (handle_at entries) same) in
      grind (arith, nat_tests))

  -- a binary search by number ends at the handle, or finds nothing if no handle has the number
  pub searched : (r : Result ℕ ℕ) → IsSearchInRange r (length entries) → IsBinarySearchResult (λ (entry : HandleEntry). nat_cmp entry.handle handle) entries r
      → record { found : IfSome (result_ok r) (IsPlaceOf handle entries); none : IfNone (result_ok r) (list_any (is_handle handle) entries ≡ false) }
  searched (Ok at) within equal = record { found = record { within = within; here = λ d. ranked _ handle _ (sym (equal d)) }; none = tt }
  searched (Err at) within parted = record {
    found = tt;
    none = none_pass (is_handle handle) nobody entries (λ k h.
        let low : k < at → handle_at entries k < handle = λ lt. ranked _ handle _ (sym ((parted comparisons_rise).0 k nobody (omega arith) lt)) in
        let high : at ≤ k → handle < handle_at entries k = λ le. ranked _ handle _ (sym ((parted comparisons_rise).1 k nobody le h)) in
        ne_eqb (handle_at entries k) handle (apart k at (handle_at entries k) low high));
  }

  -- if no handle has the number, the search ends between the lesser and the greater ones
  pub room_searched : (at : ℕ) → IsSearchInRange (Err at) (length entries) → IsBinarySearchResult (λ (entry : HandleEntry). nat_cmp entry.handle handle) entries (Err at) → IsRoomFor handle entries at
  room_searched at within parted = record {
    within = within;
    before = λ k other lt. ranked _ handle _ (sym ((parted comparisons_rise).0 k other (omega arith) lt));
    after = λ k other le h. ranked _ handle _ (sym ((parted comparisons_rise).1 k other le h));
  }

  -- or the number is that of a handle
  pub not_absent : (at : ℕ) → IsSearchInRange (Ok at) (length entries) → IsBinarySearchResult (λ (entry : HandleEntry). nat_cmp entry.handle handle) entries (Ok at) → list_any (is_handle handle) entries ≡ false → IsRoomFor handle entries at
  not_absent at within equal none =
      let there : list_any (is_handle handle) entries ≡ true =
      list_any_at (is_handle handle) entries at nobody within (eq-eqb (handle_at entries at) handle (ranked _ handle _ (sym (equal nobody)))) in
      absurd (both_ways (list_any (is_handle handle) entries) none there)

-- ---- one handle among them

-- no handle is below the number from which they rise
pub none_below : (low handle : ℕ) (entries : List HandleEntry) → rise_from low entries ≡ true → handle < low → list_any (is_handle handle) entries ≡ false
none_below low handle entries rise lt =
    none_pass (is_handle handle) nobody entries (λ k h. ne_eqb (handle_at entries k) handle (λ same. omega (arith, low_at low entries k rise h)))

rise_after : (low : ℕ) (entries : List HandleEntry) (i : ℕ) → rise_from low entries ≡ true → i < length entries → rise_from (handle_at entries i + 1) (drop (suc i) entries) ≡ true
rise_after low [] i rise h = absurd (omega arith)
rise_after low (entry ∷ entries) zero rise h = (head_rises low entry entries rise).1
rise_after low (entry ∷ entries) (suc i) rise h = rise_after (entry.handle + 1) entries i (head_rises low entry entries rise).1 (omega arith)

-- the entry at a handle's place is its only one
pub only_at : (handle : ℕ) (entries : List HandleEntry) (place : ℕ) (d : HandleEntry) → rise_from 1 entries ≡ true → IsPlaceOf handle entries place → IsOnly (is_handle handle) entries place (get_or entries place d)
only_at handle entries place d rise is =
    let here : handle_at entries place ≡ handle = is.here nobody in
    record {
      inside = is.within;
      split = split_at entries place d is.within;
      passes = eq-eqb (get_or entries place d).handle handle (is.here d);
      before = none_pass (is_handle handle) nobody (take place entries) (λ k h.
          let below : k < place = omega (arith, length-take place entries) in
          let same : get_or (take place entries) k nobody ≡ get_or entries k nobody = get_or-take place entries k nobody below in
          rw same (ne_eqb (handle_at entries k) handle (λ e. omega (arith, rises_at 1 entries k place rise below is.within))));
      after = none_below (handle_at entries place + 1) handle (drop (suc place) entries) (rise_after 1 entries place rise is.within) (omega arith);
    }

-- ---- what keeps the order

rise_more : (a b : ℕ) (entries : List HandleEntry) → a ≤ b → rise_from b entries ≡ true → rise_from a entries ≡ true
rise_more a b [] le rise = refl
rise_more a b (entry ∷ entries) le rise =
    let parts = head_rises b entry entries rise in
    and_from (nat_le a entry.handle) (rise_from (entry.handle + 1) entries) (le-leb a entry.handle (omega (arith, parts.0))) parts.1

-- leaving out entries
pub rise_from-filter : (p : HandleEntry → Bool) (low : ℕ) (entries : List HandleEntry) → rise_from low entries ≡ true → rise_from low (filter p entries) ≡ true
rise_from-filter p low [] rise = refl
rise_from-filter p low (entry ∷ entries) rise =
    let parts = head_rises low entry entries rise in
    let rest : rise_from (entry.handle + 1) (filter p entries) ≡ true = rise_from-filter p (entry.handle + 1) entries parts.1 in
    elim (p entry) as (λ b. rise_from low (cond b (entry ∷ filter p entries) (filter p entries)) ≡ true) [
      | true ↦ and_from (nat_le low entry.handle) (rise_from (entry.handle + 1) (filter p entries)) (le-leb low entry.handle parts.0) rest
      | false ↦ rise_more low (entry.handle + 1) (filter p entries) (omega (arith, parts.0)) rest
    ]

-- changing entries except for their numbers
pub rise_from-map : (g : HandleEntry → HandleEntry) → ((entry : HandleEntry) → (g entry).handle ≡ entry.handle) → (low : ℕ) (entries : List HandleEntry) → rise_from low (map g entries) ≡ rise_from low entries
rise_from-map g same low [] = refl
rise_from-map g same low (entry ∷ entries) = rw (same entry, rise_from-map g same (entry.handle + 1) entries) refl

-- a greater number at the end
pub rise_from-push : (low : ℕ) (entries : List HandleEntry) (new : HandleEntry) → rise_from low entries ≡ true → list_all (is_below new.handle) entries ≡ true → low ≤ new.handle → rise_from low (entries ++ new ∷ []) ≡ true
rise_from-push low [] new rise below le = and_from (nat_le low new.handle) true (le-leb low new.handle le) refl
rise_from-push low (entry ∷ entries) new rise below le =
    let parts = head_rises low entry entries rise in
    let lower = and_parts (is_below new.handle entry) (list_all (is_below new.handle) entries) below in
    and_from (nat_le low entry.handle) (rise_from (entry.handle + 1) (entries ++ new ∷ [])) (le-leb low entry.handle parts.0)
    (rise_from-push (entry.handle + 1) entries new parts.1 lower.1 (omega (arith, ltb-true entry.handle new.handle lower.0)))

pub below-map : (g : HandleEntry → HandleEntry) → ((entry : HandleEntry) → (g entry).handle ≡ entry.handle) → (high : ℕ) (entries : List HandleEntry) → list_all (is_below high) (map g entries) ≡ list_all (is_below high) entries
below-map g same high [] = refl
below-map g same high (entry ∷ entries) = rw (same entry, below-map g same high entries) refl

pub list_all-filter : (p q : HandleEntry → Bool) (entries : List HandleEntry) → list_all q entries ≡ true → list_all q (filter p entries) ≡ true
list_all-filter p q [] all = refl
list_all-filter p q (entry ∷ entries) all =
    let parts = and_parts (q entry) (list_all q entries) all in
    let rest : list_all q (filter p entries) ≡ true = list_all-filter p q entries parts.1 in
    elim (p entry) as (λ b. list_all q (cond b (entry ∷ filter p entries) (filter p entries)) ≡ true) [
      | true ↦ and_from (q entry) (list_all q (filter p entries)) parts.0 rest
      | false ↦ rest
    ]

-- a greater number above all
pub below_more : (a b : ℕ) (entries : List HandleEntry) → a ≤ b → list_all (is_below a) entries ≡ true → list_all (is_below b) entries ≡ true
below_more a b [] le all = refl
below_more a b (entry ∷ entries) le all =
    let parts = and_parts (is_below a entry) (list_all (is_below a) entries) all in
    and_from (is_below b entry) (list_all (is_below b) entries) (lt-ltb entry.handle b (omega (arith, ltb-true entry.handle a parts.0))) (below_more a b entries le parts.1)
