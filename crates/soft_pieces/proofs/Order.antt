-- Thunks that rise by number: what a search by address finds among them.
use Rattle.std.proofs.Common.{◌≡◌, ◌<◌, ◌≤◌, ℕ, zero, suc, ◌+◌, true, false, nat_le, List, [], ◌∷◌, length, take, drop, get_or, Ok, Err, Result, IfSome, IfNone, ap, sym, arith}
use Rattle.std.specs.List.{list_any}
use Rattle.std.specs.Result.{result_ok}
use Rattle.std.specs.List.Sorted.{IsSearchInRange, IsBinarySearchResult, IsNonDecreasingBy}
use Rattle.std.specs.Ordering.{nat_cmp, ordering_index}
use Rattle.std.proofs.lemmas.Cmp.{ranked}
use Rattle.std.proofs.lemmas.List.{get_or-take, length-take}
use Rattle.std.proofs.lemmas.List.Sorted.{IsNonDecreasingBy-from_default}
use Rattle.std.proofs.lemmas.Bool.{and_parts, eq-eqb, leb-true, ne_eqb}
use Rattle.std.proofs.lemmas.Bool.Decides.{nat_tests}
use Rattle.handle_db.proofs.OnlyOne.{IsOnly, none_pass, split_at}
use Rattle.world_model.specs.declared.thunk.Thunk.{Thunk}
use Rattle.world_model.specs.Thunks.{is_thunk_at, thunk_address}
use Rattle.world_model.specs.Kept.{numbers_rise}
use Rattle.soft_pieces.specs.Places.{IsPlaceOf}

-- past the end
abbrev pub nobody : Thunk
nobody = record { number = 0; entry = 0 }

abbrev pub address_at : List Thunk → ℕ → ℕ
address_at thunks i = thunk_address (get_or thunks i nobody).number

-- ---- the order by places

head_rises : (low : ℕ) (thunk : Thunk) (thunks : List Thunk) (next : ℕ) → numbers_rise low (thunk ∷ thunks) next ≡ true → (low ≤ thunk.number) × (numbers_rise (thunk.number + 1) thunks next ≡ true)
head_rises low thunk thunks next rise =
    let parts = and_parts (nat_le low thunk.number) (numbers_rise (thunk.number + 1) thunks next) rise in
    (leb-true low thunk.number parts.0, parts.1)

low_at : (low : ℕ) (thunks : List Thunk) (next i : ℕ) → numbers_rise low thunks next ≡ true → i < length thunks → thunk_address low ≤ address_at thunks i
low_at low [] next i rise h = absurd (omega arith)
low_at low (thunk ∷ thunks) next zero rise h = let first = (head_rises low thunk thunks next rise).0 in omega arith
low_at low (thunk ∷ thunks) next (suc i) rise h =
    let parts = head_rises low thunk thunks next rise in
    omega (arith, parts.0, low_at (thunk.number + 1) thunks next i parts.1 (omega arith))

rises_at : (low : ℕ) (thunks : List Thunk) (next i j : ℕ) → numbers_rise low thunks next ≡ true → i < j → j < length thunks → address_at thunks i < address_at thunks j
rises_at low [] next i j rise lt h = absurd (omega arith)
rises_at low (thunk ∷ thunks) next i zero rise lt h = absurd (omega arith)
rises_at low (thunk ∷ thunks) next zero (suc j) rise lt h =
    omega (arith, low_at (thunk.number + 1) thunks next j (head_rises low thunk thunks next rise).1 (omega arith))
rises_at low (thunk ∷ thunks) next (suc i) (suc j) rise lt h =
    rises_at (thunk.number + 1) thunks next i j (head_rises low thunk thunks next rise).1 (omega arith) (omega arith)

-- ---- a search

-- what is below on one side of a place and above on the other is not equal
apart : (k place address : ℕ) {at : ℕ} → (k < place → address < at) → (place ≤ k → at < address) → address ≡ at → ⊥
apart k place address low high same = grind (arith, low, high)

module _ (thunks : List Thunk) (next : ℕ) (rise : numbers_rise 0 thunks next ≡ true) (at : ℕ) where
  -- the comparisons with the address rise along the list, as a binary search asks
  comparisons_rise : IsNonDecreasingBy (λ (thunk : Thunk). ordering_index (nat_cmp (thunk_address thunk.number) at)) thunks
  comparisons_rise = IsNonDecreasingBy-from_default (λ (thunk : Thunk). ordering_index (nat_cmp (thunk_address thunk.number) at)) thunks nobody (λ i j le within.
      let up : address_at thunks i ≤ address_at thunks j = grind (arith, rises_at 0 thunks next i j rise, λ (same : i ≡ j). ap (address_at thunks) same) in
      grind (arith, nat_tests))

  -- a binary search by address ends at the thunk, or finds nothing if no thunk has the address
  pub searched : (r : Result ℕ ℕ) → IsSearchInRange r (length thunks) → IsBinarySearchResult (λ (thunk : Thunk). nat_cmp (thunk_address thunk.number) at) thunks r
      → record { found : IfSome (result_ok r) (IsPlaceOf at thunks); none : IfNone (result_ok r) (list_any (is_thunk_at at) thunks ≡ false) }
  searched (Ok place) within equal = record { found = record { within = within; here = λ d. ranked _ at _ (sym (equal d)) }; none = tt }
  searched (Err place) within parted = record {
    found = tt;
    none = none_pass (is_thunk_at at) nobody thunks (λ k h.
        let low : k < place → address_at thunks k < at = λ lt. ranked _ at _ (sym ((parted comparisons_rise).0 k nobody (omega arith) lt)) in
        let high : place ≤ k → at < address_at thunks k = λ le. ranked _ at _ (sym ((parted comparisons_rise).1 k nobody le h)) in
        ne_eqb (address_at thunks k) at (apart k place (address_at thunks k) low high));
  }

-- ---- one thunk among them

rise_behind : (low : ℕ) (thunks : List Thunk) (next i : ℕ) → numbers_rise low thunks next ≡ true → i < length thunks → numbers_rise ((get_or thunks i nobody).number + 1) (drop (suc i) thunks) next ≡ true
rise_behind low [] next i rise h = absurd (omega arith)
rise_behind low (thunk ∷ thunks) next zero rise h = (head_rises low thunk thunks next rise).1
rise_behind low (thunk ∷ thunks) next (suc i) rise h = rise_behind (thunk.number + 1) thunks next i (head_rises low thunk thunks next rise).1 (omega arith)

-- the thunk at an address's place is its only one
pub only_at : (at : ℕ) (thunks : List Thunk) (next place : ℕ) (d : Thunk) → numbers_rise 0 thunks next ≡ true → IsPlaceOf at thunks place → IsOnly (is_thunk_at at) thunks place (get_or thunks place d)
only_at at thunks next place d rise is =
    let here : address_at thunks place ≡ at = is.here nobody in
    record {
      inside = is.within;
      split = split_at thunks place d is.within;
      passes = eq-eqb (thunk_address (get_or thunks place d).number) at (is.here d);
      before = none_pass (is_thunk_at at) nobody (take place thunks) (λ k h.
          let below : k < place = omega (arith, length-take place thunks) in
          let same : get_or (take place thunks) k nobody ≡ get_or thunks k nobody = get_or-take place thunks k nobody below in
          rw same (ne_eqb (address_at thunks k) at (λ e. omega (arith, rises_at 0 thunks next k place rise below is.within))));
      after = none_pass (is_thunk_at at) nobody (drop (suc place) thunks) (λ k h.
          ne_eqb (address_at (drop (suc place) thunks) k) at (λ e. omega (arith, low_at ((get_or thunks place nobody).number + 1) (drop (suc place) thunks) next k (rise_behind 0 thunks next place rise is.within) h)));
    }
