-- The rows of InstallMultipleProtocolInterfaces and UninstallMultipleProtocolInterfaces end with pairs that can be
-- installed, and with pairs that can be read.
use Rattle.std.proofs.Common.{◌≡◌, ◌<◌, ◌≤◌, inl, inr, ℕ, zero, suc, ◌+◌, Bool, true, false, not, nat_le, refl, ap, arith}
use Rattle.std.specs.Prelude.{List, Option, Some, None, is_ok, Result, Ok, Err, if◌then◌else◌}
use Rattle.std.specs.List.{list_all, range_with_len}
use Rattle.std.proofs.lemmas.Bool.{and_from, cases_lt, le-leb, not-false, or_parts}
use Rattle.fw_types.specs.declared.status.TheConstants.Status.{INVALID_PARAMETER}
use Rattle.handle_db.specs.Database.{interface_of, is_live}
use Rattle.world_model.specs.World.{State}
use Rattle.service_model.specs.Words.{◌>>=◌, dead, each, handle_or_none, null, number, refuse_if}
use Rattle.service_model.specs.Many.{all_fit, handle_for, interface_place, is_at, pair_at, pair_installed_on, pair_interface, pair_place, pairs_before}
use Rattle.service_model.specs.Allowed.{can_install, can_read_pairs, live_if}
use Rattle.service_model.specs.declared.numbers.TheConstants.{MOST_PAIRS}
use Rattle.service_model.specs.declared.plan.Stop.{Stop}
use Rattle.service_model.specs.declared.plan.Stop.TheVariants.{Status}
use Rattle.service_model.proofs.RowLines.{Says, each-at, says-end, says-found, says-if, says-stop, says-weaker}

-- what is shown of each number holds of all
pub all-of : (test : ℕ → Bool) (from n : ℕ) → ((i : ℕ) → from ≤ i → i < from + n → test i ≡ true) → list_all test (range_with_len from n) ≡ true
all-of test from zero holds = refl
all-of test from (suc n) holds =
    and_from (test from) (list_all test (range_with_len (from + 1) n)) (holds from (omega arith) (omega arith))
    (all-of test (from + 1) n (λ i low high. holds i (omega arith) (omega arith)))

-- a handle that is not dead is live
pub lives : (handle : ℕ) (w : State) → dead handle w ≡ false → is_live handle w.soft.database ≡ true
lives handle w is = not-false (is_live handle w.soft.database) (or_parts (null handle) (not (is_live handle w.soft.database)) is).1

handle_or_none-live : (given : ℕ) (w : State) → Says (λ (handle : Option ℕ). live_if handle w.soft.database ≡ true) (handle_or_none given w)
handle_or_none-live given w =
    let P : Option ℕ → Type 0 = λ handle. live_if handle w.soft.database ≡ true in
    says-if P (null given) (Ok None) (if dead given w then Err (Status INVALID_PARAMETER) else Ok (Some given))
    (λ none. says-end P None refl)
    (λ some. says-if P (dead given w) (Err (Status INVALID_PARAMETER)) (Ok (Some given))
    (λ gone. says-stop P (Status INVALID_PARAMETER))
    (λ there. says-end P (Some given) (lives given w there)))

handle-live : (given count : ℕ) (w : State) → Says (λ (handle : Option ℕ). live_if handle w.soft.database ≡ true) (handle_for given count w)
handle-live given zero w = says-end (λ (handle : Option ℕ). live_if handle w.soft.database ≡ true) None refl
handle-live given (suc count) w = handle_or_none-live given w

-- at most so many more pairs than before are counted
pairs-few : (most done list : ℕ) (w : State) → Says (λ (pairs : ℕ × Bool). pairs.0 ≤ done + most) (pairs_before most done list w)
unfolding pairs_before
pairs-few zero done list w =
    let P : ℕ × Bool → Type 0 = λ pairs. pairs.0 ≤ done + 0 in
    says-found P (number (pair_place list done) w) _ (λ pointer read. says-end P (done, null pointer) (omega arith))
pairs-few (suc most) done list w =
    let P : ℕ × Bool → Type 0 = λ pairs. pairs.0 ≤ done + suc most in
    says-found P (number (pair_place list done) w) _ (λ pointer read.
    says-if P (null pointer) (Ok (done, true)) _
    (λ last. says-end P (done, true) (omega arith))
    (λ more.
    says-found P (number (interface_place list done) w) (λ interface. pairs_before most (done + 1) list w) (λ interface there.
    says-weaker P (pairs_before most (done + 1) list w) (pairs-few most (done + 1) list w) (λ pairs few. omega arith))))

-- and the interface of each was read
pairs-read : (most done list : ℕ) (w : State) → Says (λ (pairs : ℕ × Bool). (i : ℕ) → done ≤ i → i < pairs.0 → is_ok (pair_interface list i w) ≡ true) (pairs_before most done list w)
unfolding pairs_before
pairs-read zero done list w =
    let P : ℕ × Bool → Type 0 = λ pairs. (i : ℕ) → done ≤ i → i < pairs.0 → is_ok (pair_interface list i w) ≡ true in
    says-found P (number (pair_place list done) w) _ (λ pointer read. says-end P (done, null pointer) (λ i low high. absurd (omega arith)))
pairs-read (suc most) done list w =
    let P : ℕ × Bool → Type 0 = λ pairs. (i : ℕ) → done ≤ i → i < pairs.0 → is_ok (pair_interface list i w) ≡ true in
    says-found P (number (pair_place list done) w) _ (λ pointer read.
    says-if P (null pointer) (Ok (done, true)) _
    (λ last. says-end P (done, true) (λ i low high. absurd (omega arith)))
    (λ more.
    says-found P (number (interface_place list done) w) (λ interface. pairs_before most (done + 1) list w) (λ interface there.
    says-weaker P (pairs_before most (done + 1) list w) (pairs-read most (done + 1) list w) (λ pairs later i low high.
    elim (cases_lt done i) [
      | inl above ↦ later i (omega arith) high
      | inr first ↦
          let same : i ≡ done = omega arith in
          rw same (ap is_ok there)
    ]))))

pub fits-of : (handle : Option ℕ) (list given : ℕ) (pairs : ℕ × Bool) (w : State) → pairs_before MOST_PAIRS 0 list w ≡ Ok pairs → handle_for given pairs.0 w ≡ Ok handle → all_fit handle list pairs.0 w ≡ Ok tt
    → can_install handle list pairs.0 w ≡ true
fits-of handle list given pairs w counts name_is fit =
    let most : pairs.0 ≤ 0 + MOST_PAIRS = pairs-few MOST_PAIRS 0 list w pairs counts in
    let few : nat_le pairs.0 MOST_PAIRS ≡ true = le-leb pairs.0 MOST_PAIRS (omega arith) in
    let live : live_if handle w.soft.database ≡ true = handle-live given pairs.0 w handle name_is in
    let read : list_all (λ i. is_ok (pair_interface list i w)) (range_with_len 0 pairs.0) ≡ true =
    all-of (λ i. is_ok (pair_interface list i w)) 0 pairs.0 (λ i low high. pairs-read MOST_PAIRS 0 list w pairs counts i low (omega arith)) in
    rw (few, live, fit, read) refl

-- ---- uninstalling

-- a pair that is there was read
pair-read : (pair : Result (List ℕ × ℕ) Stop) (handle : ℕ) (w : State)
    → (pair >>= λ pair. refuse_if (not (is_at (interface_of handle pair.0 w.soft.database) pair.1)) INVALID_PARAMETER) ≡ Ok tt → is_ok pair ≡ true
pair-read (Ok pair) handle w there = refl
pair-read (Err stop) handle w there = absurd cc

pub pairs-readable : (handle list : ℕ) (pairs : ℕ × Bool) (w : State) → pairs_before MOST_PAIRS 0 list w ≡ Ok pairs
    → each (pair_installed_on handle list w) (range_with_len 0 pairs.0) ≡ Ok tt → can_read_pairs list pairs.0 w ≡ true
pairs-readable handle list pairs w counts there =
    let most : pairs.0 ≤ 0 + MOST_PAIRS = pairs-few MOST_PAIRS 0 list w pairs counts in
    let few : nat_le pairs.0 MOST_PAIRS ≡ true = le-leb pairs.0 MOST_PAIRS (omega arith) in
    let read : list_all (λ i. is_ok (pair_at list i w)) (range_with_len 0 pairs.0) ≡ true =
    all-of (λ i. is_ok (pair_at list i w)) 0 pairs.0 (λ i low high. pair-read (pair_at list i w) handle w (each-at (pair_installed_on handle list w) 0 pairs.0 there i low high)) in
    rw (few, read) refl
