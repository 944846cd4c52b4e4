-- The row of ConnectController: its list of handles ends at a 0.
use Rattle.std.proofs.Common.{◌≡◌, ◌<◌, ◌≤◌, inl, inr, ℕ, zero, suc, ◌+◌, Bool, true, false, not, nat_eq, nat_lt, cond, find, refl, ap, sym, ◌∙◌, subst, arith}
use Rattle.std.specs.Prelude.{Option, Some, None, ok_or, Ok, if◌then◌else◌}
use Rattle.std.specs.List.{list_all, range_with_len}
use Rattle.std.proofs.lemmas.Bool.{and_from, cases_lt, not-false}
use Rattle.std.proofs.lemmas.Bool.Decides.{nat_tests}
use Rattle.fw_types.specs.declared.status.TheConstants.Status.{INVALID_PARAMETER}
use Rattle.fw_types.specs.declared.event.Cause.TheVariants.{Memory}
use Rattle.guest_memory.specs.GuestMemory.{number_of}
use Rattle.service_thunks.specs.Arguments.{slot_at}
use Rattle.world_model.specs.World.{State}
use Rattle.service_model.specs.Words.{◌>>=◌, null}
use Rattle.service_model.specs.Connecting.{connect_controller, context_length, first_without, has_handle, is_at_end, is_handle, length_by, path_readable}
use Rattle.service_model.specs.Allowed.{ConnectIsAllowed, ContextEndsAtZero, is_allowed, is_zero}
use Rattle.service_model.specs.declared.numbers.TheConstants.{CONTEXT_SLOTS}
use Rattle.service_model.specs.declared.plan.Change.{Change}
use Rattle.service_model.specs.declared.plan.Change.TheVariants.{Connect}
use Rattle.service_model.specs.declared.plan.Stop.TheVariants.{Status, Trap}
use Rattle.service_model.proofs.PairRows.{all-of}
use Rattle.service_model.proofs.RowLines.{Says, says-after, says-end, says-found}

-- ---- the first number that fails a test

record IsFirst (test : ℕ → Bool) (from n i : ℕ) : Type 0 where
  low : from ≤ i
  high : i < from + n
  fails : test i ≡ false
  before : (k : ℕ) → from ≤ k → k < i → test k ≡ true

first-found : (test : ℕ → Bool) (from n i : ℕ) → find (λ k. not (test k)) (range_with_len from n) ≡ Some i → IsFirst test from n i
first-found test from zero i is = absurd cc
first-found test from (suc n) i is = by_test (test from) refl is (λ later. first-found test (from + 1) n i later)
  where
    by_test : (here : Bool) → test from ≡ here → cond (not here) (Some from) (find (λ k. not (test k)) (range_with_len (from + 1) n)) ≡ Some i
        → (find (λ k. not (test k)) (range_with_len (from + 1) n) ≡ Some i → IsFirst test (from + 1) n i) → IsFirst test from (suc n) i
    by_test false here is later =
        let same : from ≡ i = cc in
        record {
          low = omega arith;
          high = omega arith;
          fails = ap test (sym same) ∙ here;
          before = λ k low high. absurd (omega arith);
        }
    by_test true here is later =
        let rest = later is in
        record {
          low = omega (arith, rest.low);
          high = omega (arith, rest.high);
          fails = rest.fails;
          before = λ k low high. elim (cases_lt from k) [
            | inl above ↦ rest.before k (omega arith) high
            | inr first ↦
                let same : k ≡ from = omega arith in
                rw same here
          ];
        }

-- the first slot without a handle
first-without : (slots list i : ℕ) (w : State) → first_without slots list w ≡ Some i → IsFirst (has_handle list w) 0 slots i
unfolding first_without
first-without slots list i w is = first-found (has_handle list w) 0 slots i is

-- ---- the list

record IsContext (list count : ℕ) (w : State) : Type 0 where
  few : nat_lt count CONTEXT_SLOTS ≡ true
  handles : list_all (has_handle list w) (range_with_len 0 count) ≡ true
  end : (if null list then nat_eq count 0 else is_zero (number_of w.soft.memory (slot_at list count) 8)) ≡ true

-- what is read in a slot without a handle is a 0
zero-read : (found : Option ℕ) (i : ℕ) (length : Option ℕ) → is_handle (ok_or found (Trap Memory)) ≡ false → (ok_or found (Trap Memory) >>= λ value. Ok (Some i)) ≡ Ok length
    → (is_zero found ≡ true) × (length ≡ Some i)
zero-read None i length none is = absurd cc
zero-read (Some value) i length none is = (not-false (null value) none, cc)

context-of : (list count : ℕ) (w : State) → context_length list w ≡ Ok (Some count) → IsContext list count w
context-of list count w is = by_null (null list) refl is
  where
    by_slot : (first : Option ℕ) → first_without CONTEXT_SLOTS list w ≡ first → null list ≡ false → length_by first list w ≡ Ok (Some count) → IsContext list count w
    by_slot None found some is = absurd cc
    by_slot (Some i) found some is =
        let first : IsFirst (has_handle list w) 0 CONTEXT_SLOTS i = first-without CONTEXT_SLOTS list i w found in
        let read = zero-read (number_of w.soft.memory (slot_at list i) 8) i (Some count) first.fails is in
        let same : i ≡ count = cc in
        let high : i < CONTEXT_SLOTS = omega (arith, first.high) in
        subst (λ count. IsContext list count w) same (record {
          few = grind (arith, nat_tests, high);
          handles = all-of (has_handle list w) 0 i (λ k low high. first.before k low (omega arith));
          end = rw some read.0;
        })

    by_null : (none : Bool) → null list ≡ none → (if none then Ok (Some 0) else length_by (first_without CONTEXT_SLOTS list w) list w) ≡ Ok (Some count) → IsContext list count w
    by_null true none is =
        let same : 0 ≡ count = cc in
        subst (λ count. IsContext list count w) same (record { few = refl; handles = refl; end = rw none refl })
    by_null false some is = by_slot (first_without CONTEXT_SLOTS list w) refl some is

-- ---- the row

counted-of : (length : Option ℕ) (count : ℕ) → ok_or length (Status INVALID_PARAMETER) ≡ Ok count → length ≡ Some count
counted-of None count is = absurd cc
counted-of (Some n) count is = cc

pub connect-allowed : ConnectIsAllowed
connect-allowed controller list path recursive w =
    let P : Change → Type 0 = λ change. is_allowed change w ≡ true in
    says-found P (context_length list w) _ (λ length read.
    says-after P (path_readable path w) _ (λ way.
    says-found P (ok_or length (Status INVALID_PARAMETER)) _ (λ count ends.
    let context : IsContext list count w = context-of list count w (read ∙ ap Ok (counted-of length count ends)) in
    says-end P (Connect controller list count path (is_at_end path w) (not (null recursive)))
    (and_from (nat_lt count CONTEXT_SLOTS) (list_all (has_handle list w) (range_with_len 0 count)) context.few context.handles))))

-- the list of a change that connects ends at a 0
abbrev Ends : (list : ℕ) → State → Change → Type 0
Ends list w (Connect controller at count path at_end recursive) = (if null list then nat_eq count 0 else is_zero (number_of w.soft.memory (slot_at list count) 8)) ≡ true
Ends list w _ = Unit {0}

ends : (controller list path recursive : ℕ) (w : State) → Says (Ends list w) (connect_controller controller list path recursive w)
ends controller list path recursive w =
    says-found (Ends list w) (context_length list w) _ (λ length read.
    says-after (Ends list w) (path_readable path w) _ (λ way.
    says-found (Ends list w) (ok_or length (Status INVALID_PARAMETER)) _ (λ count is.
    says-end (Ends list w) (Connect controller list count path (is_at_end path w) (not (null recursive)))
    (context-of list count w (read ∙ ap Ok (counted-of length count is))).end)))

pub context-ends : ContextEndsAtZero
context-ends controller list path recursive w other at count way at_end children is =
    ends controller list path recursive w (Connect other at count way at_end children) is
