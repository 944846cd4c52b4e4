-- The cases in which a service ends.
use Rattle.std.proofs.Common.{◌≡◌, ℕ, Bool, true, false, nat_lt, List, refl}
use Rattle.std.specs.Prelude.{Option, Some, None, ok_or, Result, Ok, Err, if◌then◌else◌}
use Rattle.fw_types.specs.declared.event.Cause.TheVariants.{Budget, Memory}
use Rattle.service_thunks.specs.Arguments.{arguments}
use Rattle.service_thunks.specs.declared.service.Service.{Service}
use Rattle.world_model.specs.World.{State, on_hard}
use Rattle.world_model.specs.Units.{units_spent}
use Rattle.service_model.specs.Words.{◌>>=◌, slots}
use Rattle.service_model.specs.BootServices.{end_of_row, fixed_price, priced_after, priced_with, priced_first, row, served, with_arguments, with_price}
use Rattle.service_model.specs.Untouched.{price_of}
use Rattle.service_model.specs.declared.call.Caller.{Caller}
use Rattle.service_model.specs.declared.call.Served.{Served}
use Rattle.service_model.specs.declared.call.Served.TheVariants.{Trap}
use Rattle.service_model.specs.declared.plan.Change.{Change}
use Rattle.service_model.specs.declared.plan.Stop.{Stop}
use Rattle.service_model.specs.declared.plan.Stop.TheVariants as stop

abbrev pub paid : ℕ → State → State
paid price w = on_hard (units_spent price) w

priced-by : (P : Served × State → Type 0) (price : ℕ) (work : State → Result Change Stop) (w : State)
    → (nat_lt w.hard.units price ≡ true → P (Trap Budget, w)) → (nat_lt w.hard.units price ≡ false → P (end_of_row (paid price w) (work (paid price w))))
    → P (with_price price work w)
priced-by P price work w short enough = by_test (nat_lt w.hard.units price) refl
  where
    by_test : (is_short : Bool) → nat_lt w.hard.units price ≡ is_short → P (if is_short then (Trap Budget, w) else end_of_row (paid price w) (work (paid price w)))
    by_test true is = short is
    by_test false is = enough is

-- The price is more than what is left; or an argument can't be read, before the price or after it; or the
-- price is paid and the row's work is done.
pub served-cases : (P : Result ℕ Stop → Served × State → Type 0) (s : Service) (c : Caller) (w : State)
    → ((price : ℕ) → nat_lt w.hard.units price ≡ true → P (Ok price) (Trap Budget, w))
    → P (Err (stop.Trap Memory)) (Trap Memory, w)
    → ((price : ℕ) → nat_lt w.hard.units price ≡ false → P (Ok price) (Trap Memory, paid price w))
    → ((price : ℕ) (a : List ℕ) → nat_lt w.hard.units price ≡ false → P (Ok price) (end_of_row (paid price w) ((row s).rest c a (paid price w))))
    → P (price_of s c w) (served s c w)
served-cases P s c w short unread refused worked =
    elim (row s).by_argument as (λ after.
    P (if after then (slots (row s).slots c.sp w >>= λ a. Ok ((row s).price a)) else Ok (fixed_price (row s)))
    (if after then priced_after (row s) c w else priced_first (row s) c w)) [
      | true ↦ by_argument (arguments w.soft.memory c.sp (row s).slots)
      | false ↦ priced-by (P (Ok first)) first (with_arguments (row s) c) w (short first) (fixed (arguments w.soft.memory c.sp (row s).slots))
    ]
  where
    first : ℕ
    first = fixed_price (row s)

    by_argument : (found : Option (List ℕ)) → P (ok_or found (stop.Trap Memory) >>= λ a. Ok ((row s).price a)) (priced_with (row s) c w (ok_or found (stop.Trap Memory)))
    by_argument (Some a) = priced-by (P (Ok ((row s).price a))) ((row s).price a) ((row s).rest c a) w (short ((row s).price a)) (worked ((row s).price a) a)
    by_argument None = unread

    fixed : (found : Option (List ℕ)) → nat_lt w.hard.units first ≡ false → P (Ok first) (end_of_row (paid first w) (ok_or found (stop.Trap Memory) >>= (λ a. (row s).rest c a (paid first w))))
    fixed (Some a) enough = worked first a enough
    fixed None enough = refused first enough

-- the same for what is not about the price
pub served-by : (P : Served × State → Type 0) (s : Service) (c : Caller) (w : State)
    → P (Trap Budget, w)
    → P (Trap Memory, w)
    → ((price : ℕ) → P (Trap Memory, paid price w))
    → ((price : ℕ) (a : List ℕ) → P (end_of_row (paid price w) ((row s).rest c a (paid price w))))
    → P (served s c w)
served-by P s c w short unread refused worked =
    served-cases (λ price end. P end) s c w (λ price is. short) unread (λ price is. refused price) (λ price a is. worked price a)
