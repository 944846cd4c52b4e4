-- Lines for the numbers of a range, one after the other, and a test of each.
use Rattle.std.proofs.Common.{◌≡◌, ◌+◌, ◌-◌, ◌<◌, ℕ, Bool, true, false, find, refl, Some, Result, Ok, Err}
use Rattle.std.specs.List.{list_any, range_with_len}
use Rattle.service_model.specs.Words.{each}
use Rattle.service_model.specs.declared.plan.Stop.{Stop}
use Rattle.service_rows.proofs.Ranges.{rest_of}

-- a line that goes on, and one that stops
pub each_on : (line : ℕ → Result Unit Stop) (i count : ℕ) → i < count → line i ≡ Ok tt → each line (range_with_len i (count - i)) ≡ each line (range_with_len (i + 1) (count - (i + 1)))
each_on line i count less on = rw (rest_of i count less, on) refl

pub each_stop : (line : ℕ → Result Unit Stop) (i count : ℕ) (stop : Stop) → i < count → line i ≡ Err stop → each line (range_with_len i (count - i)) ≡ Err stop
each_stop line i count stop less stops = rw (rest_of i count less, stops) refl

-- a test that fails, and one that holds
pub any_on : (test : ℕ → Bool) (i count : ℕ) → i < count → test i ≡ false → list_any test (range_with_len i (count - i)) ≡ list_any test (range_with_len (i + 1) (count - (i + 1)))
any_on test i count less fails = rw (rest_of i count less, fails) refl

pub any_here : (test : ℕ → Bool) (i count : ℕ) → i < count → test i ≡ true → list_any test (range_with_len i (count - i)) ≡ true
any_here test i count less holds = rw (rest_of i count less, holds) refl

-- the first number that passes a test
pub find_on : (test : ℕ → Bool) (i count : ℕ) → i < count → test i ≡ false → find test (range_with_len i (count - i)) ≡ find test (range_with_len (i + 1) (count - (i + 1)))
find_on test i count less fails = rw (rest_of i count less, fails) refl

pub find_here : (test : ℕ → Bool) (i count : ℕ) → i < count → test i ≡ true → find test (range_with_len i (count - i)) ≡ Some i
find_here test i count less holds = rw (rest_of i count less, holds) refl
