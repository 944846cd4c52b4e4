-- Counting down.
use Rattle.std.proofs.Common.{◌≡◌, ◌-◌, ◌<◌, ℕ, suc, arith}

-- one less than a number above 0, and one more again, is the number itself
pub one_less : (n : ℕ) → 0 < n → suc (n - 1) ≡ n
one_less n some = omega arith
