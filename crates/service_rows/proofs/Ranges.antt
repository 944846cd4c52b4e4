-- Lists of numbers that a loop goes through: the rest of a list from a number on is that number, followed by the rest
-- after it.
use Rattle.std.proofs.Common.{◌≡◌, ◌+◌, ◌-◌, ◌<◌, ℕ, suc, ◌∷◌, refl, arith}
use Rattle.std.specs.List.{range_with_len}

one_more : (i count : ℕ) → i < count → count - i ≡ suc (count - (i + 1))
one_more i count less = omega arith

pub rest_of : (i count : ℕ) → i < count → range_with_len i (count - i) ≡ i ∷ range_with_len (i + 1) (count - (i + 1))
rest_of i count less = rw (one_more i count less) refl
