use Rattle.std.proofs.Common.{◌≡◌, ◌<◌, ℕ, zero, suc, Bool, true, false, ◌&&◌, nat_lt, List, [], ◌∷◌, length, get_or, drop, map, refl, add-one, arith}
use Rattle.std.proofs.lemmas.Bool.Decides.{nat_tests}
use Rattle.ebc_decode.specs.Spelling.{rows}
use Rattle.ebc_decode.proofs.laws.opcodes_rise.Goals as goal

-- whether each number is below the next
abbrev rise_from : ℕ → List ℕ → Bool
rise_from x [] = true
rise_from x (y ∷ ys) = nat_lt x y && rise_from y ys

both : (a b : Bool) → a && b ≡ true → (a ≡ true) × (b ≡ true)
both true b e = (refl, e)
both false b e = absurd cc

below : (x y : ℕ) → nat_lt x y ≡ true → x < y
below x y e = grind (arith, nat_tests)

adjacent : (x : ℕ) (ys : List ℕ) → rise_from x ys ≡ true → (k : ℕ) → suc k < length (x ∷ ys) → get_or (x ∷ ys) k 0 < get_or (x ∷ ys) (suc k) 0
adjacent x [] e k h = absurd (omega arith)
adjacent x (y ∷ ys) e zero h = below x y (both (nat_lt x y) (rise_from y ys) e).0
adjacent x (y ∷ ys) e (suc k) h = adjacent y ys (both (nat_lt x y) (rise_from y ys) e).1 k (omega arith)

pub returns : goal.returns
returns c k h = rw add-one (adjacent 0 (drop 1 (map (λ r. r.opcode) rows)) refl k (omega arith))
