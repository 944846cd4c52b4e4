-- The bytes that a sink has taken.
use Rattle.std.specs.Prelude.{◌≡◌, ◌<◌, ℕ, List, ◌++◌, Option, Some, None, option_map, length, refl, take}
use Rattle.std.proofs.Common.{ap, append_assoc}

-- the bytes taken after these bytes too, if they are known
abbrev pub with_bytes : Option (List ℕ) → List ℕ → Option (List ℕ)
with_bytes taken bytes = option_map (λ before. before ++ bytes) taken

-- bytes and then bytes are their concatenation
pub with_bytes-again : (taken : Option (List ℕ)) (xs ys : List ℕ) → with_bytes (with_bytes taken xs) ys ≡ with_bytes taken (xs ++ ys)
with_bytes-again None xs ys = refl
with_bytes-again (Some before) xs ys = ap Some (append_assoc before xs ys)

-- a prefix of the piece was taken, and not all of it
abbrev pub TakesProperPrefix : Option (List ℕ) → List ℕ → Option (List ℕ) → Type 0
TakesProperPrefix old piece new = (n : ℕ) × (n < length piece) × (new ≡ with_bytes old (take n piece))
