-- Counts of calls and of faults, which stop at 2^64 - 1.
use Rattle.std.specs.Prelude.{◌≡◌, ℕ, ◌+◌, ◌-◌, ◌^◌, ◌<◌, ◌≤◌, ◌⊎◌, min}
use Rattle.std.proofs.Common.{le_refl, le_trans}

-- where a count stops
abbrev pub last_count : ℕ
last_count = 2 ^ 64 - 1

-- the count that follows a count
abbrev pub next_count : ℕ → ℕ
next_count count = min (count + 1) last_count

-- a count of faults rose: it is greater now than before, or it is where counts stop
abbrev pub Rose : ℕ → ℕ → Type 0
Rose before now = (before < now) ⊎ (now ≡ last_count)

-- a count has not fallen
abbrev pub IsNotFallen : ℕ → ℕ → Type 0
IsNotFallen before now = before ≤ now

-- a count that stays has not fallen
pub IsNotFallen-same : (count : ℕ) → IsNotFallen count count
IsNotFallen-same count = le_refl count

-- a count that has not fallen in the first of two steps, nor in the second, has not fallen
pub IsNotFallen-again : (a b c : ℕ) → IsNotFallen a b → IsNotFallen b c → IsNotFallen a c
IsNotFallen-again a b c first second = le_trans first second

-- so the count is not less than before
pub IsNotFallen-le : (a b : ℕ) → IsNotFallen a b → a ≤ b
IsNotFallen-le a b h = h
