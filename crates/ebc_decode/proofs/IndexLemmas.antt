use Rattle.std.proofs.Common.{◌≡◌, ◌≤◌, ◌<◌, ◌+◌, ◌-◌, ◌*◌, ◌/◌, ◌%◌, ◌^◌, ℕ, zero, suc, IsTrue, ◌⊎◌, inl, inr, arith}
use Rattle.std.proofs.Math.Nat.{mul-le-mul_left, mod-lt, div-le_of_le-mul, pow-le-pow_right, one-le-pow}
use Rattle.std.proofs.lemmas.Nat.{div-add-mod'}
use Rattle.std.proofs.lemmas.Bool.Decides.{nat_tests}
use Rattle.ebc_decode.specs.NaturalIndex.{is_index_size, natural_bits, distance, greatest_distance}

-- all units counted eight bytes each are the most, if all may be natural
split-le_8 : (u p : ℕ) → 0 < p → u / p + 8 * (u % p) ≤ 8 * u
split-le_8 u p above =
    let whole : u / p * p + u % p ≡ u = div-add-mod' u p in
    let c : u / p * 1 ≤ u / p * p = mul-le-mul_left (u / p) above in
    omega arith

-- in an index of 8 bytes there are either no natural units or few enough
split_8-le : (u w : ℕ) → u < 2 ^ 60 → w < 8 → u / 2 ^ (w * 8) + 8 * (u % 2 ^ (w * 8)) ≤ 2 ^ 60 - 1
split_8-le u zero fits small = omega arith
split_8-le u (suc w) fits small =
    let p = 2 ^ (suc w * 8) in
    let low : 2 ^ 3 ≤ p = pow-le-pow_right {n = 2} (omega arith) {i = 3} {j = suc w * 8} (omega arith) in
    let high : p ≤ 2 ^ 56 = pow-le-pow_right {n = 2} (omega arith) {i = suc w * 8} {j = 56} (omega arith) in
    let c : u / p ≤ 2 ^ 57 = div-le_of_le-mul p (omega (arith, mul-le-mul_left (2 ^ 57) low)) in
    let n : u % p < p = mod-lt u (omega arith) in
    omega arith

by_size : (P : ℕ → Type 0) → P 2 → P 4 → P 8 → (size : ℕ) → IsTrue (is_index_size size) → P size
by_size P two four eight size is =
    let sizes : (size ≡ 2) ⊎ ((size ≡ 4) ⊎ (size ≡ 8)) = grind (arith, nat_tests) in
    elim sizes [ inl e ↦ rw e two | inr later ↦ elim later [ inl e ↦ rw e four | inr e ↦ rw e eight ] ]

-- no distance is greater
pub distance_le : (raw size : ℕ) → IsTrue (is_index_size size) → distance raw size ≤ greatest_distance size
distance_le raw size is =
    by_size (λ s. distance raw s ≤ greatest_distance s)
    (omega (arith, split-le_8 (raw % 2 ^ 12) (2 ^ natural_bits raw 2) (one-le-pow (natural_bits raw 2) 2 (omega arith))))
    (omega (arith, split-le_8 (raw % 2 ^ 28) (2 ^ natural_bits raw 4) (one-le-pow (natural_bits raw 4) 2 (omega arith))))
    (let w = raw / 2 ^ 60 % 8 in
    let bits : natural_bits raw 8 ≡ w * 8 = omega arith in
    rw bits (split_8-le (raw % 2 ^ 60) w (omega arith) (omega arith)))
    size is
