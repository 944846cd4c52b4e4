-- Numbers of which some bytes lie past the end of a list.
use Rattle.std.proofs.Common.{◌≡◌, ◌≤◌, ◌+◌, ◌*◌, ℕ, zero, suc, min, List, length, slice_index, refl, ap, inl, inr, arith}
use Rattle.std.proofs.lemmas.List.{get_or_past}
use Rattle.std.proofs.lemmas.Bool.{cases_lt}
use Rattle.byteorder.specs.Endian.{little_from, little_number}

-- past the end there is nothing
little_from-past : (i n : ℕ) (xs : List ℕ) → length xs ≤ i → little_from i n xs ≡ 0
little_from-past i zero xs past = refl
little_from-past i (suc n) xs past =
    let byte : slice_index xs i ≡ 0 = get_or_past xs i 0 past in
    rw (byte, little_from-past (suc i) n xs (omega arith)) refl

-- nor do the bytes past the end count
little_from-present : (i n m : ℕ) (xs : List ℕ) → m ≤ n → length xs ≤ i + m → little_from i n xs ≡ little_from i m xs
little_from-present i n zero xs few past = little_from-past i n xs (omega arith)
little_from-present i zero (suc m) xs few past = absurd (omega arith)
little_from-present i (suc n) (suc m) xs few past =
    ap (λ (r : ℕ). slice_index xs i + 256 * r) (little_from-present (suc i) n m xs (omega arith) (omega arith))

-- the number in the bytes that are there
pub little_number-present : (n m : ℕ) (xs : List ℕ) → m ≡ min n (length xs) → little_number n xs ≡ little_number m xs
little_number-present n m xs present =
    elim (cases_lt (length xs) n) [
      | inl short ↦ little_from-present 0 n m xs (omega arith) (omega arith)
      | inr long ↦ let same : n ≡ m = omega arith in ap (λ (k : ℕ). little_number k xs) same
    ]
