-- Numbers as bytes, the lowest first.
use Rattle.std.proofs.Common.{◌≡◌, ◌≤◌, ◌<◌, ◌+◌, ◌*◌, ◌/◌, ◌%◌, ◌^◌, ℕ, zero, suc, List, [], ◌∷◌, length, take, get_or, refl, ap, sym, ◌∙◌, arith}
use Rattle.std.proofs.Math.Nat.{div-div-eq-div-mul, div-one, pow-suc}
use Rattle.std.specs.Int.{byte_at, bytes_low_first}
use Rattle.byteorder.specs.Endian.{little_from, little_number, little_bytes}
use Rattle.byteorder.specs.Numbers.{little_from-cons}

byte_at-pow : (j x : ℕ) → byte_at j x ≡ x / 256 ^ j % 256
byte_at-pow zero x = ap (λ (q : ℕ). q % 256) (sym (div-one x))
byte_at-pow (suc j) x = refl

div-low : (b y : ℕ) → b < 256 → (b + 256 * y) / 256 ≡ y
div-low b y h = omega arith

pow-suc' : (j : ℕ) → 256 ^ suc j ≡ 256 * 256 ^ j
pow-suc' j = omega (arith, pow-suc 256 j)

-- above the lowest byte is the rest of the number
byte_at-suc : (j b y : ℕ) → b < 256 → byte_at (suc j) (b + 256 * y) ≡ byte_at j y
byte_at-suc j b y h =
    let shift : (b + 256 * y) / 256 ^ suc j ≡ y / 256 ^ j = ap (λ (p : ℕ). (b + 256 * y) / p) (pow-suc' j) ∙ sym (div-div-eq-div-mul (b + 256 * y) 256 (256 ^ j)) ∙ ap (λ (q : ℕ). q / 256 ^ j) (div-low b y h) in
    ap (λ (q : ℕ). q % 256) shift ∙ sym (byte_at-pow j y)

bytes-suc : (j k b y : ℕ) → b < 256 → bytes_low_first (suc j) k (b + 256 * y) ≡ bytes_low_first j k y
bytes-suc j zero b y h = refl
bytes-suc j (suc k) b y h = rw (byte_at-suc j b y h, bytes-suc (suc j) k b y h) refl

-- the bytes of the number that bytes spell are these bytes
pub little_bytes-little_number : (n : ℕ) (xs : List ℕ) → n ≤ length xs → ((i : ℕ) → get_or xs i 0 < 256) → little_bytes n (little_number n xs) ≡ take n xs
little_bytes-little_number zero xs h fits = refl
little_bytes-little_number (suc n) [] h fits = absurd (omega arith)
little_bytes-little_number (suc n) (x ∷ xs) h fits =
    let rest = little_from 0 n xs in
    let small : x < 256 = fits 0 in
    let moved : little_from 1 n (x ∷ xs) ≡ rest = little_from-cons 0 n x xs in
    let first : (x + 256 * rest) % 256 ≡ x = omega arith in
    let later : bytes_low_first 0 n rest ≡ take n xs = little_bytes-little_number n xs (omega arith) (λ i. fits (suc i)) in
    rw (moved, first, bytes-suc 0 n x rest small, later) refl
