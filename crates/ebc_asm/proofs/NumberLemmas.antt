-- The number that digits write, digit by digit.
use Rattle.std.proofs.Common.{◌≡◌, ℕ, ◌+◌, ◌*◌, ◌^◌, ◌<◌, ◌≤◌, List, [], ◌∷◌, Some, None, Option, false, cond, length, drop, get_or, refl, ap, arith, nat_lt, add-one, drop-cons}
use Rattle.std.specs.Char.{digit_value}
use Rattle.std.specs.Str.Parse.{digits_value_after}
use Rattle.std.proofs.Math.Nat.{mul-le-mul_left}
use Rattle.std.proofs.lemmas.Bool.Decides.{nat_tests}
use Rattle.std.proofs.lemmas.Grind.{common_steps}

-- a number, if it fits 64 bits
abbrev pub fitting : ℕ → Option ℕ
fitting n = cond (nat_lt n (2 ^ 64)) (Some n) None

-- more digits make no smaller number
pub digits_value_after-ge : (base n : ℕ) (ds : List ℕ) → 1 ≤ base → n ≤ digits_value_after base n ds
digits_value_after-ge base n [] h = omega arith
digits_value_after-ge base n (c ∷ cs) h =
    let grows : n * 1 ≤ n * base = mul-le-mul_left n h in
    let more : n * base + digit_value c ≤ digits_value_after base (n * base + digit_value c) cs = digits_value_after-ge base (n * base + digit_value c) cs h in
    omega arith

-- one more digit
pub value-step : (base n i c : ℕ) (ds : List ℕ) → i < length ds → c ≡ get_or ds i 0 → digits_value_after base n (drop i ds) ≡ digits_value_after base (n * base + digit_value c) (drop (i + 1) ds)
value-step base n i c ds lt e =
    let split : drop i ds ≡ c ∷ drop (i + 1) ds = rw (add-one, e) (drop-cons ds i 0 lt) in
    ap (digits_value_after base n) split

-- a number that is too great already
pub value-over : (base n i c : ℕ) (ds : List ℕ) → 1 ≤ base → i < length ds → c ≡ get_or ds i 0 → 2 ^ 64 ≤ n * base + digit_value c → fitting (digits_value_after base n (drop i ds)) ≡ None
value-over base n i c ds one lt e h =
    let more : n * base + digit_value c ≤ digits_value_after base (n * base + digit_value c) (drop (i + 1) ds) = digits_value_after-ge base (n * base + digit_value c) (drop (i + 1) ds) one in
    let t : nat_lt (digits_value_after base (n * base + digit_value c) (drop (i + 1) ds)) (2 ^ 64) ≡ false = grind (arith, nat_tests) in
    rw (value-step base n i c ds lt e, t) refl

pub value-end : (base n i : ℕ) (ds : List ℕ) → i ≡ length ds → digits_value_after base n (drop i ds) ≡ n
value-end base n i ds e =
    let gone : drop i ds ≡ [] = grind (arith, common_steps) in
    rw gone refl

pub ruleset values = (value-step, value-over, value-end)
