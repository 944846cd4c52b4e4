-- What one digit more does to the number that digits write, and where a number is.
use Rattle.std.proofs.Common.{◌≡◌, ℕ, ◌+◌, ◌*◌, ◌^◌, ◌<◌, ◌≤◌, List, [], ◌∷◌, Some, None, Bool, true, false, ◌&&◌, ◌∙◌, length, drop, get_or, refl, ap, arith, add-one, drop-cons, nat_lt}
use Rattle.std.specs.Prelude.{Option, unwrap_or, if◌then◌else◌}
use Rattle.std.specs.Char.{digit_value}
use Rattle.std.specs.Str.Parse.{digits_value_after}
use Rattle.std.specs.List.{list_all}
use Rattle.std.proofs.Math.Nat.{mul-le-mul_left}
use Rattle.std.proofs.lemmas.Bool.Decides.{nat_tests}
use Rattle.std.proofs.lemmas.Grind.{common_steps}
use Rattle.fw_types.specs.Commands.{is_between}
use Rattle.script_text.specs.Numbers.{is_digit, only_between}

-- the number that digits write after those of n, if it fits in 64 bits
abbrev pub digits_after : ℕ → ℕ → List ℕ → Option ℕ
digits_after base n digits =
    if list_all (is_digit base) digits && nat_lt (digits_value_after base n digits) (2 ^ 64)
    then Some (digits_value_after base n digits) else None

-- more digits make no smaller number
digits_value_after-ge : (base n : ℕ) (digits : List ℕ) → 1 ≤ base → n ≤ digits_value_after base n digits
digits_value_after-ge base n [] h = omega arith
digits_value_after-ge base n (c ∷ cs) h =
    let next = n * base + digit_value c in
    let grows : n * 1 ≤ n * base = mul-le-mul_left n h in
    let more : next ≤ digits_value_after base next cs = digits_value_after-ge base next cs h in
    omega arith

digits_after-first : (base n c : ℕ) (digits : List ℕ) → digit_value c < base → digits_after base n (c ∷ digits) ≡ digits_after base (n * base + digit_value c) digits
digits_after-first base n c digits h = let digit : nat_lt (digit_value c) base ≡ true = grind (arith, nat_tests) in rw digit refl

digits_after-first_other : (base n c : ℕ) (digits : List ℕ) → base ≤ digit_value c → digits_after base n (c ∷ digits) ≡ None
digits_after-first_other base n c digits h = let digit : nat_lt (digit_value c) base ≡ false = grind (arith, nat_tests) in rw digit refl

and-false : (a : Bool) → (a && false) ≡ false
and-false true = refl
and-false false = refl

digits_after-first_over : (base n c : ℕ) (digits : List ℕ) → 1 ≤ base → 2 ^ 64 ≤ n * base + digit_value c → digits_after base n (c ∷ digits) ≡ None
digits_after-first_over base n c digits one h =
    let next = n * base + digit_value c in
    let more : next ≤ digits_value_after base next digits = digits_value_after-ge base next digits one in
    let over : nat_lt (digits_value_after base next digits) (2 ^ 64) ≡ false = grind (arith, nat_tests) in
    rw (over, and-false (list_all (is_digit base) (c ∷ digits))) refl

split-at : (i c : ℕ) (digits : List ℕ) → i < length digits → c ≡ get_or digits i 0 → drop i digits ≡ c ∷ drop (i + 1) digits
split-at i c digits lt e = rw (add-one, e) (drop-cons digits i 0 lt)

-- the digit at i belongs to the base
pub digits_after-step : (base n i c : ℕ) (digits : List ℕ) → i < length digits → c ≡ get_or digits i 0 → digit_value c < base → digits_after base n (drop i digits) ≡ digits_after base (n * base + digit_value c) (drop (i + 1) digits)
digits_after-step base n i c digits lt e h = ap (digits_after base n) (split-at i c digits lt e) ∙ digits_after-first base n c (drop (i + 1) digits) h

-- it does not
pub digits_after-other : (base n i c : ℕ) (digits : List ℕ) → i < length digits → c ≡ get_or digits i 0 → base ≤ digit_value c → digits_after base n (drop i digits) ≡ None
digits_after-other base n i c digits lt e h = ap (digits_after base n) (split-at i c digits lt e) ∙ digits_after-first_other base n c (drop (i + 1) digits) h

-- the number has grown past 64 bits
pub digits_after-over : (base n i c : ℕ) (digits : List ℕ) → 1 ≤ base → i < length digits → c ≡ get_or digits i 0 → 2 ^ 64 ≤ n * base + digit_value c → digits_after base n (drop i digits) ≡ None
digits_after-over base n i c digits one lt e h = ap (digits_after base n) (split-at i c digits lt e) ∙ digits_after-first_over base n c (drop (i + 1) digits) one h

-- no digit is left
pub digits_after-end : (base n i : ℕ) (digits : List ℕ) → i ≡ length digits → n < 2 ^ 64 → digits_after base n (drop i digits) ≡ Some n
digits_after-end base n i digits e h =
    let gone : drop i digits ≡ [] = grind (arith, common_steps) in
    let fits : nat_lt n (2 ^ 64) ≡ true = grind (arith, nat_tests) in
    rw (gone, fits) refl

pub ruleset numerals = (digits_after-step, digits_after-other, digits_after-over, digits_after-end)

least-between : (least most : ℕ) → least ≤ most → is_between least most least ≡ true
least-between least most h = grind (arith, nat_tests)

-- a number that is kept in a range, or its least number, is in the range
pub only_between-within : (least most : ℕ) (n : Option ℕ) → least ≤ most → is_between least most (unwrap_or (only_between least most n) least) ≡ true
only_between-within least most None h = least-between least most h
only_between-within least most (Some n) h =
    elim (is_between least most n) as (λ b. is_between least most n ≡ b → is_between least most (unwrap_or (if b then Some n else None) least) ≡ true) [
      | true ↦ λ inside. inside
      | false ↦ λ outside. least-between least most h
    ] refl
