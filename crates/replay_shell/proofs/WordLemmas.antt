-- The size of a load as std reads it.
use Rattle.std.proofs.Common.{◌≡◌, ℕ, zero, suc, ◌^◌, ◌<◌, ◌≤◌, Bool, true, false, ◌&&◌, nat_eq, nat_lt, List, [], ◌∷◌, length, refl, sym, ap, ◌∙◌, arith}
use Rattle.std.specs.Prelude.{Some, Result, Ok, Err}
use Rattle.std.specs.Char.{digit_value}
use Rattle.std.specs.List.{list_all}
use Rattle.std.specs.Str.Parse.{AllDigits, ParsesUnsigned, digits_value}
use Rattle.std.specs.Result.{OkIff, result_ok}
use Rattle.std.proofs.lemmas.Str.Parse.{IsNumeralModel, digits_value_short, numerals_by_value, parse_digits, tells_digits}
use Rattle.std.proofs.lemmas.Bool.Decides.{nat_tests}
use Rattle.script_text.specs.Numbers.{is_digit, numeral}

and-true : (a b : Bool) → a && b ≡ true → (a ≡ true) × (b ≡ true)
and-true true b h = (refl, h)
and-true false b h = absurd cc

below : (n : ℕ) → nat_lt n 10 ≡ true → n < 10
below n h = grind (arith, nat_tests)

digit_of : (byte : ℕ) → is_digit 10 byte ≡ true → digit_value byte < 10
digit_of byte h = below (digit_value byte) h

all_digits : (word : List ℕ) → list_all (is_digit 10) word ≡ true → AllDigits 10 word
all_digits [] h = tt
all_digits (byte ∷ word) h =
    let parts = and-true (is_digit 10 byte) (list_all (is_digit 10) word) h in
    (digit_of byte parts.0, all_digits word parts.1)

own : IsNumeralModel (AllDigits 10) (digits_value 10)
own = numerals_by_value (AllDigits 10) tells_digits

-- of such words only the empty one is not read
empty : (size value : ℕ) → value < 10 ^ 3 → ¬ ((0 < size) × (value < 2 ^ 32)) → nat_eq size 0 ≡ true
empty zero value small refused = refl
empty (suc size) value small refused = absurd (refused (omega arith, omega arith))

numeral_by : {E : Type 0} (word : List ℕ) (result : Result ℕ E) → length word ≤ 3 → list_all (is_digit 10) word ≡ true → digits_value 10 word < 10 ^ 3
    → OkIff result ((0 < length word) × (digits_value 10 word < 2 ^ 32)) (digits_value 10 word) → result_ok result ≡ numeral 10 word
numeral_by word (Ok number) short digits small is =
    let some : nat_eq (length word) 0 ≡ false = grind (arith, nat_tests, is.0.0) in
    let fits : nat_lt (digits_value 10 word) (2 ^ 64) ≡ true = grind (arith, nat_tests) in
    let whole : numeral 10 word ≡ Some (digits_value 10 word) = rw (some, digits, fits) refl in
    ap Some is.1 ∙ sym whole
numeral_by word (Err error) short digits small is =
    let none : nat_eq (length word) 0 ≡ true = empty (length word) (digits_value 10 word) small is in
    rw none refl

-- at most three digits are read as the number that they write
pub number_is : {E : Type 0} (word : List ℕ) (result : Result ℕ E) → length word ≤ 3 → list_all (is_digit 10) word ≡ true → ParsesUnsigned 32 10 word result → result_ok result ≡ numeral 10 word
number_is word result short digits parsed =
    let all = all_digits word digits in
    numeral_by word result short digits (digits_value_short own word 3 all short) (parse_digits own 32 word result parsed all)
