-- Numbers of a script.
use Rattle.std.specs.Prelude.{ℕ, ◌^◌, List, Bool, not, ◌&&◌, ◌||◌, Option, Some, None, nat_eq, nat_lt, nat_le, length, drop, slice_index, codes, if◌then◌else◌}
use Rattle.std.specs.List.{list_all, starts_with}
use Rattle.std.specs.Char.{digit_value}
use Rattle.std.specs.Str.Parse.{digits_value_after}
use Rattle.fw_types.specs.Commands.{is_between}

-- a digit of a base: 0 to 9, then letters of either case
abbrev pub is_digit : ℕ → ℕ → Bool
is_digit base byte = nat_lt (digit_value byte) base

-- the number that digits write, if each is a digit of the base and the number fits in 64 bits
abbrev pub digits_in_64_bits : ℕ → List ℕ → Option ℕ
digits_in_64_bits base digits =
    if list_all (is_digit base) digits && nat_lt (digits_value_after base 0 digits) (2 ^ 64)
    then Some (digits_value_after base 0 digits) else None

-- at least one digit is needed
abbrev pub numeral : ℕ → List ℕ → Option ℕ
numeral base digits = if nat_eq (length digits) 0 then None else digits_in_64_bits base digits

-- a number: decimal digits, or `0x` and 1 to 16 hexadecimal digits
abbrev pub number_of : List ℕ → Option ℕ
number_of word =
    if starts_with nat_eq word (codes "0x")
    then (if nat_le (length word) 18 then numeral 16 (drop 2 word) else None)
    else numeral 10 word

abbrev pub only_between : ℕ → ℕ → Option ℕ → Option ℕ
only_between least most None = None
only_between least most (Some n) = if is_between least most n then Some n else None

-- the number that a word writes, if it is in a range
abbrev pub number_in : ℕ → ℕ → List ℕ → Option ℕ
number_in least most word = only_between least most (number_of word)

-- one or more decimal digits without a leading zero
abbrev pub is_plain_decimal : List ℕ → Bool
is_plain_decimal word =
    not (nat_eq (length word) 0) && list_all (is_digit 10) word && (nat_eq (length word) 1 || not (nat_eq (slice_index word 0) 48))
