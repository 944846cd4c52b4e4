-- What EBC computes and compares: UEFI 2.8, chapter 22 'EFI Byte Code Virtual Machine', the pages of
-- the instructions. An operation has 32 or 64 bits, and its operands and its result are numbers
-- below 2 ^ 32 or 2 ^ 64. A signed operation takes them as two's complement.
use Rattle.std.specs.Prelude.{ℕ, ◌+◌, ◌-◌, ◌*◌, ◌/◌, ◌%◌, ◌^◌, Bool, nat_eq, nat_le, int_le, int_rem, bit_and, bit_or, bit_xor, Result, Ok, Err, if◌then◌else◌}
use Rattle.std.specs.Int.{Width, w8, w16, w32, w64, cast_signed, cast_unsigned, int_shr, int_wrapping_mul, int_wrapping_div}
use Rattle.fw_types.specs.declared.event.Cause.{Cause}
use Rattle.fw_types.specs.declared.event.Cause.TheVariants.{Divide}
use Rattle.ebc_machine.specs.declared.arithmetic.Operation.{Operation}
use Rattle.ebc_machine.specs.declared.arithmetic.Operation.TheVariants.{Not, Neg, Add, Sub, Mul, Mulu, Div, Divu, Mod, Modu, And, Or, Xor, Shl, Shr, Ashr, Extndb, Extndw, Extndd}
use Rattle.ebc_machine.specs.declared.arithmetic.Relation.{Relation}
use Rattle.ebc_machine.specs.declared.arithmetic.Relation.TheVariants.{Eq, Lte, Gte, Ulte, Ugte}

-- the bits of an operation, by whether it is of 64 bits
abbrev pub bits : Bool → ℕ
bits wide = if wide then 64 else 32

-- the same, as a width of the signed types
abbrev pub width : Bool → Width
width wide = if wide then w64 else w32

-- a division gives its result unless the divisor is 0
abbrev pub unless_zero : ℕ → ℕ → Result ℕ Cause
unless_zero divisor value = if nat_eq divisor 0 then Err Divide else Ok value

-- The result of an operation on operand 1, a, and operand 2, b. NOT, NEG and the extensions take
-- only operand 2. A signed division goes toward zero, and the least number divided by -1 is itself;
-- a remainder has the sign of operand 1. A shift count is taken modulo the bits of the operation.
abbrev pub result_of : Operation → Bool → ℕ → ℕ → Result ℕ Cause
result_of Not wide a b = Ok (2 ^ bits wide - 1 - b)
result_of Neg wide a b = Ok ((2 ^ bits wide - b) % 2 ^ bits wide)
result_of Add wide a b = Ok ((a + b) % 2 ^ bits wide)
result_of Sub wide a b = Ok ((a + (2 ^ bits wide - b)) % 2 ^ bits wide)
result_of Mul wide a b =
    Ok (cast_unsigned (width wide) (int_wrapping_mul (width wide) (cast_signed (width wide) a) (cast_signed (width wide) b)))
result_of Mulu wide a b = Ok (a * b % 2 ^ bits wide)
result_of Div wide a b =
    unless_zero b (cast_unsigned (width wide) (int_wrapping_div (width wide) (cast_signed (width wide) a) (cast_signed (width wide) b)))
result_of Divu wide a b = unless_zero b (a / b)
result_of Mod wide a b =
    unless_zero b (cast_unsigned (width wide) (int_rem (cast_signed (width wide) a) (cast_signed (width wide) b)))
result_of Modu wide a b = unless_zero b (a % b)
result_of And wide a b = Ok (bit_and a b)
result_of Or wide a b = Ok (bit_or a b)
result_of Xor wide a b = Ok (bit_xor a b)
result_of Shl wide a b = Ok (a * 2 ^ (b % bits wide) % 2 ^ bits wide)
result_of Shr wide a b = Ok (a / 2 ^ (b % bits wide))
result_of Ashr wide a b = Ok (cast_unsigned (width wide) (int_shr (cast_signed (width wide) a) (b % bits wide)))
result_of Extndb wide a b = Ok (cast_unsigned (width wide) (cast_signed w8 (b % 2 ^ 8)))
result_of Extndw wide a b = Ok (cast_unsigned (width wide) (cast_signed w16 (b % 2 ^ 16)))
result_of Extndd wide a b = Ok (cast_unsigned (width wide) (cast_signed w32 (b % 2 ^ 32)))

-- whether operand 1, a, and operand 2, b, have a relation: equal, at most or at least, signed or not
abbrev pub holds : Relation → Bool → ℕ → ℕ → Bool
holds Eq wide a b = nat_eq a b
holds Lte wide a b = int_le (cast_signed (width wide) a) (cast_signed (width wide) b)
holds Gte wide a b = int_le (cast_signed (width wide) b) (cast_signed (width wide) a)
holds Ulte wide a b = nat_le a b
holds Ugte wide a b = nat_le b a
