-- The columns of the instruction table.
-- The modifiers are bits 7 and 6 of the first byte, as a number from 0 to 3. In the second byte
-- operand 1 is bits 2:0, indirect by bit 3, and operand 2 is bits 6:4, indirect by bit 7.
use Rattle.std.specs.Prelude.{ℕ, ◌^◌, Bool, true, not, ◌&&◌, ◌||◌, nat_eq, bit_and, List, if◌then◌else◌}

-- whether a bit of a number is set
abbrev pub is_set : ℕ → ℕ → Bool
is_set n bit = not (nat_eq (bit_and n (2 ^ bit)) 0)

-- bit 7 of the first byte
abbrev pub m7 : ℕ → Bool
m7 mods = is_set mods 1

-- bit 6 of the first byte
abbrev pub m6 : ℕ → Bool
m6 mods = is_set mods 0

-- whether operand 1 is indirect
abbrev pub xi : ℕ → Bool
xi operands = is_set operands 3

-- A row of the table. A column that depends on the first two bytes is a function of the
-- modifiers and of the second byte, as they are written.
pub record Row : Type 0 where
  -- bits 5:0 of the first byte
  pub opcode : ℕ
  pub mnemonic : List ℕ
  -- whether there is such an instruction
  pub legal : ℕ → ℕ → Bool
  -- how many bytes belong to operand 1, and how many to operand 2 or to an immediate after them
  pub first : ℕ → ℕ → ℕ
  pub second : ℕ → ℕ → ℕ
  -- which of the modifiers count, and which bits of the second byte by the modifiers; the others
  -- are ignored
  pub kept_mods : ℕ
  pub kept_operands : ℕ → ℕ

-- a row, its columns in order
abbrev pub row : ℕ → List ℕ → (ℕ → ℕ → Bool) → (ℕ → ℕ → ℕ) → (ℕ → ℕ → ℕ) → ℕ → (ℕ → ℕ) → Row
row opcode mnemonic legal first second kept_mods kept_operands =
    record {
      opcode = opcode;
      mnemonic = mnemonic;
      legal = legal;
      first = first;
      second = second;
      kept_mods = kept_mods;
      kept_operands = kept_operands;
    }

-- ---- which first two bytes are legal

abbrev pub always : ℕ → ℕ → Bool
always mods operands = true

-- 64 bits only if there are data
abbrev pub m6_needs_m7 : ℕ → ℕ → Bool
m6_needs_m7 mods operands = m7 mods || not (m6 mods)

-- an index of operand 1 by m7, only if it is indirect
abbrev pub m7_needs_xi : ℕ → ℕ → Bool
m7_needs_xi mods operands = not (m7 mods) || xi operands

-- an index of operand 1 by a bit of the second byte, only if it is indirect
abbrev pub bit_needs_xi : ℕ → ℕ → ℕ → Bool
bit_needs_xi bit mods operands = not (is_set operands bit) || xi operands

-- the same, and an immediate of some width
abbrev pub width_and_bit_needs_xi : ℕ → ℕ → ℕ → Bool
width_and_bit_needs_xi bit mods operands = (m7 mods || m6 mods) && bit_needs_xi bit mods operands

abbrev pub x_is_0 : ℕ → ℕ → Bool
x_is_0 mods operands = nat_eq (bit_and operands 0x07) 0

abbrev pub y_is_0_or_1 : ℕ → ℕ → Bool
y_is_0_or_1 mods operands = nat_eq (bit_and operands 0x60) 0

-- ---- how many bytes there are

abbrev pub nothing : ℕ → ℕ → ℕ
nothing mods operands = 0

-- so many bytes if the bit is set
abbrev pub on_m7 : ℕ → ℕ → ℕ → ℕ
on_m7 size mods operands = if m7 mods then size else 0

abbrev pub on_m6 : ℕ → ℕ → ℕ → ℕ
on_m6 size mods operands = if m6 mods then size else 0

abbrev pub on_bit : ℕ → ℕ → ℕ → ℕ → ℕ
on_bit bit size mods operands = if is_set operands bit then size else 0

-- the data of a 32-bit jump, and the target of a 64-bit one
abbrev pub jump_32 : ℕ → ℕ → ℕ
jump_32 mods operands = if m7 mods then (if m6 mods then 0 else 4) else 0

abbrev pub jump_64 : ℕ → ℕ → ℕ
jump_64 mods operands = if m7 mods then (if m6 mods then 8 else 0) else 0

-- an immediate of 4 bytes by m7
abbrev pub two_or_four : ℕ → ℕ → ℕ
two_or_four mods operands = if m7 mods then 4 else 2

-- an immediate of 2, 4 or 8 bytes for the modifiers 1, 2 and 3
abbrev pub width : ℕ → ℕ → ℕ
width mods operands = if m7 mods then (if m6 mods then 8 else 4) else 2

-- ---- which bits count

abbrev pub neither : ℕ
neither = 0

abbrev pub m7_alone : ℕ
m7_alone = 2

abbrev pub both : ℕ
both = 3

-- the same bits of the second byte whatever the modifiers are
abbrev pub bits : ℕ → ℕ → ℕ
bits mask mods = mask

-- a 64-bit jump has no operand 1: bits 3:0 are ignored
abbrev pub jump_bits : ℕ → ℕ → ℕ
jump_bits mask mods = if m6 mods then bit_and mask 0xf0 else mask
