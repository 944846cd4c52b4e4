-- How a name is built from the mnemonic of its opcode and the bits that it fixes: UEFI 2.8, chapter 22
-- 'EFI Byte Code Virtual Machine', the syntax on each instruction page.
use Rattle.std.specs.Prelude.{ℕ, ◌/◌, ◌%◌, Bool, nat_eq, nat_le, ◌&&◌, codes, List, [], ◌++◌, drop, take, Option, Some, None, if◌then◌else◌}
use Rattle.ebc_decode.specs.Columns.{Row, is_set, m6, m7}
use Rattle.ebc_decode.specs.Spelling.{row_of}
use Rattle.ebc_names.specs.declared.slots.Bits.{Bits}
use Rattle.ebc_names.specs.declared.slots.Pattern.{Pattern}

-- the mnemonic of the spelling table
abbrev pub mnemonic_in : Option Row → List ℕ
mnemonic_in None = []
mnemonic_in (Some row) = row.mnemonic

abbrev pub mnemonic_of : ℕ → List ℕ
mnemonic_of op = mnemonic_in (row_of op)

-- ---- the parts that follow a mnemonic

-- the bits of an operation: 64 by m6
abbrev pub operation_bits : Bits → List ℕ
operation_bits bits = if m6 bits.mods then codes "64" else codes "32"

-- the condition of a jump, by whether there is one and which C it wants
abbrev pub condition : Bool → Bool → List ℕ
condition conditional wanted = if conditional then (if wanted then codes "cs" else codes "cc") else []

-- an absolute target, if bit 4 of the second byte is clear
abbrev pub absolute : Bits → List ℕ
absolute bits = if is_set bits.operands 4 then [] else codes "a"

-- native code, by bit 5 of the second byte
abbrev pub native : Bits → List ℕ
native bits = if is_set bits.operands 5 then codes "EX" else []

-- the size of an immediate: a doubleword if m7 is set, and otherwise a word
abbrev pub short_immediate : Bits → List ℕ
short_immediate bits = if m7 bits.mods then codes "d" else codes "w"

-- the size of an immediate of a move: a word, a doubleword or a quadword for the modifiers 1, 2 and 3
abbrev pub immediate : Bits → List ℕ
immediate bits = if m7 bits.mods then (if m6 bits.mods then codes "q" else codes "d") else codes "w"

-- the size of what MOVI moves, by bits 5:4 of the second byte
abbrev pub move_size : Bits → List ℕ
move_size bits = take 1 (drop (bits.operands / 16 % 4) (codes "bwdq"))

-- a mnemonic with something after its first letters
abbrev pub after_letters : ℕ → List ℕ → List ℕ → List ℕ
after_letters n mnemonic part = take n mnemonic ++ part ++ drop n mnemonic

-- whether an opcode is in a range
abbrev pub is_from : ℕ → ℕ → ℕ → Bool
is_from first last op = nat_le first op && nat_le op last

-- ---- the names

-- the text of a name: the mnemonic with its parts, by the opcode
abbrev pub text_by : ℕ → List ℕ → Bits → List ℕ
text_by op mnemonic bits =
    -- JMP32, JMP64
    if nat_eq op 0x01 then mnemonic ++ operation_bits bits ++ condition (is_set bits.operands 7) (is_set bits.operands 6) ++ absolute bits
    -- JMP8
    else if nat_eq op 0x02 then mnemonic ++ condition (m7 bits.mods) (m6 bits.mods)
    -- CALL32, CALL64
    else if nat_eq op 0x03 then mnemonic ++ operation_bits bits ++ native bits ++ absolute bits
    -- CMP, with the relation last
    else if is_from 0x05 0x09 op then after_letters 3 mnemonic (operation_bits bits)
    -- NOT to EXTNDD, PUSH and POP
    else if is_from 0x0a 0x1c op then mnemonic ++ operation_bits bits
    else if is_from 0x2b 0x2c op then mnemonic ++ operation_bits bits
    -- CMPI, with the relation last
    else if is_from 0x2d 0x31 op then after_letters 4 mnemonic (operation_bits bits ++ short_immediate bits)
    -- MOVI
    else if nat_eq op 0x37 then mnemonic ++ move_size bits ++ immediate bits
    -- MOVIn, MOVREL
    else if is_from 0x38 0x39 op then mnemonic ++ immediate bits
    -- the others are just the mnemonic
    else mnemonic

abbrev pub text_of : Pattern → List ℕ
text_of pattern = text_by pattern.op (mnemonic_of pattern.op) pattern.bits
