-- The names of EBC instructions: UEFI 2.8, chapter 22 'EFI Byte Code Virtual Machine', the instruction
-- pages, in the spelling of this project's listing. Sizes are b, w, d and q, for 1, 2, 4 and 8 bytes.
use Rattle.std.specs.Prelude.{ℕ, Bool, ◌&&◌, nat_eq, bit_and, codes, List, [], ◌∷◌, Option, Some, None, find, bytes_eq, unwrap_or, if◌then◌else◌}
use Rattle.ebc_decode.specs.declared.instr.Instr.{Instr}
use Rattle.ebc_names.specs.declared.slots.Bits.{Bits}
use Rattle.ebc_names.specs.declared.slots.Side.TheVariants.{One, Two}
use Rattle.ebc_names.specs.declared.slots.Suffix.{Suffix}
use Rattle.ebc_names.specs.declared.slots.Suffix.TheVariants.{Nothing, Signed, SignedOrLabel, Index}
use Rattle.ebc_decode.specs.declared.size.Size.{Size}
use Rattle.ebc_decode.specs.declared.size.Size.TheVariants.{Word, Doubleword, Quadword}
use Rattle.ebc_names.specs.declared.slots.Slot.{Slot}
use Rattle.ebc_names.specs.declared.slots.Slot.TheVariants.{Register, Flags, FlagsOrIp, Immediate, ImmediateOrLabel, RawIndex, Step, Code}
use Rattle.ebc_names.specs.declared.slots.Pattern.{Pattern}
use Rattle.ebc_names.specs.declared.names.NameRow.{NameRow}

-- bits of the modifiers, m7 as 2 and m6 as 1, and of the second byte
abbrev pub bits : ℕ → ℕ → Bits
bits mods operands = record { mods = mods; operands = operands }

-- what may follow a register, by whether it is indirect
abbrev pub suffix_of : Suffix → Option Suffix → Bool → Suffix
suffix_of direct indirect is_indirect = if is_indirect then unwrap_or indirect Nothing else direct

-- ---- the places of operands

-- just a register, which is always direct
abbrev pub direct_1 : Option Slot
direct_1 = Some (Register One (bits 0 0) Word Nothing None)

abbrev pub direct_2 : Option Slot
direct_2 = Some (Register Two (bits 0 0) Word Nothing None)

-- operand 1 with no index
abbrev pub plain_1 : Option Slot
plain_1 = Some (Register One (bits 0 0) Word Nothing (Some Nothing))

-- two bytes of data by m7: a signed number if direct, an index if indirect
abbrev pub data_1 : Option Slot
data_1 = Some (Register One (bits 2 0) Word Signed (Some Index))

abbrev pub data_2 : Option Slot
data_2 = Some (Register Two (bits 2 0) Word Signed (Some Index))

-- operand 1 of a move, with an index by m7 only if it is indirect
abbrev pub index_1 : Size → Option Slot
index_1 size = Some (Register One (bits 2 0) size Nothing (Some Index))

-- operand 2 of a move, with an index by m6
abbrev pub index_2 : Size → Option Slot
index_2 size = Some (Register Two (bits 1 0) size Index (Some Index))

-- the same, with a signed number if direct
abbrev pub signed_2 : Size → Option Slot
signed_2 size = Some (Register Two (bits 1 0) size Signed (Some Index))

-- operand 1 before an immediate, with an index of two bytes by bit 4 or bit 6 of the second byte,
-- only if it is indirect
abbrev pub compare_1 : Option Slot
compare_1 = Some (Register One (bits 0 0x10) Word Nothing (Some Index))

abbrev pub move_1 : Option Slot
move_1 = Some (Register One (bits 0 0x40) Word Nothing (Some Index))

-- the target of a 32-bit jump, with four bytes of data by m7; a relative one may be a label
abbrev pub target_32 : Option Slot
target_32 = Some (Register One (bits 2 0) Doubleword Signed (Some Index))

abbrev pub label_target_32 : Option Slot
label_target_32 = Some (Register One (bits 2 0) Doubleword SignedOrLabel (Some Index))

-- an immediate of some bytes
abbrev pub immediate : Size → Option Slot
immediate size = Some (Immediate size)

abbrev pub label_or : Size → Option Slot
label_or size = Some (ImmediateOrLabel size)

abbrev pub raw_index : Size → Option Slot
raw_index size = Some (RawIndex size)

-- ---- the table

-- a name, and the instructions that go by it
pub record Name : Type 0 where
  pub text : List ℕ
  pub pattern : Pattern

-- A row of the table: the name and the opcode; of the modifiers and then of the second byte, the bits
-- that the name fixes and their values; operand 1 and operand 2.
abbrev pub name : List ℕ → ℕ → ℕ → ℕ → ℕ → ℕ → Option Slot → Option Slot → Name
name text op mods_mask mods operands_mask operands one two =
    record {
      text = text;
      pattern = record { op = op; mask = bits mods_mask operands_mask; bits = bits mods operands; one = one; two = two };
    }

unfoldable pub names : List Name
names =
    -- the break code
    name (codes "BREAK") 0x00 0 0 0x00 0x00 (Some Code) None
    -- m6: 64 bits, which are always data; byte 1, bit 7: conditional, bit 6: the flag that is wanted, bit 4: relative
    ∷ name (codes "JMP32") 0x01 1 0 0x90 0x10 label_target_32 None
    ∷ name (codes "JMP32a") 0x01 1 0 0x90 0x00 target_32 None
    ∷ name (codes "JMP32cs") 0x01 1 0 0xd0 0xd0 label_target_32 None
    ∷ name (codes "JMP32csa") 0x01 1 0 0xd0 0xc0 target_32 None
    ∷ name (codes "JMP32cc") 0x01 1 0 0xd0 0x90 label_target_32 None
    ∷ name (codes "JMP32cca") 0x01 1 0 0xd0 0x80 target_32 None
    ∷ name (codes "JMP64") 0x01 3 3 0x90 0x10 (label_or Quadword) None
    ∷ name (codes "JMP64a") 0x01 3 3 0x90 0x00 (immediate Quadword) None
    ∷ name (codes "JMP64cs") 0x01 3 3 0xd0 0xd0 (label_or Quadword) None
    ∷ name (codes "JMP64csa") 0x01 3 3 0xd0 0xc0 (immediate Quadword) None
    ∷ name (codes "JMP64cc") 0x01 3 3 0xd0 0x90 (label_or Quadword) None
    ∷ name (codes "JMP64cca") 0x01 3 3 0xd0 0x80 (immediate Quadword) None
    -- m7: conditional; m6: the flag that is wanted
    ∷ name (codes "JMP8") 0x02 2 0 0x00 0x00 (Some Step) None
    ∷ name (codes "JMP8cs") 0x02 3 3 0x00 0x00 (Some Step) None
    ∷ name (codes "JMP8cc") 0x02 3 2 0x00 0x00 (Some Step) None
    -- m6: 64 bits, which are always data; byte 1, bit 5: native, bit 4: relative
    ∷ name (codes "CALL32") 0x03 1 0 0x30 0x10 label_target_32 None
    ∷ name (codes "CALL32a") 0x03 1 0 0x30 0x00 target_32 None
    ∷ name (codes "CALL32EX") 0x03 1 0 0x30 0x30 label_target_32 None
    ∷ name (codes "CALL32EXa") 0x03 1 0 0x30 0x20 target_32 None
    ∷ name (codes "CALL64") 0x03 3 3 0x30 0x10 (label_or Quadword) None
    ∷ name (codes "CALL64a") 0x03 3 3 0x30 0x00 (immediate Quadword) None
    ∷ name (codes "CALL64EX") 0x03 3 3 0x30 0x30 (label_or Quadword) None
    ∷ name (codes "CALL64EXa") 0x03 3 3 0x30 0x20 (immediate Quadword) None
    ∷ name (codes "RET") 0x04 0 0 0x00 0x00 None None
    -- m6: 64 bits
    ∷ name (codes "CMP32eq") 0x05 1 0 0x00 0x00 direct_1 data_2
    ∷ name (codes "CMP64eq") 0x05 1 1 0x00 0x00 direct_1 data_2
    ∷ name (codes "CMP32lte") 0x06 1 0 0x00 0x00 direct_1 data_2
    ∷ name (codes "CMP64lte") 0x06 1 1 0x00 0x00 direct_1 data_2
    ∷ name (codes "CMP32gte") 0x07 1 0 0x00 0x00 direct_1 data_2
    ∷ name (codes "CMP64gte") 0x07 1 1 0x00 0x00 direct_1 data_2
    ∷ name (codes "CMP32ulte") 0x08 1 0 0x00 0x00 direct_1 data_2
    ∷ name (codes "CMP64ulte") 0x08 1 1 0x00 0x00 direct_1 data_2
    ∷ name (codes "CMP32ugte") 0x09 1 0 0x00 0x00 direct_1 data_2
    ∷ name (codes "CMP64ugte") 0x09 1 1 0x00 0x00 direct_1 data_2
    ∷ name (codes "NOT32") 0x0a 1 0 0x00 0x00 plain_1 data_2
    ∷ name (codes "NOT64") 0x0a 1 1 0x00 0x00 plain_1 data_2
    ∷ name (codes "NEG32") 0x0b 1 0 0x00 0x00 plain_1 data_2
    ∷ name (codes "NEG64") 0x0b 1 1 0x00 0x00 plain_1 data_2
    ∷ name (codes "ADD32") 0x0c 1 0 0x00 0x00 plain_1 data_2
    ∷ name (codes "ADD64") 0x0c 1 1 0x00 0x00 plain_1 data_2
    ∷ name (codes "SUB32") 0x0d 1 0 0x00 0x00 plain_1 data_2
    ∷ name (codes "SUB64") 0x0d 1 1 0x00 0x00 plain_1 data_2
    ∷ name (codes "MUL32") 0x0e 1 0 0x00 0x00 plain_1 data_2
    ∷ name (codes "MUL64") 0x0e 1 1 0x00 0x00 plain_1 data_2
    ∷ name (codes "MULU32") 0x0f 1 0 0x00 0x00 plain_1 data_2
    ∷ name (codes "MULU64") 0x0f 1 1 0x00 0x00 plain_1 data_2
    ∷ name (codes "DIV32") 0x10 1 0 0x00 0x00 plain_1 data_2
    ∷ name (codes "DIV64") 0x10 1 1 0x00 0x00 plain_1 data_2
    ∷ name (codes "DIVU32") 0x11 1 0 0x00 0x00 plain_1 data_2
    ∷ name (codes "DIVU64") 0x11 1 1 0x00 0x00 plain_1 data_2
    ∷ name (codes "MOD32") 0x12 1 0 0x00 0x00 plain_1 data_2
    ∷ name (codes "MOD64") 0x12 1 1 0x00 0x00 plain_1 data_2
    ∷ name (codes "MODU32") 0x13 1 0 0x00 0x00 plain_1 data_2
    ∷ name (codes "MODU64") 0x13 1 1 0x00 0x00 plain_1 data_2
    ∷ name (codes "AND32") 0x14 1 0 0x00 0x00 plain_1 data_2
    ∷ name (codes "AND64") 0x14 1 1 0x00 0x00 plain_1 data_2
    ∷ name (codes "OR32") 0x15 1 0 0x00 0x00 plain_1 data_2
    ∷ name (codes "OR64") 0x15 1 1 0x00 0x00 plain_1 data_2
    ∷ name (codes "XOR32") 0x16 1 0 0x00 0x00 plain_1 data_2
    ∷ name (codes "XOR64") 0x16 1 1 0x00 0x00 plain_1 data_2
    ∷ name (codes "SHL32") 0x17 1 0 0x00 0x00 plain_1 data_2
    ∷ name (codes "SHL64") 0x17 1 1 0x00 0x00 plain_1 data_2
    ∷ name (codes "SHR32") 0x18 1 0 0x00 0x00 plain_1 data_2
    ∷ name (codes "SHR64") 0x18 1 1 0x00 0x00 plain_1 data_2
    ∷ name (codes "ASHR32") 0x19 1 0 0x00 0x00 plain_1 data_2
    ∷ name (codes "ASHR64") 0x19 1 1 0x00 0x00 plain_1 data_2
    ∷ name (codes "EXTNDB32") 0x1a 1 0 0x00 0x00 plain_1 data_2
    ∷ name (codes "EXTNDB64") 0x1a 1 1 0x00 0x00 plain_1 data_2
    ∷ name (codes "EXTNDW32") 0x1b 1 0 0x00 0x00 plain_1 data_2
    ∷ name (codes "EXTNDW64") 0x1b 1 1 0x00 0x00 plain_1 data_2
    ∷ name (codes "EXTNDD32") 0x1c 1 0 0x00 0x00 plain_1 data_2
    ∷ name (codes "EXTNDD64") 0x1c 1 1 0x00 0x00 plain_1 data_2
    -- the move's size and the indices' size
    ∷ name (codes "MOVbw") 0x1d 0 0 0x00 0x00 (index_1 Word) (index_2 Word)
    ∷ name (codes "MOVww") 0x1e 0 0 0x00 0x00 (index_1 Word) (index_2 Word)
    ∷ name (codes "MOVdw") 0x1f 0 0 0x00 0x00 (index_1 Word) (index_2 Word)
    ∷ name (codes "MOVqw") 0x20 0 0 0x00 0x00 (index_1 Word) (index_2 Word)
    ∷ name (codes "MOVbd") 0x21 0 0 0x00 0x00 (index_1 Doubleword) (index_2 Doubleword)
    ∷ name (codes "MOVwd") 0x22 0 0 0x00 0x00 (index_1 Doubleword) (index_2 Doubleword)
    ∷ name (codes "MOVdd") 0x23 0 0 0x00 0x00 (index_1 Doubleword) (index_2 Doubleword)
    ∷ name (codes "MOVqd") 0x24 0 0 0x00 0x00 (index_1 Doubleword) (index_2 Doubleword)
    ∷ name (codes "MOVsnw") 0x25 0 0 0x00 0x00 (index_1 Word) (signed_2 Word)
    ∷ name (codes "MOVsnd") 0x26 0 0 0x00 0x00 (index_1 Doubleword) (signed_2 Doubleword)
    ∷ name (codes "MOVqq") 0x28 0 0 0x00 0x00 (index_1 Quadword) (index_2 Quadword)
    -- between FLAGS or IP and a register
    ∷ name (codes "LOADSP") 0x29 0 0 0x00 0x00 (Some Flags) direct_2
    ∷ name (codes "STORESP") 0x2a 0 0 0x00 0x00 direct_1 (Some FlagsOrIp)
    -- m6: 64 bits
    ∷ name (codes "PUSH32") 0x2b 1 0 0x00 0x00 data_1 None
    ∷ name (codes "PUSH64") 0x2b 1 1 0x00 0x00 data_1 None
    ∷ name (codes "POP32") 0x2c 1 0 0x00 0x00 data_1 None
    ∷ name (codes "POP64") 0x2c 1 1 0x00 0x00 data_1 None
    -- m6: 64 bits; m7: an immediate of 4 bytes
    ∷ name (codes "CMPI32weq") 0x2d 3 0 0x00 0x00 compare_1 (immediate Word)
    ∷ name (codes "CMPI32deq") 0x2d 3 2 0x00 0x00 compare_1 (immediate Doubleword)
    ∷ name (codes "CMPI64weq") 0x2d 3 1 0x00 0x00 compare_1 (immediate Word)
    ∷ name (codes "CMPI64deq") 0x2d 3 3 0x00 0x00 compare_1 (immediate Doubleword)
    ∷ name (codes "CMPI32wlte") 0x2e 3 0 0x00 0x00 compare_1 (immediate Word)
    ∷ name (codes "CMPI32dlte") 0x2e 3 2 0x00 0x00 compare_1 (immediate Doubleword)
    ∷ name (codes "CMPI64wlte") 0x2e 3 1 0x00 0x00 compare_1 (immediate Word)
    ∷ name (codes "CMPI64dlte") 0x2e 3 3 0x00 0x00 compare_1 (immediate Doubleword)
    ∷ name (codes "CMPI32wgte") 0x2f 3 0 0x00 0x00 compare_1 (immediate Word)
    ∷ name (codes "CMPI32dgte") 0x2f 3 2 0x00 0x00 compare_1 (immediate Doubleword)
    ∷ name (codes "CMPI64wgte") 0x2f 3 1 0x00 0x00 compare_1 (immediate Word)
    ∷ name (codes "CMPI64dgte") 0x2f 3 3 0x00 0x00 compare_1 (immediate Doubleword)
    ∷ name (codes "CMPI32wulte") 0x30 3 0 0x00 0x00 compare_1 (immediate Word)
    ∷ name (codes "CMPI32dulte") 0x30 3 2 0x00 0x00 compare_1 (immediate Doubleword)
    ∷ name (codes "CMPI64wulte") 0x30 3 1 0x00 0x00 compare_1 (immediate Word)
    ∷ name (codes "CMPI64dulte") 0x30 3 3 0x00 0x00 compare_1 (immediate Doubleword)
    ∷ name (codes "CMPI32wugte") 0x31 3 0 0x00 0x00 compare_1 (immediate Word)
    ∷ name (codes "CMPI32dugte") 0x31 3 2 0x00 0x00 compare_1 (immediate Doubleword)
    ∷ name (codes "CMPI64wugte") 0x31 3 1 0x00 0x00 compare_1 (immediate Word)
    ∷ name (codes "CMPI64dugte") 0x31 3 3 0x00 0x00 compare_1 (immediate Doubleword)
    ∷ name (codes "MOVnw") 0x32 0 0 0x00 0x00 (index_1 Word) (index_2 Word)
    ∷ name (codes "MOVnd") 0x33 0 0 0x00 0x00 (index_1 Doubleword) (index_2 Doubleword)
    ∷ name (codes "PUSHn") 0x35 0 0 0x00 0x00 data_1 None
    ∷ name (codes "POPn") 0x36 0 0 0x00 0x00 data_1 None
    -- m7, m6: the immediate's size; byte 1, bits 5:4: the move's size
    ∷ name (codes "MOVIbw") 0x37 3 1 0x30 0x00 move_1 (immediate Word)
    ∷ name (codes "MOVIbd") 0x37 3 2 0x30 0x00 move_1 (immediate Doubleword)
    ∷ name (codes "MOVIbq") 0x37 3 3 0x30 0x00 move_1 (immediate Quadword)
    ∷ name (codes "MOVIww") 0x37 3 1 0x30 0x10 move_1 (immediate Word)
    ∷ name (codes "MOVIwd") 0x37 3 2 0x30 0x10 move_1 (immediate Doubleword)
    ∷ name (codes "MOVIwq") 0x37 3 3 0x30 0x10 move_1 (immediate Quadword)
    ∷ name (codes "MOVIdw") 0x37 3 1 0x30 0x20 move_1 (immediate Word)
    ∷ name (codes "MOVIdd") 0x37 3 2 0x30 0x20 move_1 (immediate Doubleword)
    ∷ name (codes "MOVIdq") 0x37 3 3 0x30 0x20 move_1 (immediate Quadword)
    ∷ name (codes "MOVIqw") 0x37 3 1 0x30 0x30 move_1 (immediate Word)
    ∷ name (codes "MOVIqd") 0x37 3 2 0x30 0x30 move_1 (immediate Doubleword)
    ∷ name (codes "MOVIqq") 0x37 3 3 0x30 0x30 move_1 (immediate Quadword)
    ∷ name (codes "MOVInw") 0x38 3 1 0x00 0x00 move_1 (raw_index Word)
    ∷ name (codes "MOVInd") 0x38 3 2 0x00 0x00 move_1 (raw_index Doubleword)
    ∷ name (codes "MOVInq") 0x38 3 3 0x00 0x00 move_1 (raw_index Quadword)
    ∷ name (codes "MOVRELw") 0x39 3 1 0x00 0x00 move_1 (label_or Word)
    ∷ name (codes "MOVRELd") 0x39 3 2 0x00 0x00 move_1 (label_or Doubleword)
    ∷ name (codes "MOVRELq") 0x39 3 3 0x00 0x00 move_1 (label_or Quadword)
    ∷ []

-- whether an instruction goes by a name
abbrev pub goes_by : Instr → Name → Bool
goes_by instr n =
    nat_eq instr.op n.pattern.op
    && nat_eq (bit_and instr.mods n.pattern.mask.mods) n.pattern.bits.mods
    && nat_eq (bit_and instr.operands n.pattern.mask.operands) n.pattern.bits.operands

-- the name of an instruction
abbrev pub name_of : Instr → Option Name
name_of instr = find (goes_by instr) names

-- the row of a name's text
abbrev pub name_by : List ℕ → Option Name
name_by text = find (λ n. bytes_eq n.text text) names

-- a row of the program's table
abbrev pub row_name : NameRow → Name
row_name row = record { text = row.text.now; pattern = row.pattern }
