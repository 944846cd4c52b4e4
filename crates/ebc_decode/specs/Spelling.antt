-- The instructions of EBC and the bytes that spell them: UEFI 2.8, chapter 22 'EFI Byte Code
-- Virtual Machine', the instruction pages and the summary of opcodes.
use Rattle.std.specs.Prelude.{◌≡◌, ◌<◌, ℕ, ◌+◌, ◌*◌, ◌/◌, ◌%◌, ◌^◌, Bool, IsTrue, nat_eq, nat_lt, bit_and, codes, List, [], ◌∷◌, ◌++◌, length, drop, find, slice_index, Option, Some, None, IsSomeAnd, Result, Ok, Err, if◌then◌else◌}
use Rattle.std.specs.List.{list_any}
use Rattle.byteorder.specs.Endian.{little_number, little_bytes}
use Rattle.ebc_decode.specs.Columns.{Row, row, always, m6_needs_m7, m7_needs_xi, bit_needs_xi, width_and_bit_needs_xi, x_is_0, y_is_0_or_1, nothing, on_m7, on_m6, on_bit, jump_32, jump_64, two_or_four, width, neither, m7_alone, both, bits, jump_bits}
use Rattle.ebc_decode.specs.declared.form.Form.{Form}
use Rattle.ebc_decode.specs.declared.instr.Instr.{Instr}
use Rattle.ebc_decode.specs.declared.instr.DecodeRefusal.{DecodeRefusal}
use Rattle.ebc_decode.specs.declared.instr.DecodeRefusal.TheVariants.{Short, Illegal}

-- The table. The columns are the opcode, the mnemonic, which first two bytes are legal, the bytes of
-- operand 1, the bytes of operand 2 or of an immediate, the modifiers that count, and the bits of the
-- second byte that count. An opcode without a row is illegal.
abbrev pub rows : List Row
rows =
    -- byte 1 is the break code
    row 0x00 (codes "BREAK") always nothing nothing neither (bits 0xff)
    -- byte 1, bit 7: conditional; bit 6: the flag that is wanted; bit 4: relative; 3:0: operand 1, if 32 bits
    ∷ row 0x01 (codes "JMP") m6_needs_m7 jump_32 jump_64 both (jump_bits 0xdf)
    -- m7: conditional; m6: the flag that is wanted; byte 1 is the distance
    ∷ row 0x02 (codes "JMP8") always nothing nothing both (bits 0xff)
    -- byte 1, bit 5: native; bit 4: relative; 3:0: operand 1, if 32 bits
    ∷ row 0x03 (codes "CALL") m6_needs_m7 jump_32 jump_64 both (jump_bits 0x3f)
    -- only the opcode counts
    ∷ row 0x04 (codes "RET") always nothing nothing neither (bits 0x00)
    -- m7: data of operand 2; m6: 64 bits; operand 1 is a register, so bit 3 is ignored
    ∷ row 0x05 (codes "CMPeq") always nothing (on_m7 2) both (bits 0xf7)
    ∷ row 0x06 (codes "CMPlte") always nothing (on_m7 2) both (bits 0xf7)
    ∷ row 0x07 (codes "CMPgte") always nothing (on_m7 2) both (bits 0xf7)
    ∷ row 0x08 (codes "CMPulte") always nothing (on_m7 2) both (bits 0xf7)
    ∷ row 0x09 (codes "CMPugte") always nothing (on_m7 2) both (bits 0xf7)
    -- m7: data of operand 2; m6: 64 bits
    ∷ row 0x0a (codes "NOT") always nothing (on_m7 2) both (bits 0xff)
    ∷ row 0x0b (codes "NEG") always nothing (on_m7 2) both (bits 0xff)
    ∷ row 0x0c (codes "ADD") always nothing (on_m7 2) both (bits 0xff)
    ∷ row 0x0d (codes "SUB") always nothing (on_m7 2) both (bits 0xff)
    ∷ row 0x0e (codes "MUL") always nothing (on_m7 2) both (bits 0xff)
    ∷ row 0x0f (codes "MULU") always nothing (on_m7 2) both (bits 0xff)
    ∷ row 0x10 (codes "DIV") always nothing (on_m7 2) both (bits 0xff)
    ∷ row 0x11 (codes "DIVU") always nothing (on_m7 2) both (bits 0xff)
    ∷ row 0x12 (codes "MOD") always nothing (on_m7 2) both (bits 0xff)
    ∷ row 0x13 (codes "MODU") always nothing (on_m7 2) both (bits 0xff)
    ∷ row 0x14 (codes "AND") always nothing (on_m7 2) both (bits 0xff)
    ∷ row 0x15 (codes "OR") always nothing (on_m7 2) both (bits 0xff)
    ∷ row 0x16 (codes "XOR") always nothing (on_m7 2) both (bits 0xff)
    ∷ row 0x17 (codes "SHL") always nothing (on_m7 2) both (bits 0xff)
    ∷ row 0x18 (codes "SHR") always nothing (on_m7 2) both (bits 0xff)
    ∷ row 0x19 (codes "ASHR") always nothing (on_m7 2) both (bits 0xff)
    ∷ row 0x1a (codes "EXTNDB") always nothing (on_m7 2) both (bits 0xff)
    ∷ row 0x1b (codes "EXTNDW") always nothing (on_m7 2) both (bits 0xff)
    ∷ row 0x1c (codes "EXTNDD") always nothing (on_m7 2) both (bits 0xff)
    -- m7: index of operand 1; m6: index of operand 2
    ∷ row 0x1d (codes "MOVbw") m7_needs_xi (on_m7 2) (on_m6 2) both (bits 0xff)
    ∷ row 0x1e (codes "MOVww") m7_needs_xi (on_m7 2) (on_m6 2) both (bits 0xff)
    ∷ row 0x1f (codes "MOVdw") m7_needs_xi (on_m7 2) (on_m6 2) both (bits 0xff)
    ∷ row 0x20 (codes "MOVqw") m7_needs_xi (on_m7 2) (on_m6 2) both (bits 0xff)
    ∷ row 0x21 (codes "MOVbd") m7_needs_xi (on_m7 4) (on_m6 4) both (bits 0xff)
    ∷ row 0x22 (codes "MOVwd") m7_needs_xi (on_m7 4) (on_m6 4) both (bits 0xff)
    ∷ row 0x23 (codes "MOVdd") m7_needs_xi (on_m7 4) (on_m6 4) both (bits 0xff)
    ∷ row 0x24 (codes "MOVqd") m7_needs_xi (on_m7 4) (on_m6 4) both (bits 0xff)
    ∷ row 0x25 (codes "MOVsnw") m7_needs_xi (on_m7 2) (on_m6 2) both (bits 0xff)
    ∷ row 0x26 (codes "MOVsnd") m7_needs_xi (on_m7 4) (on_m6 4) both (bits 0xff)
    ∷ row 0x28 (codes "MOVqq") m7_needs_xi (on_m7 8) (on_m6 8) both (bits 0xff)
    -- both operands are registers: here operand 1 is FLAGS, and there operand 2 is FLAGS or IP
    ∷ row 0x29 (codes "LOADSP") x_is_0 nothing nothing neither (bits 0x77)
    ∷ row 0x2a (codes "STORESP") y_is_0_or_1 nothing nothing neither (bits 0x77)
    -- m7: data of operand 1; m6: 64 bits; there is no operand 2
    ∷ row 0x2b (codes "PUSH") always (on_m7 2) nothing both (bits 0x0f)
    ∷ row 0x2c (codes "POP") always (on_m7 2) nothing both (bits 0x0f)
    -- m7: an immediate of 4 bytes; m6: 64 bits; byte 1, bit 4: index of operand 1
    ∷ row 0x2d (codes "CMPIeq") (bit_needs_xi 4) (on_bit 4 2) two_or_four both (bits 0x1f)
    ∷ row 0x2e (codes "CMPIlte") (bit_needs_xi 4) (on_bit 4 2) two_or_four both (bits 0x1f)
    ∷ row 0x2f (codes "CMPIgte") (bit_needs_xi 4) (on_bit 4 2) two_or_four both (bits 0x1f)
    ∷ row 0x30 (codes "CMPIulte") (bit_needs_xi 4) (on_bit 4 2) two_or_four both (bits 0x1f)
    ∷ row 0x31 (codes "CMPIugte") (bit_needs_xi 4) (on_bit 4 2) two_or_four both (bits 0x1f)
    -- m7: index of operand 1; m6: index of operand 2
    ∷ row 0x32 (codes "MOVnw") m7_needs_xi (on_m7 2) (on_m6 2) both (bits 0xff)
    ∷ row 0x33 (codes "MOVnd") m7_needs_xi (on_m7 4) (on_m6 4) both (bits 0xff)
    -- m7: data of operand 1; natural size, so m6 is ignored
    ∷ row 0x35 (codes "PUSHn") always (on_m7 2) nothing m7_alone (bits 0x0f)
    ∷ row 0x36 (codes "POPn") always (on_m7 2) nothing m7_alone (bits 0x0f)
    -- m7, m6: bytes of the immediate; byte 1, bit 6: index of operand 1; bits 5:4: bytes that are moved
    ∷ row 0x37 (codes "MOVI") (width_and_bit_needs_xi 6) (on_bit 6 2) width both (bits 0x7f)
    -- the same, but 8 bytes are always moved, so bits 5:4 are ignored
    ∷ row 0x38 (codes "MOVIn") (width_and_bit_needs_xi 6) (on_bit 6 2) width both (bits 0x4f)
    ∷ row 0x39 (codes "MOVREL") (width_and_bit_needs_xi 6) (on_bit 6 2) width both (bits 0x4f)
    ∷ []

-- a part of an instruction has so many bytes
abbrev pub is_part_size : ℕ → Bool
is_part_size size = list_any (nat_eq size) (0 ∷ 2 ∷ 4 ∷ 8 ∷ [])

-- both parts have such a size
abbrev pub HasPartSizes : Form → Type 0
HasPartSizes form = IsTrue (is_part_size form.first) × IsTrue (is_part_size form.second)

-- the row of an opcode
abbrev pub row_of : ℕ → Option Row
row_of op = find (λ r. nat_eq r.opcode op) rows

-- a form, if the first two bytes are legal
abbrev pub form_if : Bool → ℕ → ℕ → ℕ → ℕ → Option Form
form_if legal first second kept_mods kept_operands =
    if legal then Some (record { first = first; second = second; kept_mods = kept_mods; kept_operands = kept_operands }) else None

-- the form that a row gives to the modifiers and the second byte, if they are legal
abbrev pub form_in_row : Option Row → ℕ → ℕ → Option Form
form_in_row None mods operands = None
form_in_row (Some r) mods operands =
    form_if (r.legal mods operands) (r.first mods operands) (r.second mods operands) r.kept_mods (r.kept_operands mods)

-- the form of the first two bytes by the table, or `None` if they are illegal
abbrev pub form_in_table : ℕ → ℕ → ℕ → Option Form
form_in_table op mods operands = form_in_row (row_of op) mods operands

-- the bytes of an instruction, with the modifiers and the second byte as they are written
abbrev pub spelling : Form → Instr → ℕ → ℕ → List ℕ
spelling form instr mods operands = (instr.op + 64 * mods) ∷ operands ∷ (little_bytes form.first instr.first ++ little_bytes form.second instr.second)

-- The bytes spell the instruction: there is a row of its opcode, by which the modifiers and the second
-- byte are legal as they are written; the bits that count are those of the instruction, whose others
-- are 0; and the two parts follow, operand 1's first, each in the bytes that the row gives it.
pub record Spells (bytes : List ℕ) (instr : Instr) : Type 0 where
  pub mods : ℕ
  pub operands : ℕ
  pub form : Form
  pub listed : form_in_table instr.op mods operands ≡ Some form
  pub op_fits : instr.op < 64
  pub mods_fit : mods < 4
  pub operands_fit : operands < 256
  pub mods_are : instr.mods ≡ bit_and mods form.kept_mods
  pub operands_are : instr.operands ≡ bit_and operands form.kept_operands
  pub first_fits : instr.first < 256 ^ form.first
  pub second_fits : instr.second < 256 ^ form.second
  pub bytes_are : bytes ≡ spelling form instr mods operands

-- what bytes decode to by a form, with their parts at the positions that the form gives
abbrev pub decoding_by_form : Option Form → List ℕ → Result (Instr × ℕ) DecodeRefusal
decoding_by_form None bytes = Err Illegal
decoding_by_form (Some form) bytes =
    let instr : Instr = record {
      op = slice_index bytes 0 % 64;
      mods = bit_and (slice_index bytes 0 / 64) form.kept_mods;
      operands = bit_and (slice_index bytes 1) form.kept_operands;
      first = little_number form.first (drop 2 bytes);
      second = little_number form.second (drop (2 + form.first) bytes);
    } in
    let size : ℕ = 2 + form.first + form.second in
    if nat_lt (length bytes) size then Err Short else Ok (instr, size)

-- the instruction at the front of the bytes and its length, or the first fault
abbrev pub decoding : List ℕ → Result (Instr × ℕ) DecodeRefusal
decoding bytes =
    if nat_lt (length bytes) 2 then Err Short
    else decoding_by_form (form_in_table (slice_index bytes 0 % 64) (slice_index bytes 0 / 64) (slice_index bytes 1)) bytes

-- an instruction of a form: its ignored bits are 0, and its two parts fit their sizes
pub record FitsForm (instr : Instr) (form : Form) : Type 0 where
  pub op : instr.op < 64
  pub mods : instr.mods < 4
  pub operands : instr.operands < 256
  pub kept_mods : bit_and instr.mods form.kept_mods ≡ instr.mods
  pub kept_operands : bit_and instr.operands form.kept_operands ≡ instr.operands
  pub first : instr.first < 256 ^ form.first
  pub second : instr.second < 256 ^ form.second

-- an instruction as the table has it
abbrev pub IsInstruction : Instr → Type 0
IsInstruction instr = IsSomeAnd (form_in_table instr.op instr.mods instr.operands) (FitsForm instr)
