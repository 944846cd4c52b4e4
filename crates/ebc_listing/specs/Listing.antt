-- The listing of bytes: a line for each instruction, with its address and its text. It ends at the end
-- of the bytes, or with the text `.illegal` at the first place at which no instruction begins.
use Rattle.std.specs.Prelude.{ℕ, zero, suc, ◌+◌, ◌-◌, ◌*◌, ◌/◌, ◌%◌, ◌^◌, Bool, true, not, ◌||◌, nat_eq, bit_and, bytes_eq, codes, List, [], ◌∷◌, ◌++◌, length, drop, replicate, Option, Some, None, Result, Ok, Err, if◌then◌else◌}
use Rattle.std.specs.List.{flat_map, list_any}
use Rattle.std.specs.Fmt.{decimal, digits, signed_decimal}
use Rattle.byteorder.specs.Endian.{twos_complement}
use Rattle.ebc_decode.specs.Columns.{is_set}
use Rattle.ebc_decode.specs.Spelling.{decoding}
use Rattle.ebc_decode.specs.declared.instr.Instr.{Instr}
use Rattle.ebc_decode.specs.declared.instr.DecodeRefusal.{DecodeRefusal}
use Rattle.ebc_names.specs.declared.slots.Bits.{Bits}
use Rattle.ebc_names.specs.declared.slots.Side.{Side}
use Rattle.ebc_names.specs.declared.slots.Side.TheVariants.{One, Two}
use Rattle.ebc_names.specs.declared.slots.Suffix.{Suffix}
use Rattle.ebc_names.specs.declared.slots.Suffix.TheVariants.{Nothing, Signed, SignedOrLabel, Index}
use Rattle.ebc_decode.specs.declared.size.Size.{Size}
use Rattle.ebc_decode.specs.declared.size.Size.TheVariants.{Byte}
use Rattle.ebc_names.specs.declared.slots.Slot.{Slot}
use Rattle.ebc_names.specs.declared.slots.Slot.TheVariants.{Register, Flags, FlagsOrIp, Immediate, ImmediateOrLabel, RawIndex, Step, Code}
use Rattle.ebc_names.specs.Names.{Name, name_of, suffix_of}
use Rattle.ebc_decode.specs.Sizes.{byte_count}

-- ---- numbers

-- at least so many upper-case hexadecimal digits
abbrev pub hex : ℕ → ℕ → List ℕ
hex least n = replicate (least - length (digits 16 true n)) 48 ++ digits 16 true n

-- the signed number that the low bytes are, in decimal
abbrev pub signed_text : Size → ℕ → List ℕ
signed_text size n = signed_decimal (twos_complement (byte_count size) (n % 256 ^ byte_count size))

-- the raw bits of a natural index, two digits a byte
abbrev pub index_text : Size → ℕ → List ℕ
index_text size n = codes "[0x" ++ hex (2 * byte_count size) n ++ codes "]"

-- ---- operands

-- the number of the register of an operand, from 0 to 7
abbrev pub register : Side → Instr → ℕ
register One instr = instr.operands % 8
register Two instr = instr.operands / 16 % 8

-- whether the operand is indirect
abbrev pub is_indirect : Side → Instr → Bool
is_indirect One instr = is_set instr.operands 3
is_indirect Two instr = is_set instr.operands 7

-- the part that belongs to the operand
abbrev pub part : Side → Instr → ℕ
part One instr = instr.first
part Two instr = instr.second

-- whether one of these bits is set
abbrev pub shows : Bits → Instr → Bool
shows bits instr = not (nat_eq (bit_and instr.mods bits.mods) 0) || not (nat_eq (bit_and instr.operands bits.operands) 0)

abbrev pub register_text : Bool → ℕ → List ℕ
register_text is_indirect number = (if is_indirect then codes "@R" else codes "R") ++ decimal number

-- what follows a register, if it is there
abbrev pub suffix_text : Suffix → Size → ℕ → List ℕ
suffix_text Nothing size n = []
suffix_text Signed size n = codes "{" ++ signed_text size n ++ codes "}"
suffix_text SignedOrLabel size n = codes "{" ++ signed_text size n ++ codes "}"
suffix_text Index size n = index_text size n

-- the text of an operand
abbrev pub slot_text : Slot → Instr → List ℕ
slot_text (Register side shown_by size direct indirect) instr =
    register_text (is_indirect side instr) (register side instr)
    ++ (if shows shown_by instr then suffix_text (suffix_of direct indirect (is_indirect side instr)) size (part side instr) else [])
slot_text Flags instr = codes "FLAGS"
slot_text FlagsOrIp instr = if is_set instr.operands 4 then codes "IP" else codes "FLAGS"
slot_text (Immediate size) instr = signed_text size instr.second
slot_text (ImmediateOrLabel size) instr = signed_text size instr.second
slot_text (RawIndex size) instr = index_text size instr.second
slot_text Step instr = signed_text Byte instr.operands
slot_text Code instr = decimal instr.operands

-- ---- instructions

-- an operand, if there is one, after the text that separates it from what comes before
abbrev pub operand_text : List ℕ → Option Slot → Instr → List ℕ
operand_text lead None instr = []
operand_text lead (Some slot) instr = lead ++ slot_text slot instr

-- operands follow a space and are joined by a comma and a space
abbrev pub name_text : Option Name → Instr → List ℕ
name_text None instr = []
name_text (Some name) instr = name.text ++ operand_text (codes " ") name.pattern.one instr ++ operand_text (codes ", ") name.pattern.two instr

-- the text of an instruction
abbrev pub instr_text : Instr → List ℕ
instr_text instr = name_text (name_of instr) instr

-- ---- the listing

abbrev pub illegal_text : List ℕ
illegal_text = codes ".illegal"

-- a line of the listing
pub record Line : Type 0 where
  pub address : ℕ
  pub text : List ℕ

-- the line of what is found at an address, and the lines after it
abbrev pub line_of : ℕ → Result (Instr × ℕ) DecodeRefusal → (ℕ → List Line) → List Line
line_of at (Err refusal) rest = record { address = at; text = illegal_text } ∷ []
line_of at (Ok found) rest = record { address = at; text = instr_text found.0 } ∷ rest found.1

-- The lines of bytes at an address. An instruction has at least two bytes, so there are
-- at most so many lines as bytes.
unfoldable pub lines_from : ℕ → List ℕ → ℕ → List Line
lines_from zero bytes at = []
lines_from (suc most) bytes at =
    if nat_eq (length bytes) 0 then [] else line_of at (decoding bytes) (λ size. lines_from most (drop size bytes) (at + size))

abbrev pub listing_lines : List ℕ → ℕ → List Line
listing_lines bytes at = lines_from (length bytes) bytes at

-- a line is its address in at least 8 digits, a space, its text and a line feed
abbrev pub line_text : Line → List ℕ
line_text line = hex 8 line.address ++ codes " " ++ line.text ++ 10 ∷ []

-- the listing of bytes at an address
abbrev pub listing : List ℕ → ℕ → List ℕ
listing bytes at = flat_map line_text (listing_lines bytes at)

-- whether the listing ends with `.illegal`
abbrev pub is_illegal : Line → Bool
is_illegal line = bytes_eq line.text illegal_text

-- whether instructions are listed up to the end of the bytes
abbrev pub is_whole : List Line → Bool
is_whole lines = not (list_any is_illegal lines)

-- the texts of lines without their addresses, one a line
abbrev pub texts : List Line → List ℕ
texts lines = flat_map (λ line. line.text ++ 10 ∷ []) lines
