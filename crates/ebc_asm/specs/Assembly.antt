-- The assembler. A text has lines: blank ones and comments after `;`, labels `name:`, `.byte` with
-- numbers, and instructions as the listing writes them. The place of a label is that of the bytes
-- after it. A refusal has the first line that is refused, and its first fault from left to right.
use Rattle.std.specs.Prelude.{◌≡◌, ℕ, ◌+◌, ◌-◌, ◌*◌, ◌/◌, ◌%◌, ◌^◌, Bool, false, not, ◌&&◌, ◌||◌, nat_eq, nat_lt, nat_le, bit_and, bit_or, bytes_eq, codes, List, [], ◌∷◌, ◌++◌, length, take, drop, filter, find, slice_index, Option, Some, None, is_some, Result, Ok, Err, Vec, if◌then◌else◌}
use Rattle.std.specs.declared.alloc.Global.{Global}
use Rattle.std.specs.Option.{option_map, option_map_or}
use Rattle.std.specs.List.{after_first, before_first, list_all, list_any, slice_split, starts_with}
use Rattle.std.specs.Char.{digit_value}
use Rattle.std.specs.Str.Lines.{lines}
use Rattle.std.specs.Str.Parse.{digits_value, starts_with_minus}
use Rattle.ebc_decode.specs.Spelling.{form_in_table, spelling}
use Rattle.ebc_decode.specs.declared.form.Form.{Form}
use Rattle.ebc_decode.specs.declared.instr.Instr.{Instr}
use Rattle.ebc_asm.specs.declared.fault.AsmKind.{AsmKind}
use Rattle.ebc_asm.specs.declared.fault.AsmKind.TheVariants as kind
use Rattle.ebc_asm.specs.declared.fault.AsmFault.{AsmFault}
use Rattle.ebc_asm.specs.declared.fault.AsmFault.TheVariants.{Refused, OutOfMemory}
use Rattle.ebc_names.specs.declared.slots.Bits.{Bits}
use Rattle.ebc_names.specs.declared.slots.Side.{Side}
use Rattle.ebc_names.specs.declared.slots.Side.TheVariants.{One, Two}
use Rattle.ebc_names.specs.declared.slots.Suffix.{Suffix}
use Rattle.ebc_names.specs.declared.slots.Suffix.TheVariants.{Nothing, Signed, SignedOrLabel, Index}
use Rattle.ebc_decode.specs.declared.size.Size.{Size}
use Rattle.ebc_decode.specs.declared.size.Size.TheVariants.{Byte}
use Rattle.ebc_names.specs.declared.slots.Slot.{Slot}
use Rattle.ebc_names.specs.declared.slots.Slot.TheVariants.{Register, Flags, FlagsOrIp, Immediate, ImmediateOrLabel, RawIndex, Step, Code}
use Rattle.ebc_names.specs.declared.slots.Pattern.{Pattern}
use Rattle.ebc_asm.specs.declared.labels.LabelPlace.{LabelPlace}
use Rattle.ebc_asm.specs.declared.line_fault.LineFault.{LineFault}
use Rattle.ebc_asm.specs.declared.line_fault.LineFault.TheVariants as line_fault
use Rattle.text_lines.specs.Words.{after_blanks, after_word, first_word, is_blank, only_word}
use Rattle.ebc_names.specs.Names.{Name, bits, name_by, suffix_of}
use Rattle.ebc_decode.specs.Sizes.{byte_count}

-- ---- the words of a line

abbrev pub is_semicolon : ℕ → Bool
is_semicolon b = nat_eq b 59

abbrev pub is_comma : ℕ → Bool
is_comma b = nat_eq b 44

-- the text of a line without its comment and the blanks at its front
abbrev pub code_of : List ℕ → List ℕ
code_of line = after_blanks (before_first is_semicolon line)

-- ---- results

-- a part of a line that may be refused, and then the rest of it
infixl 10 ◌>>=◌
abbrev pub ◌>>=◌ : {A B : Type 0} → Result A AsmKind → (A → Result B AsmKind) → Result B AsmKind
(Ok value) >>= rest = rest value
(Err refusal) >>= rest = Err refusal

-- a value, if a test holds, or a refusal
abbrev pub only_if : {A : Type 0} → Bool → A → AsmKind → Result A AsmKind
only_if holds value refusal = if holds then Ok value else Err refusal

-- ---- numbers

-- one or more digits and nothing else
abbrev pub is_numeral : ℕ → List ℕ → Bool
is_numeral base text = nat_lt 0 (length text) && list_all (λ c. nat_lt (digit_value c) base) text

-- a number that is at most so much
abbrev pub within : ℕ → ℕ → Result ℕ AsmKind
within most n = only_if (nat_le n most) n kind.Range

-- the number that digits write, at most so much
abbrev pub numeral : ℕ → ℕ → List ℕ → Result ℕ AsmKind
numeral base most text = if is_numeral base text then within most (digits_value base text) else Err kind.Number

-- the greatest number of a size, and the greatest distances of signed ones from 0
abbrev pub unsigned_most : Size → ℕ
unsigned_most size = 256 ^ byte_count size - 1

abbrev pub positive_most : Size → ℕ
positive_most size = 2 ^ (8 * byte_count size - 1) - 1

abbrev pub negative_most : Size → ℕ
negative_most size = 2 ^ (8 * byte_count size - 1)

-- a negative number of a size, by its distance from 0
abbrev pub negated : Size → Result ℕ AsmKind → Result ℕ AsmKind
negated size distance = distance >>= λ n. Ok ((256 ^ byte_count size - n) % 256 ^ byte_count size)

-- a signed decimal number of a size
abbrev pub signed_number : Size → List ℕ → Result ℕ AsmKind
signed_number size text =
    if starts_with_minus text then negated size (numeral 10 (negative_most size) (drop 1 text))
    else numeral 10 (positive_most size) text

-- `0x` and hexadecimal digits of either case
abbrev pub is_hex : List ℕ → Bool
is_hex text = starts_with nat_eq text (codes "0x")

abbrev pub raw_number : Size → List ℕ → Result ℕ AsmKind
raw_number size text = if is_hex text then numeral 16 (unsigned_most size) (drop 2 text) else Err kind.Number

-- a byte in decimal or hexadecimal
abbrev pub byte_number : List ℕ → Result ℕ AsmKind
byte_number text = if is_hex text then numeral 16 255 (drop 2 text) else numeral 10 255 text

-- ---- labels

-- a letter, `_` or `.`
abbrev pub begins_label : ℕ → Bool
begins_label b = (nat_le 65 b && nat_le b 90) || (nat_le 97 b && nat_le b 122) || nat_eq b 95 || nat_eq b 46

-- one of these or a digit
abbrev pub continues_label : ℕ → Bool
continues_label b = begins_label b || (nat_le 48 b && nat_le b 57)

abbrev pub is_label_name : List ℕ → Bool
is_label_name text = begins_label (slice_index text 0) && list_all continues_label text

-- a label: its name, the number of its line, and its place from the first byte on
pub record Label : Type 0 where
  pub name : List ℕ
  pub line : ℕ
  pub place : ℕ

-- a label of the program
abbrev pub label_view : LabelPlace → Label
label_view label = record { name = label.name.now; line = label.line; place = label.place }

-- the first label of a name
abbrev pub label_by : List Label → List ℕ → Option Label
label_by labels name = find (λ label. bytes_eq label.name name) labels

-- a distance in units of so many bytes
abbrev pub in_units : ℕ → ℕ → Result ℕ AsmKind
in_units unit distance = only_if (nat_eq (distance % unit) 0) (distance / unit) kind.Range

-- the distance from one place to another, in units of so many bytes, as a signed number of a size
abbrev pub distance_between : ℕ → Size → ℕ → ℕ → Result ℕ AsmKind
distance_between unit size from to =
    if nat_le from to then (in_units unit (to - from) >>= within (positive_most size))
    else negated size (in_units unit (from - to) >>= within (negative_most size))

-- the distance to a label, if it is there
abbrev pub distance_to : ℕ → Size → ℕ → Option Label → Result ℕ AsmKind
distance_to unit size from None = Err kind.Label
distance_to unit size from (Some label) = distance_between unit size from label.place

-- The value of `=name`: the distance from the address after the instruction to the label, or 0 as long
-- as no label has a place.
abbrev pub label_distance : Option (List Label) → ℕ → ℕ → Size → List ℕ → Result ℕ AsmKind
label_distance None next unit size name = Ok 0
label_distance (Some labels) next unit size name = distance_to unit size next (label_by labels name)

-- whether the place of a number has a label, which begins with `=`
abbrev pub is_reference : List ℕ → Bool
is_reference text = nat_eq (slice_index text 0) 61

-- a signed number, or a label
abbrev pub signed_or_label : Option (List Label) → ℕ → ℕ → Size → List ℕ → Result ℕ AsmKind
signed_or_label labels next unit size text =
    if is_reference text
    then (if is_label_name (drop 1 text) then label_distance labels next unit size (drop 1 text) else Err kind.Operand)
    else signed_number size text

-- ---- operands

-- the bits and parts that an operand adds to its instruction
abbrev pub contribution : Bits → ℕ → ℕ → Instr
contribution bits first second = record { op = 0; mods = bits.mods; operands = bits.operands; first = first; second = second }

-- the bits and parts of both together
abbrev pub union_of : Instr → Instr → Instr
union_of a b =
    record {
      op = bit_or a.op b.op;
      mods = bit_or a.mods b.mods;
      operands = bit_or a.operands b.operands;
      first = bit_or a.first b.first;
      second = bit_or a.second b.second;
    }

-- what the register of an operand adds
abbrev pub register_contribution : Side → Bool → ℕ → Instr
register_contribution One is_indirect number = contribution (bits 0 (number + (if is_indirect then 8 else 0))) 0 0
register_contribution Two is_indirect number = contribution (bits 0 (16 * (number + (if is_indirect then 8 else 0)))) 0 0

-- what the number of an operand adds
abbrev pub part_contribution : Side → Bits → ℕ → Instr
part_contribution One shown_by n = contribution shown_by n 0
part_contribution Two shown_by n = contribution shown_by 0 n

-- a text between two brackets
abbrev pub is_enclosed : ℕ → ℕ → List ℕ → Bool
is_enclosed left right text = nat_le 2 (length text) && nat_eq (slice_index text 0) left && nat_eq (slice_index text (length text - 1)) right

abbrev pub inside : List ℕ → List ℕ
inside text = take (length text - 2) (drop 1 text)

-- `[` and `]`, `{` and `}`
abbrev pub is_in_brackets : List ℕ → Bool
is_in_brackets text = is_enclosed 91 93 text

abbrev pub is_in_braces : List ℕ → Bool
is_in_braces text = is_enclosed 123 125 text

-- the signed number in braces, or a label if one is allowed
abbrev pub number_in_braces : Bool → Option (List Label) → ℕ → Size → List ℕ → Result ℕ AsmKind
number_in_braces allowed labels next size text =
    if is_in_braces text && (allowed || not (is_reference (inside text)))
    then signed_or_label labels next 1 size (inside text)
    else Err kind.Operand

-- the index in brackets
abbrev pub index_in_brackets : Size → List ℕ → Result ℕ AsmKind
index_in_brackets size text = if is_in_brackets text then raw_number size (inside text) else Err kind.Operand

-- the number after a register; `plain` says that the register is R0 and direct
abbrev pub number_after_register : Suffix → Bool → Option (List Label) → ℕ → Size → List ℕ → Result ℕ AsmKind
number_after_register Nothing plain labels next size text = Err kind.Operand
number_after_register Signed plain labels next size text = number_in_braces false labels next size text
number_after_register SignedOrLabel plain labels next size text = number_in_braces plain labels next size text
number_after_register Index plain labels next size text = index_in_brackets size text

-- an operand by a register: whether it is indirect, its number, and what follows it
abbrev pub register_operand : Side → Bits → Size → Suffix → Bool → ℕ → Option (List Label) → ℕ → List ℕ → Result Instr AsmKind
register_operand side shown_by size allowed is_indirect number labels next text =
    if nat_eq (length text) 0 then Ok (register_contribution side is_indirect number)
    else do
      n ← number_after_register allowed (nat_eq number 0 && not is_indirect) labels next size text
      Ok (union_of (register_contribution side is_indirect number) (part_contribution side shown_by n))

-- whether a text begins with a register, R0 to R7
abbrev pub begins_register : List ℕ → Bool
begins_register text = nat_eq (slice_index text 0) 82 && nat_le 48 (slice_index text 1) && nat_le (slice_index text 1) 55

abbrev pub begins_indirect : List ℕ → Bool
begins_indirect text = nat_eq (slice_index text 0) 64

-- the text after `@`
abbrev pub after_at_sign : List ℕ → List ℕ
after_at_sign text = if begins_indirect text then drop 1 text else text

-- In the place of a number another operand is wrong: an empty text, a register, an index or a label.
-- Anything else that is no number is a malformed number.
abbrev pub is_other_operand : List ℕ → Bool
is_other_operand text =
    nat_eq (length text) 0 || list_any (nat_eq (slice_index text 0)) (codes "R@[=")

abbrev pub plain_number : (List ℕ → Result ℕ AsmKind) → List ℕ → Result ℕ AsmKind
plain_number read text = if is_other_operand text then Err kind.Operand else read text

-- a number that may be a label
abbrev pub number_or_label : Option (List Label) → ℕ → ℕ → Size → List ℕ → Result ℕ AsmKind
number_or_label labels next unit size text =
    if is_reference text then signed_or_label labels next unit size text else plain_number (signed_number size) text

-- a number that is the second part, and one that is the second byte
abbrev pub in_second_part : ℕ → Result Instr AsmKind
in_second_part n = Ok (contribution (bits 0 0) 0 n)

abbrev pub in_second_byte : ℕ → Result Instr AsmKind
in_second_byte n = Ok (contribution (bits 0 n) 0 0)

-- the word FLAGS, which adds nothing
abbrev pub flags_operand : List ℕ → Result Instr AsmKind
flags_operand text = only_if (bytes_eq text (codes "FLAGS")) (contribution (bits 0 0) 0 0) kind.Operand

-- What an operand adds to its instruction, by its place in the table; `next` is the address after the
-- instruction.
abbrev pub slot_operand : Slot → Option (List Label) → ℕ → List ℕ → Result Instr AsmKind
slot_operand (Register side shown_by size direct indirect) labels next text =
    let inner : List ℕ = after_at_sign text in
    if begins_register inner && (is_some indirect || not (begins_indirect text))
    then register_operand side shown_by size (suffix_of direct indirect (begins_indirect text)) (begins_indirect text) (slice_index inner 1 - 48) labels next (drop 2 inner)
    else Err kind.Operand
slot_operand Flags labels next text = flags_operand text
slot_operand FlagsOrIp labels next text = if bytes_eq text (codes "IP") then Ok (contribution (bits 0 0x10) 0 0) else flags_operand text
slot_operand (Immediate size) labels next text = plain_number (signed_number size) text >>= in_second_part
slot_operand (ImmediateOrLabel size) labels next text = number_or_label labels next 1 size text >>= in_second_part
slot_operand (RawIndex size) labels next text = index_in_brackets size text >>= in_second_part
slot_operand Step labels next text = number_or_label labels next 2 Byte text >>= in_second_byte
slot_operand Code labels next text = plain_number (numeral 10 255) text >>= in_second_byte

-- ---- instructions

-- whether an instruction's bits are those that count, and its parts fit their sizes
abbrev pub is_of_form : Form → Instr → Bool
is_of_form form instr =
    nat_lt instr.op 64 && nat_lt instr.mods 4 && nat_lt instr.operands 256
    && nat_eq (bit_and instr.mods form.kept_mods) instr.mods
    && nat_eq (bit_and instr.operands form.kept_operands) instr.operands
    && nat_lt instr.first (256 ^ form.first)
    && nat_lt instr.second (256 ^ form.second)

-- the bytes of an instruction of a form, or the refusal of one that does not encode
abbrev pub spelling_if : Option Form → Instr → Result (List ℕ) AsmKind
spelling_if None instr = Err kind.Operand
spelling_if (Some form) instr = only_if (is_of_form form instr) (spelling form instr instr.mods instr.operands) kind.Operand

abbrev pub encoding : Instr → Result (List ℕ) AsmKind
encoding instr = spelling_if (form_in_table instr.op instr.mods instr.operands) instr

-- what the operands add together, the first one first
abbrev pub operands_of : Option Slot → Option Slot → Option (List Label) → ℕ → List ℕ → Result Instr AsmKind
operands_of None two labels next text = only_if (list_all is_blank text) (contribution (bits 0 0) 0 0) kind.Operand
operands_of (Some one) None labels next text = slot_operand one labels next (only_word text)
operands_of (Some one) (Some two) labels next text = do
  a ← slot_operand one labels next (only_word (before_first is_comma text))
  b ← slot_operand two labels next (only_word (after_first is_comma text))
  Ok (union_of a b)

-- the instruction of a name without its operands
abbrev pub bare_instr : Pattern → Instr
bare_instr pattern = record { op = pattern.op; mods = pattern.bits.mods; operands = pattern.bits.operands; first = 0; second = 0 }

-- the bytes of a name and its operands
abbrev pub bytes_of_instr : Option Name → Option (List Label) → ℕ → List ℕ → Result (List ℕ) AsmKind
bytes_of_instr None labels next text = Err kind.UnknownWord
bytes_of_instr (Some name) labels next text = do
  added ← operands_of name.pattern.one name.pattern.two labels next text
  encoding (union_of (bare_instr name.pattern) added)

-- ---- lines

-- the name of a label's line `name:`
abbrev pub label_of : List ℕ → Option (List ℕ)
label_of text =
    let word : List ℕ = only_word text in
    let name : List ℕ = take (length word - 1) word in
    if nat_eq (slice_index word (length word - 1)) 58 && is_label_name name then Some name else None

-- the numbers after `.byte`, separated by commas and blanks
abbrev pub is_break : ℕ → Bool
is_break b = is_blank b || is_comma b

abbrev pub number_words : List ℕ → List (List ℕ)
number_words text = filter (λ word. nat_lt 0 (length word)) (slice_split is_break text)

-- their bytes
abbrev pub bytes_of_words : List (List ℕ) → Result (List ℕ) AsmKind
bytes_of_words [] = Ok []
bytes_of_words (word ∷ words) = do
  b ← byte_number word
  bs ← bytes_of_words words
  Ok (b ∷ bs)

-- one or more numbers
abbrev pub bytes_of_numbers : List (List ℕ) → Result (List ℕ) AsmKind
bytes_of_numbers words = if nat_eq (length words) 0 then Err kind.Operand else bytes_of_words words

-- the bytes of a line, by its text without the comment
abbrev pub bytes_of_code : Option (List Label) → ℕ → List ℕ → Result (List ℕ) AsmKind
bytes_of_code labels next text =
    if nat_eq (length text) 0 || is_some (label_of text) then Ok []
    else (if bytes_eq (first_word text) (codes ".byte") then bytes_of_numbers (number_words (after_word text))
    else bytes_of_instr (name_by (first_word text)) labels next (after_word text))

abbrev pub bytes_of_line : Option (List Label) → ℕ → List ℕ → Result (List ℕ) AsmKind
bytes_of_line labels next line = bytes_of_code labels next (code_of line)

-- how many bytes a line has, whatever places the labels have; one that is refused has none
abbrev pub length_or_zero : Result (List ℕ) AsmKind → ℕ
length_or_zero (Ok bytes) = length bytes
length_or_zero (Err refusal) = 0

abbrev pub line_size : List ℕ → ℕ
line_size line = length_or_zero (bytes_of_line None 0 line)

-- ---- the text

-- the labels of a line
abbrev pub label_at : ℕ → ℕ → Option (List ℕ) → List Label
label_at number place None = []
label_at number place (Some name) = record { name = name; line = number; place = place } ∷ []

-- the labels of lines that count from this number, with bytes that count from this place
unfoldable pub labels_from : ℕ → ℕ → List (List ℕ) → List Label
labels_from number place [] = []
labels_from number place (line ∷ later) =
    label_at number place (label_of (code_of line)) ++ labels_from (number + 1) (place + line_size line) later

-- whether an earlier line has the label
abbrev pub is_repeated : List Label → ℕ → Option (List ℕ) → Bool
is_repeated labels number None = false
is_repeated labels number (Some name) = list_any (λ label. bytes_eq label.name name && nat_lt label.line number) labels

-- the bytes of a line when each label has its place
abbrev pub placed_bytes_of_line : List Label → ℕ → ℕ → List ℕ → Result (List ℕ) AsmKind
placed_bytes_of_line labels number place line =
    if is_repeated labels number (label_of (code_of line)) then Err kind.Label
    else do
      bytes ← bytes_of_line None 0 line
      bytes_of_line (Some labels) (place + length bytes) line

-- the bytes of a line before those of later ones, or the first refusal
abbrev pub before : ℕ → Result (List ℕ) AsmKind → Result (List ℕ) (ℕ × AsmKind) → Result (List ℕ) (ℕ × AsmKind)
before number (Err refusal) later = Err (number, refusal)
before number (Ok bytes) (Err later) = Err later
before number (Ok bytes) (Ok more) = Ok (bytes ++ more)

-- the bytes of lines that count from this number, with bytes that count from this place
unfoldable pub bytes_from : List Label → ℕ → ℕ → List (List ℕ) → Result (List ℕ) (ℕ × AsmKind)
bytes_from labels number place [] = Ok []
bytes_from labels number place (line ∷ later) =
    before number (placed_bytes_of_line labels number place line) (bytes_from labels (number + 1) (place + line_size line) later)

-- the labels of a text with their places
abbrev pub labels_of : List ℕ → List Label
labels_of text = labels_from 1 0 (lines text)

-- the bytes of a text, or the first line that is refused, counted from 1, with its kind
abbrev pub assembly_of : List ℕ → Result (List ℕ) (ℕ × AsmKind)
assembly_of text = bytes_from (labels_of text) 1 0 (lines text)

-- the place of the first label of a name in a text, from the first byte on
abbrev pub place_of_label : List ℕ → List ℕ → Option ℕ
place_of_label text name = option_map (λ label. label.place) (label_by (labels_of text) name)

-- whether a line is the label of a name
abbrev pub is_label : List ℕ → List ℕ → Bool
is_label name line = option_map_or (λ found. bytes_eq found name) (label_of (code_of line)) false

-- an answer to a line is this one, unless memory ran out
abbrev pub GivesLine : Result (Vec ℕ Global) LineFault → Result (List ℕ) AsmKind → Type 0
GivesLine (Ok bytes) reading = reading ≡ Ok bytes.items
GivesLine (Err (line_fault.Refused refusal)) reading = reading ≡ Err refusal
GivesLine (Err line_fault.OutOfMemory) reading = Unit {0}

-- why a text is refused if the line with this number has no bytes
abbrev pub fault_of : ℕ → LineFault → AsmFault
fault_of number (line_fault.Refused refusal) = Refused number refusal
fault_of number line_fault.OutOfMemory = OutOfMemory

-- an answer to a text is this one, unless memory ran out
abbrev pub Gives : Result (Vec ℕ Global) AsmFault → Result (List ℕ) (ℕ × AsmKind) → Type 0
Gives (Ok bytes) reading = reading ≡ Ok bytes.items
Gives (Err (Refused line refusal)) reading = reading ≡ Err (line, refusal)
Gives (Err OutOfMemory) reading = Unit {0}
