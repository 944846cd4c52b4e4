-- What the text of an instruction is read as, and a test of it at each opcode, modifiers and second byte.
use Rattle.std.proofs.Common.{ℕ, Bool, true, false, not, ◌&&◌, ◌||◌, nat_eq, nat_lt, List, Option, Some, None, find, filter}
use Rattle.std.specs.Prelude.{bit_and, bytes_eq, if◌then◌else◌, is_some}
use Rattle.std.specs.List.{list_all}
use Rattle.ebc_decode.specs.Columns.{Row, is_set}
use Rattle.ebc_decode.specs.Spelling.{row_of}
use Rattle.ebc_decode.specs.declared.instr.Instr.{Instr}
use Rattle.ebc_names.specs.declared.slots.Side.{Side}
use Rattle.ebc_names.specs.declared.slots.Side.TheVariants.{One, Two}
use Rattle.ebc_names.specs.declared.slots.Suffix.{Suffix}
use Rattle.ebc_names.specs.declared.slots.Suffix.TheVariants.{Nothing, Signed, SignedOrLabel, Index}
use Rattle.ebc_names.specs.declared.slots.Slot.{Slot}
use Rattle.ebc_names.specs.declared.slots.Slot.TheVariants.{Register, Flags, FlagsOrIp, Immediate, ImmediateOrLabel, RawIndex, Step, Code}
use Rattle.ebc_names.specs.Names.{Name, bits, goes_by, names, suffix_of}
use Rattle.ebc_decode.specs.Sizes.{byte_count}
use Rattle.ebc_listing.specs.Listing.{register, is_indirect, part, shows}
use Rattle.ebc_asm.specs.Assembly.{contribution, register_contribution, part_contribution, union_of, bare_instr}
use Rattle.ebc_asm.proofs.TestLemmas.{below}

-- ---- what is read back

-- nothing that is added
abbrev pub no_contribution : Instr
no_contribution = contribution (bits 0 0) 0 0

-- what the text of an operand says
abbrev pub slot_adds : Slot → Instr → Instr
slot_adds (Register side shown_by size direct indirect) instr =
    if shows shown_by instr then union_of (register_contribution side (is_indirect side instr) (register side instr)) (part_contribution side shown_by (part side instr))
    else register_contribution side (is_indirect side instr) (register side instr)
slot_adds Flags instr = no_contribution
slot_adds FlagsOrIp instr = if is_set instr.operands 4 then contribution (bits 0 0x10) 0 0 else no_contribution
slot_adds (Immediate size) instr = contribution (bits 0 0) 0 instr.second
slot_adds (ImmediateOrLabel size) instr = contribution (bits 0 0) 0 instr.second
slot_adds (RawIndex size) instr = contribution (bits 0 0) 0 instr.second
slot_adds Step instr = contribution (bits 0 instr.operands) 0 0
slot_adds Code instr = contribution (bits 0 instr.operands) 0 0

-- what both operands say
abbrev pub both_add : Option Slot → Option Slot → Instr → Instr
both_add None two instr = no_contribution
both_add (Some one) None instr = slot_adds one instr
both_add (Some one) (Some two) instr = union_of (slot_adds one instr) (slot_adds two instr)

-- an instruction with only these bits
abbrev pub bare : ℕ → ℕ → Instr
bare mods operands = record { op = 0; mods = mods; operands = operands; first = 0; second = 0 }

-- the bits that a text says
abbrev pub name_bits : Name → ℕ → ℕ → Instr
name_bits name mods operands = union_of (bare_instr name.pattern) (both_add name.pattern.one name.pattern.two (bare mods operands))

-- The instruction that the text of an instruction is read as. Bits that no text shows are 0 in it.
abbrev pub read_back : Name → Instr → Instr
read_back name instr =
    record {
      op = instr.op;
      mods = (name_bits name instr.mods instr.operands).mods;
      operands = (name_bits name instr.mods instr.operands).operands;
      first = instr.first;
      second = instr.second;
    }

-- ---- the test

abbrev pub is_something : Suffix → Bool
is_something Nothing = false
is_something Signed = true
is_something SignedOrLabel = true
is_something Index = true

abbrev pub of_side : Side → ℕ → ℕ → ℕ
of_side One first second = first
of_side Two first second = second

-- an operand is written as it may be, and shows a part in its size, if the parts have so many bytes
abbrev pub slot_fits : ℕ → ℕ → ℕ → ℕ → Slot → Bool
slot_fits mods operands first second (Register side shown_by size direct indirect) =
    (is_some indirect || not (is_indirect side (bare mods operands)))
    && (if shows shown_by (bare mods operands)
    then is_something (suffix_of direct indirect (is_indirect side (bare mods operands))) && nat_eq (of_side side first second) (byte_count size)
    else true)
slot_fits mods operands first second Flags = true
slot_fits mods operands first second FlagsOrIp = true
slot_fits mods operands first second (Immediate size) = nat_eq second (byte_count size)
slot_fits mods operands first second (ImmediateOrLabel size) = nat_eq second (byte_count size)
slot_fits mods operands first second (RawIndex size) = nat_eq second (byte_count size)
slot_fits mods operands first second Step = true
slot_fits mods operands first second Code = true

-- whether an operand shows the first part, and the second one
abbrev pub shows_first : ℕ → ℕ → Slot → Bool
shows_first mods operands (Register One shown_by size direct indirect) = shows shown_by (bare mods operands)
shows_first mods operands (Register Two shown_by size direct indirect) = false
shows_first mods operands Flags = false
shows_first mods operands FlagsOrIp = false
shows_first mods operands (Immediate size) = false
shows_first mods operands (ImmediateOrLabel size) = false
shows_first mods operands (RawIndex size) = false
shows_first mods operands Step = false
shows_first mods operands Code = false

abbrev pub shows_second : ℕ → ℕ → Slot → Bool
shows_second mods operands (Register One shown_by size direct indirect) = false
shows_second mods operands (Register Two shown_by size direct indirect) = shows shown_by (bare mods operands)
shows_second mods operands Flags = false
shows_second mods operands FlagsOrIp = false
shows_second mods operands (Immediate size) = true
shows_second mods operands (ImmediateOrLabel size) = true
shows_second mods operands (RawIndex size) = true
shows_second mods operands Step = false
shows_second mods operands Code = false

abbrev pub of_slot : (Slot → Bool) → Bool → Option Slot → Bool
of_slot test otherwise None = otherwise
of_slot test otherwise (Some slot) = test slot

abbrev pub same_bool : Bool → Bool → Bool
same_bool true b = b
same_bool false b = not b

-- the text of an operand is the same at other bits
abbrev pub slot_same : ℕ → ℕ → ℕ → ℕ → Slot → Bool
slot_same mods operands mods_2 operands_2 (Register side shown_by size direct indirect) =
    same_bool (is_indirect side (bare mods operands)) (is_indirect side (bare mods_2 operands_2))
    && (nat_eq (register side (bare mods operands)) (register side (bare mods_2 operands_2))
    && same_bool (shows shown_by (bare mods operands)) (shows shown_by (bare mods_2 operands_2)))
slot_same mods operands mods_2 operands_2 Flags = true
slot_same mods operands mods_2 operands_2 FlagsOrIp = same_bool (is_set operands 4) (is_set operands_2 4)
slot_same mods operands mods_2 operands_2 (Immediate size) = true
slot_same mods operands mods_2 operands_2 (ImmediateOrLabel size) = true
slot_same mods operands mods_2 operands_2 (RawIndex size) = true
slot_same mods operands mods_2 operands_2 Step = nat_eq operands operands_2
slot_same mods operands mods_2 operands_2 Code = nat_eq operands operands_2

-- what is found has the text of that name
abbrev pub finds : Option Name → Name → Bool
finds None name = false
finds (Some found) name = bytes_eq found.text name.text

-- bits as they are decoded
abbrev pub counts : Row → ℕ → ℕ → Bool
counts r mods operands = r.legal mods operands && (nat_eq (bit_and mods r.kept_mods) mods && nat_eq (bit_and operands (r.kept_operands mods)) operands)

-- the operands of a name fit, and each part that has bytes is shown
abbrev pub written : Row → Name → ℕ → ℕ → Bool
written r n mods operands =
    of_slot (slot_fits mods operands (r.first mods operands) (r.second mods operands)) true n.pattern.one
    && (of_slot (slot_fits mods operands (r.first mods operands) (r.second mods operands)) true n.pattern.two
    && (((of_slot (shows_first mods operands) false n.pattern.one || of_slot (shows_first mods operands) false n.pattern.two) || nat_eq (r.first mods operands) 0)
    && ((of_slot (shows_second mods operands) false n.pattern.one || of_slot (shows_second mods operands) false n.pattern.two) || nat_eq (r.second mods operands) 0)))

-- the bits that are read back are of the same form, go by the same name and show the same operands
abbrev pub again : ℕ → Row → List Name → Name → ℕ → ℕ → ℕ → ℕ → Bool
again op r ns n mods operands mods_2 operands_2 =
    nat_lt mods_2 4
    && (nat_lt operands_2 256
    && (nat_eq (r.first mods_2 operands_2) (r.first mods operands)
    && (nat_eq (r.second mods_2 operands_2) (r.second mods operands)
    && (counts r mods_2 operands_2
    && (finds (find (goes_by (record { op = op; mods = mods_2; operands = operands_2; first = 0; second = 0 })) ns) n
    && (of_slot (slot_same mods operands mods_2 operands_2) true n.pattern.one
    && of_slot (slot_same mods operands mods_2 operands_2) true n.pattern.two))))))

abbrev pub good : ℕ → Row → List Name → ℕ → ℕ → Option Name → Bool
good op r ns mods operands None = false
good op r ns mods operands (Some n) =
    written r n mods operands && again op r ns n mods operands (name_bits n mods operands).mods (name_bits n mods operands).operands

abbrev pub bits_good : ℕ → Row → List Name → ℕ → ℕ → Bool
bits_good op r ns mods operands = elim (counts r mods operands) as (λ b. Bool) [
  | true ↦ good op r ns mods operands (find (goes_by (record { op = op; mods = mods; operands = operands; first = 0; second = 0 })) ns)
  | false ↦ true
]

abbrev pub row_good : ℕ → Option Row → List Name → Bool
row_good op None ns = true
row_good op (Some r) ns = list_all (λ mods. list_all (bits_good op r ns mods) (below 256)) (below 4)

-- the names of an opcode
abbrev pub names_of : ℕ → List Name
names_of op = filter (λ n. nat_eq op n.pattern.op) names

unfoldable pub op_good : ℕ → Bool
op_good op = row_good op (row_of op) (names_of op)
