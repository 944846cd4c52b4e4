-- The operands of EBC's instructions: UEFI 2.8, chapter 22 'EFI Byte Code Virtual Machine',
-- 'Instruction Operands' and 'Natural Indexing'.
use Rattle.std.specs.Prelude.{ℕ, ◌+◌, ◌-◌, ◌*◌, ◌/◌, ◌%◌, ◌^◌, Bool, nat_eq, List, slice_index, slice_set, Some, None, ℤ, ok_or, Result, Ok, Err, if◌then◌else◌}
use Rattle.std.specs.Int.{cast_unsigned, w64}
use Rattle.byteorder.specs.Endian.{twos_complement}
use Rattle.ebc_decode.specs.Columns.{is_set, m6}
use Rattle.ebc_decode.specs.NaturalIndex.{natural_value}
use Rattle.ebc_decode.specs.Sizes.{byte_count, low}
use Rattle.ebc_decode.specs.declared.instr.Instr.{Instr}
use Rattle.fw_types.specs.declared.event.Cause.{Cause}
use Rattle.fw_types.specs.declared.event.Cause.TheVariants.{Memory, Align}
use Rattle.guest_memory.specs.GuestMemory.{number_of}
use Rattle.guest_memory.specs.declared.segment.Segment.{Segment}
use Rattle.ebc_machine.specs.declared.cpu.Cpu.{Cpu}
use Rattle.ebc_machine.specs.Plan.{Plan}
use Rattle.ebc_decode.specs.declared.size.Size.{Size}
use Rattle.ebc_decode.specs.declared.size.Size.TheVariants.{Doubleword, Quadword}
use Rattle.ebc_machine.specs.declared.cpu.Request.{Request}
use Rattle.ebc_machine.specs.declared.cpu.Request.TheVariants.{Nothing}

-- a part of an instruction that may trap, and then the rest of it
infixl 10 ◌>>=◌
abbrev pub ◌>>=◌ : {A B : Type 0} → Result A Cause → (A → Result B Cause) → Result B Cause
(Ok x) >>= f = f x
(Err cause) >>= f = Err cause

-- ---- sums

-- sums and differences wrap in 64 bits
abbrev pub plus : ℕ → ℤ → ℕ
plus a z = (a + cast_unsigned w64 z) % 2 ^ 64

abbrev pub above : ℕ → ℕ → ℕ
above a n = (a + n) % 2 ^ 64

abbrev pub below : ℕ → ℕ → ℕ
below a n = (a + (2 ^ 64 - n)) % 2 ^ 64

-- ---- the second byte, and the registers

-- the register of operand 1, bits 2:0, and of operand 2, bits 6:4
abbrev pub x_of : Instr → ℕ
x_of instr = instr.operands % 8

abbrev pub y_of : Instr → ℕ
y_of instr = instr.operands / 16 % 8

-- whether operand 1 is indirect, bit 3, and operand 2, bit 7
abbrev pub is_x_indirect : Instr → Bool
is_x_indirect instr = is_set instr.operands 3

abbrev pub is_y_indirect : Instr → Bool
is_y_indirect instr = is_set instr.operands 7

-- whether an operation is of 64 bits, and how many bytes it has
abbrev pub is_wide : Instr → Bool
is_wide instr = m6 instr.mods

abbrev pub operation_size : Bool → Size
operation_size wide = if wide then Quadword else Doubleword

abbrev pub register : Cpu → ℕ → ℕ
register cpu k = slice_index cpu.r k

abbrev pub with_register : Cpu → ℕ → ℕ → Cpu
with_register cpu k value = record { r = slice_set cpu.r k value; flags = cpu.flags; ip = cpu.ip }

abbrev pub at_address : Cpu → ℕ → Cpu
at_address cpu ip = record { r = cpu.r; flags = cpu.flags; ip = ip }

-- ---- what is read

-- the number in memory
abbrev pub load : List Segment → ℕ → Size → Result ℕ Cause
load segments at size = ok_or (number_of segments at (byte_count size)) Memory

-- the addresses of operands 1 and 2 in memory, with an index of so many bytes
abbrev pub x_address : Cpu → Instr → ℕ → ℕ
x_address cpu instr index = plus (register cpu (x_of instr)) (natural_value instr.first index)

abbrev pub y_address : Cpu → Instr → ℕ → ℕ
y_address cpu instr index = plus (register cpu (y_of instr)) (natural_value instr.second index)

-- operand 1 of an operation, without an index
abbrev pub operand_1 : Cpu → List Segment → Instr → Result ℕ Cause
operand_1 cpu segments instr =
    if is_x_indirect instr then load segments (register cpu (x_of instr)) (operation_size (is_wide instr))
    else Ok (register cpu (x_of instr))

-- operand 2 of an operation, with 2 bytes of data: an index, or a signed number that is added. Absent
-- data is 0.
abbrev pub operand_2 : Cpu → List Segment → Instr → Result ℕ Cause
operand_2 cpu segments instr =
    if is_y_indirect instr then load segments (y_address cpu instr 2) (operation_size (is_wide instr))
    else Ok (plus (register cpu (y_of instr)) (twos_complement 2 instr.second))

-- ---- what is done

-- the code goes on at an address, with a request
abbrev pub goes_on : Cpu → ℕ → Request → Plan
goes_on cpu ip request = record { cpu = at_address cpu ip; store = None; request = request }

-- a register takes a value
abbrev pub to_register : Cpu → ℕ → ℕ → ℕ → Plan
to_register cpu next k value = goes_on (with_register cpu k value) next Nothing

-- memory takes the lowest bytes of a value
abbrev pub to_memory : Cpu → ℕ → ℕ → Size → ℕ → Plan
to_memory cpu next at size value =
    record { cpu = at_address cpu next; store = Some (record { at = at; size = size; value = value }); request = Nothing }

-- operand 1 of an operation takes its result: a register is cleared above it
abbrev pub result_to : Cpu → Instr → ℕ → ℕ → Plan
result_to cpu instr next value =
    if is_x_indirect instr then to_memory cpu next (register cpu (x_of instr)) (operation_size (is_wide instr)) value
    else to_register cpu next (x_of instr) value

-- operand 1 of a move, with an index of so many bytes, takes a value: a register is cleared above it
abbrev pub move_to : Cpu → Instr → ℕ → ℕ → Size → ℕ → Plan
move_to cpu instr next index size value =
    if is_x_indirect instr then to_memory cpu next (x_address cpu instr index) size value
    else to_register cpu next (x_of instr) (low size value)

-- a jump goes to an even address
abbrev pub if_even : ℕ → Plan → Result Plan Cause
if_even target plan = if nat_eq (target % 2) 0 then Ok plan else Err Align

abbrev pub jumps : Cpu → ℕ → Result Plan Cause
jumps cpu target = if_even target (goes_on cpu target Nothing)

-- the condition flag C, bit 0 of FLAGS
abbrev pub is_c : Cpu → Bool
is_c cpu = is_set cpu.flags 0

-- C takes the outcome of a comparison, and the other flags stay
abbrev pub with_condition : Cpu → ℕ → Bool → Plan
with_condition cpu next c =
    goes_on (record { r = cpu.r; flags = cpu.flags / 2 * 2 + (if c then 1 else 0); ip = cpu.ip }) next Nothing
