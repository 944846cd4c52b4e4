-- What each instruction of EBC does: UEFI 2.8, chapter 22 'EFI Byte Code Virtual Machine', the pages
-- of the instructions. One row for each opcode.
use Rattle.std.specs.Prelude.{ℕ, ◌/◌, ◌%◌, ◌*ℤ◌, Bool, not, true, nat_eq, List, [], ◌∷◌, Option, Some, None, pos, Result, Ok, Err, if◌then◌else◌}
use Rattle.std.specs.Int.{cast_unsigned, w64}
use Rattle.std.specs.List.{list_any}
use Rattle.std.specs.Map.{lookup}
use Rattle.byteorder.specs.Endian.{twos_complement}
use Rattle.ebc_decode.specs.Columns.{is_set, m7, m6, two_or_four, width}
use Rattle.ebc_decode.specs.NaturalIndex.{natural_value}
use Rattle.ebc_decode.specs.declared.instr.Instr.{Instr}
use Rattle.fw_types.specs.declared.event.Cause.{Cause}
use Rattle.fw_types.specs.declared.event.Cause.TheVariants.{Illegal, Break}
use Rattle.guest_memory.specs.declared.segment.Segment.{Segment}
use Rattle.ebc_machine.specs.Arithmetic.{result_of, holds}
use Rattle.ebc_machine.specs.Operands.{◌>>=◌, plus, above, below, x_of, y_of, is_x_indirect, is_y_indirect, is_wide, operation_size, register, with_register, load, x_address, y_address, operand_1, operand_2, goes_on, to_register, to_memory, result_to, move_to, if_even, jumps, is_c, with_condition}
use Rattle.ebc_decode.specs.Sizes.{low, byte_count}
use Rattle.ebc_machine.specs.declared.arithmetic.Operation.{Operation}
use Rattle.ebc_machine.specs.declared.arithmetic.Operation.TheVariants.{Not, Neg, Add, Sub, Mul, Mulu, Div, Divu, Mod, Modu, And, Or, Xor, Shl, Shr, Ashr, Extndb, Extndw, Extndd}
use Rattle.ebc_machine.specs.declared.arithmetic.Relation.{Relation}
use Rattle.ebc_machine.specs.declared.arithmetic.Relation.TheVariants.{Eq, Lte, Gte, Ulte, Ugte}
use Rattle.ebc_machine.specs.declared.cpu.Cpu.{Cpu}
use Rattle.ebc_machine.specs.Plan.{Plan}
use Rattle.ebc_decode.specs.declared.size.Size.{Size}
use Rattle.ebc_decode.specs.declared.size.Size.TheVariants.{Byte, Word, Doubleword, Quadword}
use Rattle.ebc_machine.specs.declared.cpu.Request.TheVariants.{Nothing, Native, MakeThunk}

-- What an instruction does: the registers after it, at most one write, and what it asks
-- for, or why it traps. The last argument is the address after the instruction, "next".
abbrev pub Effect : Type 0
Effect = Cpu → List Segment → Instr → ℕ → Result Plan Cause

-- ---- BREAK, jumps and calls

-- Code 1 puts the version into R7, 5 asks for a thunk for the 8 bytes at the address in R7, and 3, 4 and 6 do nothing.
abbrev pub break : Effect
break cpu segments instr next =
    if nat_eq instr.operands 1 then Ok (to_register cpu next 7 0x10000)
    else if nat_eq instr.operands 5 then Ok (goes_on cpu next (MakeThunk (register cpu 7)))
    else if list_any (nat_eq instr.operands) (3 ∷ 4 ∷ 6 ∷ []) then Ok (goes_on cpu next Nothing)
    else Err Break

-- whether a jump is taken, by whether it is conditional and which C it wants
abbrev pub is_taken : Cpu → Bool → Bool → Bool
is_taken cpu conditional wanted = if conditional then (if wanted then is_c cpu else not (is_c cpu)) else true

-- the base of a 32-bit target, for which R0 counts as 0
abbrev pub base_of : Cpu → Instr → ℕ
base_of cpu instr = if nat_eq (x_of instr) 0 then 0 else register cpu (x_of instr)

-- the target of JMP and CALL before next is added: 64 bits of data, or by operand 1
abbrev pub plain_target : Cpu → List Segment → Instr → Result ℕ Cause
plain_target cpu segments instr =
    if m6 instr.mods then Ok instr.second
    else if is_x_indirect instr then load segments (plus (base_of cpu instr) (natural_value instr.first 4)) Quadword
    else Ok (plus (base_of cpu instr) (twos_complement 4 instr.first))

-- Bit 4 says that it is relative to next.
abbrev pub target_of : Cpu → List Segment → Instr → ℕ → Result ℕ Cause
target_of cpu segments instr next = do
  target ← plain_target cpu segments instr
  Ok (if is_set instr.operands 4 then above target next else target)

-- Bit 7 says that it is conditional, bit 6 which C it wants.
abbrev pub jump : Effect
jump cpu segments instr next =
    if is_taken cpu (is_set instr.operands 7) (is_set instr.operands 6)
    then (target_of cpu segments instr next >>= λ target. jumps cpu target)
    else Ok (goes_on cpu next Nothing)

-- The second byte counts units of 2 bytes from next.
abbrev pub jump_8 : Effect
jump_8 cpu segments instr next =
    if is_taken cpu (m7 instr.mods) (m6 instr.mods)
    then jumps cpu (plus next (pos 2 *ℤ twos_complement 1 instr.operands))
    else Ok (goes_on cpu next Nothing)

-- Bit 5 says that it is native: then it asks for a call of the target. Otherwise R0 falls by 16, and next is put
-- there.
abbrev pub call : Effect
call cpu segments instr next = do
  target ← target_of cpu segments instr next
  if is_set instr.operands 5 then Ok (goes_on cpu next (Native target))
      else if_even target (to_memory (with_register cpu 0 (below (register cpu 0) 16)) target (below (register cpu 0) 16) Quadword next)

-- The target is read at R0, which rises by 16.
abbrev pub return_plan : Cpu → List Segment → Result Plan Cause
return_plan cpu segments = do
  target ← load segments (register cpu 0) Quadword
  jumps (with_register cpu 0 (above (register cpu 0) 16)) target

abbrev pub return : Effect
return cpu segments instr next = return_plan cpu segments

-- ---- comparisons and arithmetic

abbrev pub compare : Relation → Effect
compare relation cpu segments instr next = do
  b ← operand_2 cpu segments instr
  let size = operation_size (is_wide instr)
  Ok (with_condition cpu next (holds relation (is_wide instr) (low size (register cpu (x_of instr))) (low size b)))

-- operand 1 only takes the result
abbrev pub unary : Operation → Effect
unary operation cpu segments instr next = do
  b ← operand_2 cpu segments instr
  value ← result_of operation (is_wide instr) 0 (low (operation_size (is_wide instr)) b)
  Ok (result_to cpu instr next value)

abbrev pub binary : Operation → Effect
binary operation cpu segments instr next = do
  a ← operand_1 cpu segments instr
  b ← operand_2 cpu segments instr
  let size = operation_size (is_wide instr)
  value ← result_of operation (is_wide instr) (low size a) (low size b)
  Ok (result_to cpu instr next value)

-- operand 1 of a comparison with an immediate, which has an index
abbrev pub compare_operand : Cpu → List Segment → Instr → Result ℕ Cause
compare_operand cpu segments instr =
    if is_x_indirect instr then load segments (x_address cpu instr 2) (operation_size (is_wide instr))
    else Ok (register cpu (x_of instr))

-- The immediate is signed.
abbrev pub compare_immediate : Relation → Effect
compare_immediate relation cpu segments instr next = do
  a ← compare_operand cpu segments instr
  let size = operation_size (is_wide instr)
  let b = cast_unsigned w64 (twos_complement (two_or_four instr.mods 0) instr.second)
  Ok (with_condition cpu next (holds relation (is_wide instr) (low size a) (low size b)))

-- ---- moves

-- operand 2 of a move of so many bytes, with an index of so many bytes
abbrev pub move_operand : Size → ℕ → Cpu → List Segment → Instr → Result ℕ Cause
move_operand size index cpu segments instr =
    if is_y_indirect instr then load segments (y_address cpu instr index) size else Ok (y_address cpu instr index)

abbrev pub move : Size → ℕ → Effect
move size index cpu segments instr next = do
  value ← move_operand size index cpu segments instr
  Ok (move_to cpu instr next index size value)

-- The same for 8 bytes, if the index of a direct operand 2 is a signed number.
abbrev pub signed_move_operand : ℕ → Cpu → List Segment → Instr → Result ℕ Cause
signed_move_operand index cpu segments instr =
    if is_y_indirect instr then load segments (y_address cpu instr index) Quadword
    else Ok (plus (register cpu (y_of instr)) (twos_complement index instr.second))

abbrev pub move_signed : ℕ → Effect
move_signed index cpu segments instr next = do
  value ← signed_move_operand index cpu segments instr
  Ok (move_to cpu instr next index Quadword value)

-- how many bytes MOVI moves, by bits 5:4
abbrev pub size_by : ℕ → Size
size_by n = if nat_eq n 0 then Byte else if nat_eq n 1 then Word else if nat_eq n 2 then Doubleword else Quadword

-- The immediate is signed.
abbrev pub move_immediate : Effect
move_immediate cpu segments instr next =
    Ok (move_to cpu instr next 2 (size_by (instr.operands / 16 % 4)) (cast_unsigned w64 (twos_complement (width instr.mods 0) instr.second)))

-- The immediate is a natural index.
abbrev pub move_natural : Effect
move_natural cpu segments instr next =
    Ok (move_to cpu instr next 2 Quadword (cast_unsigned w64 (natural_value instr.second (width instr.mods 0))))

-- The immediate is signed, and next is added.
abbrev pub move_relative : Effect
move_relative cpu segments instr next =
    Ok (move_to cpu instr next 2 Quadword (plus next (twos_complement (width instr.mods 0) instr.second)))

-- FLAGS takes the lowest two bits of operand 2.
abbrev pub load_special : Effect
load_special cpu segments instr next =
    Ok (goes_on (record { r = cpu.r; flags = register cpu (y_of instr) % 4; ip = cpu.ip }) next Nothing)

-- Operand 1 takes FLAGS, or next if operand 2 is 1.
abbrev pub store_special : Effect
store_special cpu segments instr next =
    Ok (to_register cpu next (x_of instr) (if nat_eq (y_of instr) 0 then cpu.flags else next))

-- ---- the stack

-- the value of operand 1 that is pushed
abbrev pub push_operand : Size → Cpu → List Segment → Instr → Result ℕ Cause
push_operand size cpu segments instr =
    if is_x_indirect instr then load segments (x_address cpu instr 2) size
    else Ok (plus (register cpu (x_of instr)) (twos_complement 2 instr.first))

-- The value is read, then R0 falls, then the value is put there.
abbrev pub push : Size → Effect
push size cpu segments instr next = do
  value ← push_operand size cpu segments instr
  let top = below (register cpu 0) (byte_count size)
  Ok (to_memory (with_register cpu 0 top) next top size value)

-- The value is read at R0, then R0 rises, then operand 1 takes the value: a register takes it with its
-- sign extended and the data added.
abbrev pub pop_to : Size → Cpu → Instr → ℕ → ℕ → Plan
pop_to size cpu instr next value =
    if is_x_indirect instr then to_memory cpu next (x_address cpu instr 2) size value
    else to_register cpu next (x_of instr) (plus (cast_unsigned w64 (twos_complement (byte_count size) value)) (twos_complement 2 instr.first))

abbrev pub pop : Size → Effect
pop size cpu segments instr next = do
  value ← load segments (register cpu 0) size
  Ok (pop_to size (with_register cpu 0 (above (register cpu 0) (byte_count size))) instr next value)

-- PUSH and POP have 32 or 64 bits.
abbrev pub push_operation : Effect
push_operation cpu segments instr next = push (operation_size (is_wide instr)) cpu segments instr next

abbrev pub pop_operation : Effect
pop_operation cpu segments instr next = pop (operation_size (is_wide instr)) cpu segments instr next

-- ---- the table

abbrev pub effects : List (ℕ × Effect)
effects =
    (0x00, break)
    ∷ (0x01, jump)
    ∷ (0x02, jump_8)
    ∷ (0x03, call)
    ∷ (0x04, return)
    ∷ (0x05, compare Eq)
    ∷ (0x06, compare Lte)
    ∷ (0x07, compare Gte)
    ∷ (0x08, compare Ulte)
    ∷ (0x09, compare Ugte)
    ∷ (0x0a, unary Not)
    ∷ (0x0b, unary Neg)
    ∷ (0x0c, binary Add)
    ∷ (0x0d, binary Sub)
    ∷ (0x0e, binary Mul)
    ∷ (0x0f, binary Mulu)
    ∷ (0x10, binary Div)
    ∷ (0x11, binary Divu)
    ∷ (0x12, binary Mod)
    ∷ (0x13, binary Modu)
    ∷ (0x14, binary And)
    ∷ (0x15, binary Or)
    ∷ (0x16, binary Xor)
    ∷ (0x17, binary Shl)
    ∷ (0x18, binary Shr)
    ∷ (0x19, binary Ashr)
    ∷ (0x1a, unary Extndb)
    ∷ (0x1b, unary Extndw)
    ∷ (0x1c, unary Extndd)
    -- MOVbw to MOVqd: the bytes that are moved, and those of an index
    ∷ (0x1d, move Byte 2)
    ∷ (0x1e, move Word 2)
    ∷ (0x1f, move Doubleword 2)
    ∷ (0x20, move Quadword 2)
    ∷ (0x21, move Byte 4)
    ∷ (0x22, move Word 4)
    ∷ (0x23, move Doubleword 4)
    ∷ (0x24, move Quadword 4)
    -- MOVsnw, MOVsnd, MOVqq
    ∷ (0x25, move_signed 2)
    ∷ (0x26, move_signed 4)
    ∷ (0x28, move Quadword 8)
    -- LOADSP, STORESP
    ∷ (0x29, load_special)
    ∷ (0x2a, store_special)
    ∷ (0x2b, push_operation)
    ∷ (0x2c, pop_operation)
    ∷ (0x2d, compare_immediate Eq)
    ∷ (0x2e, compare_immediate Lte)
    ∷ (0x2f, compare_immediate Gte)
    ∷ (0x30, compare_immediate Ulte)
    ∷ (0x31, compare_immediate Ugte)
    -- MOVnw, MOVnd
    ∷ (0x32, move Quadword 2)
    ∷ (0x33, move Quadword 4)
    -- PUSHn, POPn
    ∷ (0x35, push Quadword)
    ∷ (0x36, pop Quadword)
    -- MOVI, MOVIn, MOVREL
    ∷ (0x37, move_immediate)
    ∷ (0x38, move_natural)
    ∷ (0x39, move_relative)
    ∷ []

-- what an instruction does by the table; an opcode without a row is illegal
abbrev pub effect_in : Option Effect → Effect
effect_in None cpu segments instr next = Err Illegal
effect_in (Some effect) cpu segments instr next = effect cpu segments instr next

abbrev pub plan_of_instr : Effect
plan_of_instr cpu segments instr next = effect_in (lookup (nat_eq instr.op) effects) cpu segments instr next
