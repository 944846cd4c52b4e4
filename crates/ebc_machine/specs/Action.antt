-- The instructions of EBC by what they do: UEFI 2.8, chapter 22 'EFI Byte Code Virtual Machine'.
use Rattle.std.specs.Prelude.{ℕ, ◌<◌, ◌^◌, IsTrue}
use Rattle.ebc_decode.specs.Columns.{jump_32, on_m7, on_m6, on_bit, two_or_four, width}
use Rattle.ebc_decode.specs.NaturalIndex.{is_index_size}
use Rattle.ebc_decode.specs.declared.instr.Instr.{Instr}
use Rattle.ebc_decode.specs.declared.size.Size.TheVariants.{Quadword}
use Rattle.ebc_machine.specs.Effects.{Effect, break, jump, jump_8, call, return, compare, unary, binary, move, move_signed, load_special, store_special, push_operation, pop_operation, compare_immediate, push, pop, move_immediate, move_natural, move_relative}
use Rattle.ebc_machine.specs.declared.action.Action.{Action}
use Rattle.ebc_machine.specs.declared.action.Action.TheVariants.{Break, Jump, Jump8, Call, Return, Compare, Unary, Binary, Move, MoveSigned, LoadSpecial, StoreSpecial, Push, Pop, CompareImmediate, PushNatural, PopNatural, MoveImmediate, MoveNatural, MoveRelative}

-- the effect of an action
abbrev pub effect_of : Action → Effect
effect_of Break = break
effect_of Jump = jump
effect_of Jump8 = jump_8
effect_of Call = call
effect_of Return = return
effect_of (Compare relation) = compare relation
effect_of (Unary operation) = unary operation
effect_of (Binary operation) = binary operation
effect_of (Move size index) = move size index
effect_of (MoveSigned index) = move_signed index
effect_of LoadSpecial = load_special
effect_of StoreSpecial = store_special
effect_of Push = push_operation
effect_of Pop = pop_operation
effect_of (CompareImmediate relation) = compare_immediate relation
effect_of PushNatural = push Quadword
effect_of PopNatural = pop Quadword
effect_of MoveImmediate = move_immediate
effect_of MoveNatural = move_natural
effect_of MoveRelative = move_relative

-- the parts of an instruction have no more bytes than an action reads
pub record Parts (instr : Instr) (m n : ℕ) : Type 0 where
  pub first : instr.first < 256 ^ m
  pub second : instr.second < 256 ^ n

pub record Indices (instr : Instr) (n : ℕ) : Type 0 where
  pub size : IsTrue (is_index_size n)
  pub first : instr.first < 256 ^ on_m7 n instr.mods 0
  pub second : instr.second < 256 ^ on_m6 n instr.mods 0

abbrev pub PartsFit : Action → Instr → Type 0
PartsFit Break instr = Unit {0}
PartsFit Jump instr = instr.first < 256 ^ jump_32 instr.mods 0
PartsFit Jump8 instr = Unit {0}
PartsFit Call instr = instr.first < 256 ^ jump_32 instr.mods 0
PartsFit Return instr = Unit {0}
PartsFit (Compare relation) instr = instr.second < 256 ^ 2
PartsFit (Unary operation) instr = instr.second < 256 ^ 2
PartsFit (Binary operation) instr = instr.second < 256 ^ 2
PartsFit (Move size index) instr = Indices instr index
PartsFit (MoveSigned index) instr = Indices instr index
PartsFit LoadSpecial instr = Unit {0}
PartsFit StoreSpecial instr = Unit {0}
PartsFit Push instr = instr.first < 256 ^ on_m7 2 instr.mods 0
PartsFit Pop instr = instr.first < 256 ^ on_m7 2 instr.mods 0
PartsFit (CompareImmediate relation) instr = Parts instr (on_bit 4 2 0 instr.operands) (two_or_four instr.mods 0)
PartsFit PushNatural instr = instr.first < 256 ^ on_m7 2 instr.mods 0
PartsFit PopNatural instr = instr.first < 256 ^ on_m7 2 instr.mods 0
PartsFit MoveImmediate instr = Parts instr (on_bit 6 2 0 instr.operands) (width instr.mods 0)
PartsFit MoveNatural instr = Parts instr (on_bit 6 2 0 instr.operands) (width instr.mods 0)
PartsFit MoveRelative instr = Parts instr (on_bit 6 2 0 instr.operands) (width instr.mods 0)
