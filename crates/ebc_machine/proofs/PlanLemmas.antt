-- What holds of every instruction's plan, proved for each row of the table of effects.
use Rattle.std.proofs.Common.{◌≡◌, ℕ, ◌%◌, Bool, true, false, nat_eq, cond, List, [], ◌∷◌, ◌∙◌, Option, Some, None, Result, Ok, Err, IfOk, ◌⊎◌, inl, inr, refl, ap, subst, arith}
use Rattle.std.specs.List.{list_any}
use Rattle.std.specs.Map.{lookup}
use Rattle.std.proofs.lemmas.Bool.Decides.{nat_tests}
use Rattle.std.proofs.lemmas.List.{set-get_or, set-set}
use Rattle.ebc_decode.specs.Columns.{is_set, m6, m7}
use Rattle.ebc_decode.specs.Sizes.{low}
use Rattle.ebc_decode.specs.Spelling.{decoding}
use Rattle.ebc_decode.specs.declared.instr.Instr.{Instr}
use Rattle.ebc_decode.specs.declared.instr.DecodeRefusal.{DecodeRefusal}
use Rattle.ebc_decode.specs.declared.instr.DecodeRefusal.TheVariants.{Short, Illegal as NoInstruction}
use Rattle.ebc_decode.specs.declared.size.Size.{Size}
use Rattle.ebc_decode.specs.declared.size.Size.TheVariants.{Byte, Word, Doubleword, Quadword}
use Rattle.fw_types.specs.declared.event.Cause.{Cause}
use Rattle.fw_types.specs.declared.event.Cause.TheVariants.{Align}
use Rattle.guest_memory.specs.GuestMemory.{image_code}
use Rattle.guest_memory.specs.declared.segment.Segment.{Segment}
use Rattle.ebc_machine.specs.Arithmetic.{result_of}
use Rattle.ebc_machine.specs.Effects.{Effect, break, is_taken, target_of, jump, jump_8, call, return, compare, unary, binary, compare_operand, compare_immediate, move_operand, move, signed_move_operand, move_signed, move_immediate, move_natural, move_relative, load_special, store_special, push_operand, push, pop, push_operation, pop_operation, effects, effect_in, plan_of_instr}
use Rattle.ebc_machine.specs.Operands.{◌>>=◌, above, at_address, with_register, is_wide, is_x_indirect, operation_size, operand_1, operand_2, load, register, goes_on, result_to, move_to, jumps, with_condition}
use Rattle.ebc_machine.specs.Plan.{Plan}
use Rattle.ebc_machine.specs.PutBack.{put_back}
use Rattle.ebc_machine.specs.Step.{plan_by, plan_of}
use Rattle.ebc_machine.specs.StepLaws.{is_jump, sets_flags}
use Rattle.ebc_machine.specs.declared.arithmetic.Operation.{Operation}
use Rattle.ebc_machine.specs.declared.arithmetic.Operation.TheVariants.{Not, Neg, Add, Sub, Mul, Mulu, Div, Divu, Mod, Modu, And, Or, Xor, Shl, Shr, Ashr, Extndb, Extndw, Extndd}
use Rattle.ebc_machine.specs.declared.arithmetic.Relation.{Relation}
use Rattle.ebc_machine.specs.declared.arithmetic.Relation.TheVariants.{Eq, Lte, Gte, Ulte, Ugte}
use Rattle.ebc_machine.specs.declared.cpu.Cpu.{Cpu}
use Rattle.ebc_machine.specs.declared.cpu.Request.TheVariants.{Nothing}

-- the plan of an opcode's instruction, with the address after it, next
pub record IsOrderly (opcode : ℕ) (cpu : Cpu) (next : ℕ) (plan : Plan) : Type 0 where
  pub ip : (is_jump opcode ≡ true) ⊎ (plan.cpu.ip ≡ next)
  pub even : (plan.cpu.ip ≡ next) ⊎ (plan.cpu.ip % 2 ≡ 0)
  pub flags : (sets_flags opcode ≡ true) ⊎ (plan.cpu.flags ≡ cpu.flags)
  pub request : (plan.request ≡ Nothing) ⊎ (plan.store ≡ None)
  pub back : (plan.store ≡ None) ⊎ (put_back plan.cpu cpu.ip (register cpu 0) ≡ cpu)

pub record Keeps (opcode : ℕ) (effect : Effect) : Type 0 where
  pub holds : (cpu : Cpu) (segments : List Segment) (instr : Instr) (next : ℕ) → IfOk (effect cpu segments instr next) (IsOrderly opcode cpu next)

-- ---- the parts of an effect

after-part : {A B : Type 0} (r : Result A Cause) (f : A → Result B Cause) (Q : B → Type 0) → ((a : A) → IfOk (f a) Q) → IfOk (r >>= f) Q
after-part (Ok a) f Q h = h a
after-part (Err cause) f Q h = tt

either-result : {B : Type 0} (b : Bool) (x y : Result B Cause) (Q : B → Type 0) → IfOk x Q → IfOk y Q → IfOk (cond b x y) Q
either-result true x y Q h k = h
either-result false x y Q h k = k

either-plan : (b : Bool) (x y : Plan) (Q : Plan → Type 0) → Q x → Q y → Q (cond b x y)
either-plan true x y Q h k = h
either-plan false x y Q h k = k

-- before a write only IP changes, or IP and R0
ip_back : (cpu : Cpu) (ip : ℕ) → put_back (at_address cpu ip) cpu.ip (register cpu 0) ≡ cpu
ip_back cpu ip = ap (λ (r : List ℕ). record { r = r; flags = cpu.flags; ip = cpu.ip }) (set-get_or cpu.r 0 0)

top_back : (cpu : Cpu) (ip top : ℕ) → put_back (at_address (with_register cpu 0 top) ip) cpu.ip (register cpu 0) ≡ cpu
top_back cpu ip top =
    ap (λ (r : List ℕ). record { r = r; flags = cpu.flags; ip = cpu.ip }) (set-set cpu.r 0 top (register cpu 0) ∙ set-get_or cpu.r 0 0)

-- an instruction that only goes on
plain : (opcode : ℕ) (cpu : Cpu) (next : ℕ) (plan : Plan) → plan.cpu.ip ≡ next → plan.cpu.flags ≡ cpu.flags → plan.request ≡ Nothing → (plan.store ≡ None) ⊎ (put_back plan.cpu cpu.ip (register cpu 0) ≡ cpu)
    → IsOrderly opcode cpu next plan
plain opcode cpu next plan ip flags request back = record { ip = inr ip; even = inl ip; flags = inr flags; request = inl request; back = back }

result_plain : (opcode : ℕ) (cpu : Cpu) (instr : Instr) (next value : ℕ) → IsOrderly opcode cpu next (result_to cpu instr next value)
result_plain opcode cpu instr next value =
    either-plan (is_x_indirect instr) _ _ (IsOrderly opcode cpu next)
    (plain opcode cpu next _ refl refl refl (inr (ip_back cpu next))) (plain opcode cpu next _ refl refl refl (inl refl))

move_plain : (opcode : ℕ) (cpu : Cpu) (instr : Instr) (next index : ℕ) (size : Size) (value : ℕ) → IsOrderly opcode cpu next (move_to cpu instr next index size value)
move_plain opcode cpu instr next index size value =
    either-plan (is_x_indirect instr) _ _ (IsOrderly opcode cpu next)
    (plain opcode cpu next _ refl refl refl (inr (ip_back cpu next))) (plain opcode cpu next _ refl refl refl (inl refl))

-- a plan that goes to an even address
even-result : (opcode : ℕ) (cpu : Cpu) (next target : ℕ) (plan : Plan) (b : Bool) → nat_eq (target % 2) 0 ≡ b → is_jump opcode ≡ true → plan.cpu.ip ≡ target → plan.cpu.flags ≡ cpu.flags → plan.request ≡ Nothing
    → (plan.store ≡ None) ⊎ (put_back plan.cpu cpu.ip (register cpu 0) ≡ cpu) → IfOk {T = Plan} {E = Cause} (cond b (Ok plan) (Err Align)) (IsOrderly opcode cpu next)
even-result opcode cpu next target plan true is jumps ip flags request back =
    let even : target % 2 ≡ 0 = grind (arith, nat_tests) in
    record { ip = inl jumps; even = inr (rw ip even); flags = inr flags; request = inl request; back = back }
even-result opcode cpu next target plan false is jumps ip flags request back = tt

-- ---- the effects

break_keeps : {opcode : ℕ} → Keeps opcode break
break_keeps = record {
  holds = λ cpu segments instr next.
      either-result (nat_eq instr.operands 1) _ _ (IsOrderly _ cpu next) (plain _ cpu next _ refl refl refl (inl refl))
      (either-result (nat_eq instr.operands 5) _ _ (IsOrderly _ cpu next) (record { ip = inr refl; even = inl refl; flags = inr refl; request = inr refl; back = inl refl })
      (either-result (list_any (nat_eq instr.operands) (3 ∷ 4 ∷ 6 ∷ [])) _ _ (IsOrderly _ cpu next) (plain _ cpu next _ refl refl refl (inl refl)) tt));
}

jump_keeps : Keeps 0x01 jump
jump_keeps = record {
  holds = λ cpu segments instr next.
      either-result (is_taken cpu (is_set instr.operands 7) (is_set instr.operands 6)) _ _ (IsOrderly 0x01 cpu next)
      (after-part (target_of cpu segments instr next) (λ target. jumps cpu target) (IsOrderly 0x01 cpu next)
      (λ target. even-result 0x01 cpu next target (goes_on cpu target Nothing) (nat_eq (target % 2) 0) refl refl refl refl refl (inl refl)))
      (plain 0x01 cpu next _ refl refl refl (inl refl));
}

jump_8_keeps : Keeps 0x02 jump_8
jump_8_keeps = record {
  holds = λ cpu segments instr next.
      either-result (is_taken cpu (m7 instr.mods) (m6 instr.mods)) _ _ (IsOrderly 0x02 cpu next)
      (even-result 0x02 cpu next _ (goes_on cpu _ Nothing) _ refl refl refl refl refl (inl refl))
      (plain 0x02 cpu next _ refl refl refl (inl refl));
}

call_keeps : Keeps 0x03 call
call_keeps = record {
  holds = λ cpu segments instr next.
      after-part (target_of cpu segments instr next) _ (IsOrderly 0x03 cpu next)
      (λ target. either-result (is_set instr.operands 5) _ _ (IsOrderly 0x03 cpu next)
      (record { ip = inr refl; even = inl refl; flags = inr refl; request = inr refl; back = inl refl })
      (even-result 0x03 cpu next target _ (nat_eq (target % 2) 0) refl refl refl refl refl (inr (top_back cpu target _))));
}

return_keeps : Keeps 0x04 return
return_keeps = record {
  holds = λ cpu segments instr next.
      after-part (load segments (register cpu 0) Quadword) _ (IsOrderly 0x04 cpu next)
      (λ target. even-result 0x04 cpu next target _ (nat_eq (target % 2) 0) refl refl refl refl refl (inl refl));
}

-- C takes the outcome, and the code goes on
condition : (opcode : ℕ) (cpu : Cpu) (next : ℕ) (c : Bool) → sets_flags opcode ≡ true → IsOrderly opcode cpu next (with_condition cpu next c)
condition opcode cpu next c sets = record { ip = inr refl; even = inl refl; flags = inl sets; request = inl refl; back = inl refl }

compare_keeps : (opcode : ℕ) (relation : Relation) → sets_flags opcode ≡ true → Keeps opcode (compare relation)
compare_keeps opcode relation sets = record {
  holds = λ cpu segments instr next.
      after-part (operand_2 cpu segments instr) _ (IsOrderly opcode cpu next) (λ b. condition opcode cpu next _ sets);
}

compare_immediate_keeps : (opcode : ℕ) (relation : Relation) → sets_flags opcode ≡ true → Keeps opcode (compare_immediate relation)
compare_immediate_keeps opcode relation sets = record {
  holds = λ cpu segments instr next.
      after-part (compare_operand cpu segments instr) _ (IsOrderly opcode cpu next) (λ a. condition opcode cpu next _ sets);
}

-- operand 1 takes a result, if there is one
result_keeps : (opcode : ℕ) (cpu : Cpu) (instr : Instr) (next : ℕ) (r : Result ℕ Cause) → IfOk (r >>= λ value. Ok (result_to cpu instr next value)) (IsOrderly opcode cpu next)
result_keeps opcode cpu instr next (Ok value) = result_plain opcode cpu instr next value
result_keeps opcode cpu instr next (Err cause) = tt

unary_keeps : {opcode : ℕ} (operation : Operation) → Keeps opcode (unary operation)
unary_keeps {opcode} operation = record {
  holds = λ cpu segments instr next.
      after-part (operand_2 cpu segments instr) _ (IsOrderly opcode cpu next)
      (λ b. result_keeps opcode cpu instr next (result_of operation (is_wide instr) 0 (low (operation_size (is_wide instr)) b)));
}

binary_keeps : {opcode : ℕ} (operation : Operation) → Keeps opcode (binary operation)
binary_keeps {opcode} operation = record {
  holds = λ cpu segments instr next.
      after-part (operand_1 cpu segments instr) _ (IsOrderly opcode cpu next)
      (λ a. after-part (operand_2 cpu segments instr) _ (IsOrderly opcode cpu next)
      (λ b. result_keeps opcode cpu instr next (result_of operation (is_wide instr) (low (operation_size (is_wide instr)) a) (low (operation_size (is_wide instr)) b))));
}

move_keeps : {opcode : ℕ} (size : Size) (index : ℕ) → Keeps opcode (move size index)
move_keeps size index = record {
  holds = λ cpu segments instr next.
      after-part (move_operand size index cpu segments instr) _ (IsOrderly _ cpu next) (λ value. move_plain _ cpu instr next index size value);
}

move_signed_keeps : {opcode : ℕ} (index : ℕ) → Keeps opcode (move_signed index)
move_signed_keeps index = record {
  holds = λ cpu segments instr next.
      after-part (signed_move_operand index cpu segments instr) _ (IsOrderly _ cpu next) (λ value. move_plain _ cpu instr next index Quadword value);
}

move_immediate_keeps : {opcode : ℕ} → Keeps opcode move_immediate
move_immediate_keeps = record { holds = λ cpu segments instr next. move_plain _ cpu instr next 2 _ _ }

move_natural_keeps : {opcode : ℕ} → Keeps opcode move_natural
move_natural_keeps = record { holds = λ cpu segments instr next. move_plain _ cpu instr next 2 Quadword _ }

move_relative_keeps : {opcode : ℕ} → Keeps opcode move_relative
move_relative_keeps = record { holds = λ cpu segments instr next. move_plain _ cpu instr next 2 Quadword _ }

load_special_keeps : Keeps 0x29 load_special
load_special_keeps = record { holds = λ cpu segments instr next. record { ip = inr refl; even = inl refl; flags = inl refl; request = inl refl; back = inl refl } }

store_special_keeps : {opcode : ℕ} → Keeps opcode store_special
store_special_keeps = record { holds = λ cpu segments instr next. plain _ cpu next _ refl refl refl (inl refl) }

push_keeps : {opcode : ℕ} (size : Size) → Keeps opcode (push size)
push_keeps size = record {
  holds = λ cpu segments instr next.
      after-part (push_operand size cpu segments instr) _ (IsOrderly _ cpu next) (λ value. plain _ cpu next _ refl refl refl (inr (top_back cpu next _)));
}

pop_keeps : {opcode : ℕ} (size : Size) → Keeps opcode (pop size)
pop_keeps size = record {
  holds = λ cpu segments instr next.
      after-part (load segments (register cpu 0) size) _ (IsOrderly _ cpu next)
      (λ value. either-plan (is_x_indirect instr) _ _ (IsOrderly _ cpu next)
      (plain _ cpu next _ refl refl refl (inr (top_back cpu next _))) (plain _ cpu next _ refl refl refl (inl refl)));
}

push_operation_keeps : {opcode : ℕ} → Keeps opcode push_operation
push_operation_keeps = record { holds = λ cpu segments instr next. (push_keeps _).holds cpu segments instr next }

pop_operation_keeps : {opcode : ℕ} → Keeps opcode pop_operation
pop_operation_keeps = record { holds = λ cpu segments instr next. (pop_keeps _).holds cpu segments instr next }

-- ---- the table

infixr 20 ◌▹◌
data Each : List (ℕ × Effect) → Type 0 where
  none : Each []
  ◌▹◌ : {e : ℕ × Effect} {es : List (ℕ × Effect)} → Keeps e.0 e.1 → Each es → Each (e ∷ es)

-- in the order of the table
effects_keep : Each effects
effects_keep =
    break_keeps ▹ jump_keeps ▹ jump_8_keeps ▹ call_keeps ▹ return_keeps
    ▹ compare_keeps 0x05 Eq refl ▹ compare_keeps 0x06 Lte refl ▹ compare_keeps 0x07 Gte refl ▹ compare_keeps 0x08 Ulte refl ▹ compare_keeps 0x09 Ugte refl
    ▹ unary_keeps Not ▹ unary_keeps Neg
    ▹ binary_keeps Add ▹ binary_keeps Sub ▹ binary_keeps Mul ▹ binary_keeps Mulu ▹ binary_keeps Div ▹ binary_keeps Divu ▹ binary_keeps Mod ▹ binary_keeps Modu
    ▹ binary_keeps And ▹ binary_keeps Or ▹ binary_keeps Xor ▹ binary_keeps Shl ▹ binary_keeps Shr ▹ binary_keeps Ashr
    ▹ unary_keeps Extndb ▹ unary_keeps Extndw ▹ unary_keeps Extndd
    ▹ move_keeps Byte 2 ▹ move_keeps Word 2 ▹ move_keeps Doubleword 2 ▹ move_keeps Quadword 2
    ▹ move_keeps Byte 4 ▹ move_keeps Word 4 ▹ move_keeps Doubleword 4 ▹ move_keeps Quadword 4
    ▹ move_signed_keeps 2 ▹ move_signed_keeps 4 ▹ move_keeps Quadword 8
    ▹ load_special_keeps ▹ store_special_keeps ▹ push_operation_keeps ▹ pop_operation_keeps
    ▹ compare_immediate_keeps 0x2d Eq refl ▹ compare_immediate_keeps 0x2e Lte refl ▹ compare_immediate_keeps 0x2f Gte refl ▹ compare_immediate_keeps 0x30 Ulte refl ▹ compare_immediate_keeps 0x31 Ugte refl
    ▹ move_keeps Quadword 2 ▹ move_keeps Quadword 4 ▹ push_keeps Quadword ▹ pop_keeps Quadword
    ▹ move_immediate_keeps ▹ move_natural_keeps ▹ move_relative_keeps
    ▹ none

same_number : (m n : ℕ) → nat_eq m n ≡ true → n ≡ m
same_number m n e = grind (arith, nat_tests)

first_or_later : (b : Bool) (x effect : Effect) (rest : Option Effect) → cond b (Some x) rest ≡ Some effect → (b ≡ true) × (x ≡ effect) ⊎ (rest ≡ Some effect)
first_or_later true x effect rest e = inl (refl, cc)
first_or_later false x effect rest e = inr e

-- the effect that is found keeps it
found_keeps : (opcode : ℕ) (es : List (ℕ × Effect)) (effect : Effect) → Each es → lookup (nat_eq opcode) es ≡ Some effect → Keeps opcode effect
found_keeps opcode [] effect none e = absurd cc
found_keeps opcode (x ∷ es) effect (here ▹ later) e =
    elim (first_or_later (nat_eq opcode x.0) x.1 effect (lookup (nat_eq opcode) es) e) [
      | inl is ↦ subst (λ (n : ℕ). Keeps n effect) (same_number opcode x.0 is.0) (subst (Keeps x.0) is.1 here)
      | inr more ↦ found_keeps opcode es effect later more
    ]

effect_orderly : (cpu : Cpu) (segments : List Segment) (instr : Instr) (next : ℕ) (found : Option Effect) → ((effect : Effect) → found ≡ Some effect → Keeps instr.op effect)
    → IfOk (effect_in found cpu segments instr next) (IsOrderly instr.op cpu next)
effect_orderly cpu segments instr next None keeps = tt
effect_orderly cpu segments instr next (Some effect) keeps = (keeps effect refl).holds cpu segments instr next

-- every instruction's plan is orderly
pub instr_orderly : (cpu : Cpu) (segments : List Segment) (instr : Instr) (next : ℕ) → IfOk (plan_of_instr cpu segments instr next) (IsOrderly instr.op cpu next)
instr_orderly cpu segments instr next =
    effect_orderly cpu segments instr next (lookup (nat_eq instr.op) effects) (λ effect is. found_keeps instr.op effects effect effects_keep is)

-- the plan of a step is that of the instruction at IP
pub record IsPlanned (cpu : Cpu) (segments : List Segment) (plan : Plan) : Type 0 where
  pub instr : Instr
  pub n : ℕ
  pub spelled : decoding (image_code segments cpu.ip) ≡ Ok (instr, n)
  pub orderly : IsOrderly instr.op cpu (above cpu.ip n) plan

planned_by : (cpu : Cpu) (segments : List Segment) (plan : Plan) (found : Result (Instr × ℕ) DecodeRefusal) → decoding (image_code segments cpu.ip) ≡ found → plan_by cpu segments found ≡ Ok plan
    → IsPlanned cpu segments plan
planned_by cpu segments plan (Ok found) is e = record {
  instr = found.0;
  n = found.1;
  spelled = is;
  orderly = subst (λ (r : Result Plan Cause). IfOk r (IsOrderly found.0.op cpu (above cpu.ip found.1))) e (instr_orderly cpu segments found.0 (above cpu.ip found.1));
}
planned_by cpu segments plan (Err Short) is e = absurd cc
planned_by cpu segments plan (Err NoInstruction) is e = absurd cc

pub plan_is : (cpu : Cpu) (segments : List Segment) (plan : Plan) → plan_of cpu segments ≡ Ok plan → IsPlanned cpu segments plan
plan_is cpu segments plan e = planned_by cpu segments plan (decoding (image_code segments cpu.ip)) refl e
