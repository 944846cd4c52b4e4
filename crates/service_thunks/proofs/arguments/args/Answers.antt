use Rattle.std.proofs.Common.{◌≡◌, ℕ, None, Some, set, sym, ap, ◌∙◌, arith}
use Rattle.guest_memory.specs.GuestMemory.{number_of}
use Rattle.service_thunks.specs.Arguments.{slot_at}
use Rattle.service_thunks.proofs.SlotLemmas.{next_slot, no_slot}
use Rattle.service_thunks.proofs.arguments.args.Goals as goal

-- a slot that can't be read
pub returns-in_err-slots : goal.returns-in_err-slots
returns-in_err-slots g c =
    let segments = g.M.GuestMem.segments c.args.mem.now in
    let missing : number_of segments (slot_at c.args.sp c.loop-i.i) 8 ≡ None =
    ap (λ (i : ℕ). number_of segments (slot_at c.args.sp i) 8) (sym c.from.ensures) ∙ sym c.in_err-slots.ensures.value in
    c.from_residual.ensures ∙ sym (no_slot segments c.args.sp c.loop-i.i c.args.n c.loop-i-test.true missing)

-- one that is read
pub loop-i-preserved : goal.loop-i-preserved
loop-i-preserved g c =
    let segments = g.M.GuestMem.segments c.args.mem.now in
    let value = c.in_ok-slots.field-0 in
    let next : number_of segments (slot_at c.args.sp c.loop-i.i) 8 ≡ Some value =
    ap (λ (i : ℕ). number_of segments (slot_at c.args.sp i) 8) (sym c.from.ensures) ∙ sym c.in_ok-slots.ensures.value in
    next_slot segments c.args.sp c.loop-i.i value c.loop-i.slots (omega arith) c.loop-i.invariant next
    ∙ ap (λ (i : ℕ). Some (set c.loop-i.slots i value)) (sym c.from-in-loop-i.ensures)
