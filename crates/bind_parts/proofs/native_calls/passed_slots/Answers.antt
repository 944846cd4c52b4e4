use Rattle.std.proofs.Common.{ℕ, set, ap, ◌∙◌}
use Rattle.std.specs.Prelude.{unwrap_or, slice_index_or}
use Rattle.guest_memory.specs.GuestMemory.{number_of}
use Rattle.service_thunks.specs.Arguments.{slot_at}
use Rattle.bind_parts.proofs.Slots.{one_read}
use Rattle.bind_parts.proofs.native_calls.passed_slots.Goals as goal

pub loop-i-preserved : goal.loop-i-preserved
loop-i-preserved c =
    ap (λ (n : ℕ). set c.loop-i.slots n c.slot.result) c.from.ensures
    ∙ one_read (λ i. unwrap_or (number_of c.args.world.now.now.soft.memory (slot_at (slice_index_or c.args.cpu.now.r 0 0) i) 8) 0) c.loop-i.i c.slot.result c.loop-i.slots
    c.loop-i-test.true c.loop-i.invariant c.slot.ensures
