use Rattle.std.proofs.Common.{◌≡◌}
use Rattle.std.specs.Prelude.{unwrap_or}
use Rattle.guest_memory.specs.GuestMemory.{number_of}
use Rattle.service_thunks.specs.Arguments.{slot_at}
use Rattle.bind_parts.proofs.Slots.{read_so_far}
use Rattle.bind_parts.proofs.native_calls.passed_slots.Given as goal

-- the arguments so far are read, and the others are 0
abbrev pub invariant-loop-i : goal.invariant-loop-i
invariant-loop-i l = l.slots ≡ read_so_far (λ i. unwrap_or (number_of l.world.now.soft.memory (slot_at l.sp i) 8) 0) l.i
