use Rattle.std.proofs.Common.{ap, ◌∙◌}
use Rattle.guest_memory.specs.GuestMemory.{block_count}
use Rattle.guest_memory.proofs.memory.Memory.block_count.Goals as goal

-- the number is that of the segments
pub returns : goal.returns
returns c = c.blocks-2.ensures ∙ ap (λ totals. totals.blocks) c.self.invariant.sums ∙ ap block_count c.self.view_is
