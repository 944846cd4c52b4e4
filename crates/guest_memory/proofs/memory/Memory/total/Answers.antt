use Rattle.std.proofs.Common.{List, ap, ◌∙◌}
use Rattle.guest_memory.specs.GuestMemory.{total_of}
use Rattle.guest_memory.specs.Totals.{total_in}
use Rattle.guest_memory.specs.declared.segment.Segment.{Segment}
use Rattle.guest_memory.proofs.TotalsLemmas.{total_in-of}
use Rattle.guest_memory.proofs.memory.Memory.total.Goals as goal

-- the number is that of the segments
pub returns : goal.returns
returns c = c.of.ensures ∙ ap (λ totals. total_in totals c.args.kind) c.self.invariant.sums ∙ total_in-of c.self.inside.segments c.args.kind ∙ ap (λ (segments : List Segment). total_of segments c.args.kind) c.self.view_is
