use Rattle.std.proofs.Common.{List, is_ok, subst, sym}
use Rattle.guest_memory.specs.Totals.{IsInOrder}
use Rattle.guest_memory.specs.declared.segment.Segment.{Segment}
use Rattle.guest_memory.proofs.TotalsLemmas.{in_order-answered}
use Rattle.guest_memory.proofs.memory.MemoryGuestMem.write.Goals as goal

-- a write leaves where the segments lie, and their totals
pub invariant_of-self : goal.invariant_of-self
invariant_of-self c =
    subst (λ (s : List Segment). IsInOrder s c.self.inside.totals) (sym c.write.ensures.bytes)
    (in_order-answered (is_ok c.write.result) c.self.inside.segments c.self.inside.totals c.args.at c.args.n c.args.value c.self.invariant)
