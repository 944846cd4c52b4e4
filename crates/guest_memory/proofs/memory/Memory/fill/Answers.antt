use Rattle.std.proofs.Common.{List, replicate, subst, sym}
use Rattle.guest_memory.specs.Totals.{IsInOrder}
use Rattle.guest_memory.specs.declared.segment.Segment.{Segment}
use Rattle.guest_memory.proofs.PutLemmas.{filled-empty}
use Rattle.guest_memory.proofs.TotalsLemmas.{in_order-put_bytes}
use Rattle.guest_memory.proofs.memory.Memory.fill.Goals as goal

-- no bytes change nothing
pub returns-then-n-eq0 : goal.returns-then-n-eq0
returns-then-n-eq0 c = sym (filled-empty c.args.self.now c.args.at c.args.n c.args.byte c.if-n-eq0.true)

pub invariant_of-self : goal.invariant_of-self
invariant_of-self c =
    subst (λ (s : List Segment). IsInOrder s c.self.inside.totals) (sym c.fill.ensures) (in_order-put_bytes c.self.inside.segments c.self.inside.totals c.args.at (replicate c.args.n c.args.byte) c.self.invariant)
