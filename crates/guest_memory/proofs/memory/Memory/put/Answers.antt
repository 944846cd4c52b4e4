use Rattle.std.proofs.Common.{List, length, subst, sym, ◌∙◌}
use Rattle.std.proofs.lemmas.Bool.{eqb-true}
use Rattle.guest_memory.specs.Totals.{IsInOrder}
use Rattle.guest_memory.specs.declared.segment.Segment.{Segment}
use Rattle.guest_memory.proofs.PutLemmas.{put_bytes-empty}
use Rattle.guest_memory.proofs.TotalsLemmas.{in_order-put_bytes}
use Rattle.guest_memory.proofs.memory.Memory.put.Goals as goal

-- no bytes change nothing
pub returns-then-is_empty : goal.returns-then-is_empty
returns-then-is_empty c = sym (put_bytes-empty c.args.self.now c.args.at c.args.bytes.now (eqb-true (length c.args.bytes.now) 0 (sym c.is_empty.ensures ∙ c.if-is_empty.true)))

pub invariant_of-self : goal.invariant_of-self
invariant_of-self c = subst (λ (s : List Segment). IsInOrder s c.self.inside.totals) (sym c.put.ensures) (in_order-put_bytes c.self.inside.segments c.self.inside.totals c.args.at c.args.bytes.now c.self.invariant)
