use Rattle.std.proofs.Common.{List, ap, sym, ◌∙◌}
use Rattle.guest_memory.specs.GuestMemory.{holder}
use Rattle.guest_memory.specs.declared.segment.Segment.{Segment}
use Rattle.guest_memory.proofs.FilingLemmas.{holder_key}
use Rattle.guest_memory.proofs.segments.Segments.holder.Goals as goal

-- the segment that was used last has the range
pub returns-then-has-clause-found : goal.returns-then-has-clause-found
returns-then-has-clause-found c =
    let is = holder_key c.self.inside.slots c.self.inside.bases c.self.invariant c.get.result c.args.at c.args.n c.in-Some.segment.now (sym c.in-Some.ensures) c.requires (sym c.has.ensures ∙ c.if-has.true) in
    c.in-Some.ensures ∙ is.found ∙ ap (λ (s : List Segment). holder s c.args.at c.args.n) c.self.view_is
