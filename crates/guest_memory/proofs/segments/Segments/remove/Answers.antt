use Rattle.std.proofs.Common.{List, ap, sym, ◌∙◌}
use Rattle.std.specs.Result.{result_ok}
use Rattle.guest_memory.specs.GuestMemory.{beginning_at, unmapped}
use Rattle.guest_memory.specs.Segments.{all_in}
use Rattle.guest_memory.specs.declared.segment.Segment.{Segment}
use Rattle.guest_memory.proofs.AddressLemmas.{unmapped_nowhere}
use Rattle.guest_memory.proofs.FilingLemmas.{filed_removed, found_nowhere, found_ok, removed}
use Rattle.guest_memory.proofs.segments.Segments.remove.Goals as goal

-- the map and the segments name each other without it
pub invariant_of-self : goal.invariant_of-self
invariant_of-self c =
    filed_removed c.self.inside.slots c.try_remove.new.self c.self.inside.bases c.remove.new.self c.args.base c.in-Some.key c.self.invariant (sym c.in-Some.ensures.value) c.try_remove.ensures.updates c.in-Some.ensures.updates c.in-Some.ensures.entries
    c.in-Some.ensures.ordered

pub returns-in-Some-clause-value : goal.returns-in-Some-clause-value
returns-in-Some-clause-value c =
    c.try_remove.ensures.value
    ∙ sym (found_ok c.self.inside.slots c.self.inside.bases c.self.invariant c.args.base c.in-Some.key (sym c.in-Some.ensures.value))
    ∙ ap (λ (s : List Segment). result_ok (beginning_at s c.args.base)) c.self.view_is

pub returns-in-Some-clause-rest : goal.returns-in-Some-clause-rest
returns-in-Some-clause-rest c =
    removed c.self.inside.slots c.try_remove.new.self c.self.inside.bases c.remove.new.self c.args.base c.in-Some.key c.self.invariant (sym c.in-Some.ensures.value) c.try_remove.ensures.updates c.in-Some.ensures.updates c.in-Some.ensures.entries
    c.in-Some.ensures.ordered
    ∙ ap (λ (s : List Segment). unmapped s c.args.base) c.self.view_is

-- none begins there
pub returns-in-None-clause-value : goal.returns-in-None-clause-value
returns-in-None-clause-value c =
    sym (ap result_ok (found_nowhere c.self.inside.slots c.self.inside.bases c.self.invariant c.args.base (sym c.in-None.ensures.value)))
    ∙ ap (λ (s : List Segment). result_ok (beginning_at s c.args.base)) c.self.view_is

pub returns-in-None-clause-rest : goal.returns-in-None-clause-rest
returns-in-None-clause-rest c =
    ap (all_in c.self.inside.slots) c.in-None.ensures.unchanged
    ∙ sym (unmapped_nowhere (all_in c.self.inside.slots c.self.inside.bases.entries) c.args.base (found_nowhere c.self.inside.slots c.self.inside.bases c.self.invariant c.args.base (sym c.in-None.ensures.value)))
    ∙ ap (λ (s : List Segment). unmapped s c.args.base) c.self.view_is
