use Rattle.std.proofs.Common.{List, ap, sym, ◌∙◌}
use Rattle.std.specs.Result.{result_ok}
use Rattle.guest_memory.specs.GuestMemory.{beginning_at}
use Rattle.guest_memory.specs.declared.segment.Segment.{Segment}
use Rattle.guest_memory.proofs.FilingLemmas.{found_nowhere, found_ok}
use Rattle.guest_memory.proofs.segments.Segments.beginning.Goals as goal

-- the map names its key
pub returns-in-Some : goal.returns-in-Some
returns-in-Some c =
    c.get-in-Some.ensures
    ∙ sym (found_ok c.self.inside.slots c.self.inside.bases c.self.invariant c.args.base c.in-Some.key.now (sym c.in-Some.ensures.value))
    ∙ ap (λ (s : List Segment). result_ok (beginning_at s c.args.base)) c.self.view_is

-- or none begins there
pub returns-in-None : goal.returns-in-None
returns-in-None c =
    sym (ap result_ok (found_nowhere c.self.inside.slots c.self.inside.bases c.self.invariant c.args.base (sym c.in-None.ensures.value)))
    ∙ ap (λ (s : List Segment). result_ok (beginning_at s c.args.base)) c.self.view_is
