use Rattle.std.proofs.Common.{[], length, ap, sym, ◌∙◌}
use Rattle.soft_log.specs.Keeping.{MarkedSoft, kept_from}
use Rattle.soft_log.proofs.Merged.{length-softs}
use Rattle.soft_log.proofs.TakingBack.{length-kept_from}
use Rattle.soft_log.proofs.soft_log.tests.bytes_noted.Goals as goal

-- as many marks are open in the log as the soft log shows
pub take_last-requires : goal.take_last-requires
take_last-requires c =
    let inside = c.soft_log.inside in
    record { newest = c.mark.view_is ∙ c.requires ∙ ap (λ (v : MarkedSoft). length v.marks) (sym c.soft_log.view_is) ∙ length-softs inside.records.marks (kept_from [] inside.log.marks inside.soft) c.soft_log.invariant.older ∙ length-kept_from [] inside.log.marks inside.soft }
