use Rattle.std.proofs.Common.{[], length, sym, ap, ◌∙◌}
use Rattle.world_model.specs.Marks.{stacks}
use Rattle.soft_log.specs.Keeping.{MarkedSoft, kept_from, newest_of}
use Rattle.soft_log.proofs.TakingBack.{length-kept_from}
use Rattle.soft_log.proofs.Merged.{length-softs, length-tables, newest_merged}
use Rattle.soft_log.proofs.soft_log.SoftLog.rollback.Goals as goal

pub put_back-requires-clause-newest : goal.put_back-requires-clause-newest
put_back-requires-clause-newest c =
    let inside = c.self.inside in
    c.mark.view_is ∙ c.requires.newest ∙ ap (λ (v : MarkedSoft). length v.marks) (sym c.self.view_is) ∙ length-softs inside.records.marks (kept_from [] inside.log.marks inside.soft) c.self.invariant.older ∙ length-kept_from [] inside.log.marks inside.soft

pub put_back-requires-clause-newest_records : goal.put_back-requires-clause-newest_records
put_back-requires-clause-newest_records c =
    let inside = c.self.inside in
    c.mark.invariant ∙ c.mark.view_is ∙ c.requires.newest ∙ ap (λ (v : MarkedSoft). length v.marks) (sym c.self.view_is) ∙ length-tables inside.records.marks (kept_from [] inside.log.marks inside.soft) c.self.invariant.older

-- stacks have nothing to do with records
pub put_back-requires-clause-stacks : goal.put_back-requires-clause-stacks
put_back-requires-clause-stacks c =
    let inside = c.self.inside in
    ap (λ (v : MarkedSoft). stacks v.now) c.self.view_is ∙ c.requires.stacks ∙ ap (λ (v : MarkedSoft). stacks (newest_of v.marks v.now)) (sym c.self.view_is)
    ∙ ap stacks (newest_merged inside.records.marks (kept_from [] inside.log.marks inside.soft) inside.records.now inside.soft c.self.invariant.older)
