use Rattle.std.proofs.Common.{[], length, ap, sym, ◌∙◌}
use Rattle.world_model.specs.Marks.{older_marks}
use Rattle.soft_log.specs.Keeping.{MarkedSoft, kept_from}
use Rattle.soft_log.proofs.TakingBack.{are_committed, kept_committed, length-kept_from}
use Rattle.soft_log.proofs.Merged.{length-softs, length-tables, older_are, older_merged}
use Rattle.soft_log.proofs.soft_log.SoftLog.commit.Goals as goal

pub commit-requires : goal.commit-requires
commit-requires c =
    let inside = c.self.inside in
    record { newest = c.mark.view_is ∙ c.requires.newest ∙ ap (λ (v : MarkedSoft). length v.marks) (sym c.self.view_is) ∙ length-softs inside.records.marks (kept_from [] inside.log.marks inside.soft) c.self.invariant.older ∙ length-kept_from [] inside.log.marks inside.soft }

pub commit-requires-2 : goal.commit-requires-2
commit-requires-2 c =
    let inside = c.self.inside in
    record { newest = c.mark.invariant ∙ c.mark.view_is ∙ c.requires.newest ∙ ap (λ (v : MarkedSoft). length v.marks) (sym c.self.view_is) ∙ length-tables inside.records.marks (kept_from [] inside.log.marks inside.soft) c.self.invariant.older }

pub invariant_of-self : goal.invariant_of-self
invariant_of-self c =
    let inside = c.self.inside in
    record {
      part = rw c.commit.ensures (are_committed inside.log.marks inside.soft c.self.invariant.part);
      now = rw c.commit-2.ensures.now c.self.invariant.now;
      older = rw (c.commit-2.ensures.marks, c.commit.ensures, kept_committed inside.log.marks inside.soft) (older_are inside.records.marks (kept_from [] inside.log.marks inside.soft) c.self.invariant.older);
    }

pub returns-clause-marks : goal.returns-clause-marks
returns-clause-marks c =
    let inside = c.self.inside in
    rw (c.commit-2.ensures.marks, c.commit.ensures, kept_committed inside.log.marks inside.soft) (older_merged inside.records.marks (kept_from [] inside.log.marks inside.soft) c.self.invariant.older)
    ∙ ap (λ (v : MarkedSoft). older_marks v.marks) c.self.view_is
