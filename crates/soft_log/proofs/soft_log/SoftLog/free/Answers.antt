use Rattle.std.proofs.Common.{ap, sym, subst, ◌∙◌}
use Rattle.world_model.specs.Blocks.{block_freed}
use Rattle.world_model.specs.Kept.{IsKept}
use Rattle.soft_log.specs.Keeping.{AreRecordsOf, MarkedSoft, merged, segment_noted}
use Rattle.soft_log.proofs.NewBlocks.{FreeKeeps, freed}
use Rattle.soft_log.proofs.soft_log.SoftLog.free.Goals as goal

-- what the marks keep stays
keeps : (c : goal.After-note) → FreeKeeps c.self.inside.log.marks (segment_noted c.self.inside.log.marks c.in_ok-freed.freed) c.self.inside.soft (block_freed c.args.at c.self.inside.soft)
keeps c =
    let inside = c.self.inside in
    let still : IsKept (block_freed c.args.at inside.soft) = subst IsKept c.in_ok-freed.ensures.ok c.is_kept-2.ensures in
    freed inside.log.marks inside.soft c.args.at c.args.kind c.in_ok-freed.freed c.is_kept.ensures still c.self.invariant.part c.requires (sym c.in_ok-freed.ensures.answer) c.in_ok-freed.ensures.segment

pub invariant_of-self-2 : goal.invariant_of-self-2
invariant_of-self-2 c =
    let inside = c.self.inside in
    let all = keeps c in
    rw (c.note.ensures, c.noted_segment-segment.ensures, c.reserve.ensures.marks, c.in_ok-freed.ensures.ok) (record { part = all.0; now = c.self.invariant.now; older = subst (AreRecordsOf inside.records.marks) (sym all.1) c.self.invariant.older })

pub returns-clause-marks : goal.returns-clause-marks
returns-clause-marks c =
    rw (c.note.ensures, c.noted_segment-segment.ensures, c.reserve.ensures.marks, c.in_ok-freed.ensures.ok) (ap (merged c.self.inside.records.marks) (keeps c).1)
    ∙ ap (λ (v : MarkedSoft). v.marks) c.self.view_is
