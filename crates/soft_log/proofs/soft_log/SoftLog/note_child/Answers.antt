use Rattle.std.proofs.Common.{ap, ◌∙◌}
use Rattle.world_model.specs.declared.change.Change.{Change}
use Rattle.world_model.specs.declared.change.Change.TheVariants.{NoteChild}
use Rattle.world_model.specs.UndoLaws.{IsNoted}
use Rattle.world_model.specs.World.{Soft}
use Rattle.world_model.proofs.UndoNoted.{child_is_noted}
use Rattle.soft_log.specs.Keeping.{MarkedSoft, merged}
use Rattle.soft_log.proofs.Merged.{noted_here, noted_database}
use Rattle.soft_log.proofs.Noting.{kept_noted}
use Rattle.soft_log.proofs.soft_log.SoftLog.note_child.Goals as goal

pub invariant_of-self-2 : goal.invariant_of-self-2
invariant_of-self-2 c =
    let inside = c.self.inside in
    let change : Change = NoteChild c.child_count-count.result in
    let is : IsNoted change inside.soft c.note_child.new.self = rw (c.child_count-count.ensures, c.in_ok-note_child.ensures.ok) (child_is_noted inside.soft c.args.handle c.args.function) in
    rw (c.note.ensures, c.reserve.ensures.marks) (noted_here inside.log.marks change inside.soft c.note_child.new.self inside.records c.is_kept.ensures c.is_kept-2.ensures is (ap (λ (s : Soft). s.database) c.in_ok-note_child.ensures.ok ∙ noted_database inside.soft c.args.handle c.args.function) c.self.invariant)

pub returns-clause-marks : goal.returns-clause-marks
returns-clause-marks c =
    let inside = c.self.inside in
    let change : Change = NoteChild c.child_count-count.result in
    let is : IsNoted change inside.soft c.note_child.new.self = rw (c.child_count-count.ensures, c.in_ok-note_child.ensures.ok) (child_is_noted inside.soft c.args.handle c.args.function) in
    rw (c.note.ensures, c.reserve.ensures.marks) (ap (merged inside.records.marks) (kept_noted inside.log.marks change inside.soft c.note_child.new.self c.is_kept.ensures c.is_kept-2.ensures is))
    ∙ ap (λ (v : MarkedSoft). v.marks) c.self.view_is
