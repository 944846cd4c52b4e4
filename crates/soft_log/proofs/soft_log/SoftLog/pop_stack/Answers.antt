use Rattle.std.proofs.Common.{◌≡◌, false, [], ap, sym, ◌∙◌}
use Rattle.world_model.specs.Stacks.{is_marked_stack}
use Rattle.world_model.specs.World.{Soft}
use Rattle.soft_log.specs.Keeping.{MarkedSoft, kept_from, merged}
use Rattle.soft_log.proofs.Merged.{marked_stack_merged, still_inside}
use Rattle.soft_log.proofs.StacksLeftOut.{popped}
use Rattle.soft_log.proofs.soft_log.SoftLog.pop_stack.Goals as goal

pub invariant_of-self : goal.invariant_of-self
invariant_of-self c =
    let inside = c.self.inside in
    let none : is_marked_stack c.args.level (kept_from [] inside.log.marks inside.soft) ≡ false =
    sym (marked_stack_merged c.args.level inside.records.marks (kept_from [] inside.log.marks inside.soft) c.self.invariant.older) ∙ ap (λ (v : MarkedSoft). is_marked_stack c.args.level v.marks) c.self.view_is ∙ c.requires.older in
    let part = popped inside.log.marks inside.soft c.pop_stack.new.self c.args.level c.requires.from c.requires.to none c.self.invariant.part c.pop_stack.ensures in
    still_inside inside.log.marks inside.soft c.pop_stack.new.self inside.records part (ap (λ (s : Soft). s.database) c.pop_stack.ensures) c.self.invariant

pub returns-clause-marks : goal.returns-clause-marks
returns-clause-marks c =
    let inside = c.self.inside in
    let none : is_marked_stack c.args.level (kept_from [] inside.log.marks inside.soft) ≡ false =
    sym (marked_stack_merged c.args.level inside.records.marks (kept_from [] inside.log.marks inside.soft) c.self.invariant.older) ∙ ap (λ (v : MarkedSoft). is_marked_stack c.args.level v.marks) c.self.view_is ∙ c.requires.older in
    let part = popped inside.log.marks inside.soft c.pop_stack.new.self c.args.level c.requires.from c.requires.to none c.self.invariant.part c.pop_stack.ensures in
    ap (merged inside.records.marks) part.1 ∙ ap (λ (v : MarkedSoft). v.marks) c.self.view_is
