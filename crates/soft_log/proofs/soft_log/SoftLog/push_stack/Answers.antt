use Rattle.std.proofs.Common.{◌≡◌, ℕ, List, false, ap, ◌∙◌}
use Rattle.std.specs.Prelude.{Result, Ok, Err, OnErr, OnOk}
use Rattle.world_model.specs.Stacks.{has_stack, stack_pushed}
use Rattle.world_model.specs.World.{Soft}
use Rattle.soft_log.specs.Keeping.{MarkedSoft, merged}
use Rattle.soft_log.proofs.Merged.{still_inside}
use Rattle.soft_log.proofs.StacksLeftOut.{pushed}
use Rattle.soft_log.proofs.soft_log.SoftLog.push_stack.Goals as goal

pushed_database : {T E : Type 0} (result : Result T E) (before after : Soft) (level : ℕ) (slots handles : List ℕ) → OnOk result (after ≡ stack_pushed level slots handles before) → OnErr result (after ≡ before) → after.database ≡ before.database
pushed_database (Ok done) before after level slots handles ok err = ap (λ (s : Soft). s.database) ok
pushed_database (Err error) before after level slots handles ok err = ap (λ (s : Soft). s.database) err

pub invariant_of-self : goal.invariant_of-self
invariant_of-self c =
    let inside = c.self.inside in
    let none : has_stack c.args.level inside.soft.memory ≡ false = ap (λ (v : MarkedSoft). has_stack c.args.level v.now.memory) c.self.view_is ∙ c.requires.none in
    let part = pushed c.push_stack.result inside.log.marks inside.soft c.push_stack.new.self c.args.level c.args.slots.now c.args.list.now c.requires.from c.requires.to none c.self.invariant.part c.push_stack.ensures.ok c.push_stack.ensures.err in
    still_inside inside.log.marks inside.soft c.push_stack.new.self inside.records part (pushed_database c.push_stack.result inside.soft c.push_stack.new.self c.args.level c.args.slots.now c.args.list.now c.push_stack.ensures.ok c.push_stack.ensures.err) c.self.invariant

pub returns-clause-marks : goal.returns-clause-marks
returns-clause-marks c =
    let inside = c.self.inside in
    let none : has_stack c.args.level inside.soft.memory ≡ false = ap (λ (v : MarkedSoft). has_stack c.args.level v.now.memory) c.self.view_is ∙ c.requires.none in
    let part = pushed c.push_stack.result inside.log.marks inside.soft c.push_stack.new.self c.args.level c.args.slots.now c.args.list.now c.requires.from c.requires.to none c.self.invariant.part c.push_stack.ensures.ok c.push_stack.ensures.err in
    ap (merged inside.records.marks) part.1 ∙ ap (λ (v : MarkedSoft). v.marks) c.self.view_is
