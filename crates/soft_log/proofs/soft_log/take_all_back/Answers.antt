use Rattle.std.proofs.Common.{◌≡◌, List, [], length, Some, sym, ap, ◌∙◌}
use Rattle.undo_log.specs.Log.{last_change, without_last}
use Rattle.world_model.specs.declared.change.Change.{Change}
use Rattle.world_model.specs.World.{Soft}
use Rattle.world_model.specs.Marks.{stacks}
use Rattle.world_model.specs.UndoLaws.{CanTakeBack}
use Rattle.soft_log.specs.Keeping.{kept_from, newest_of}
use Rattle.soft_log.proofs.TakingBack.{all_taken, are_taken, can_take, kept_taken, length-kept_from, newest_same, newest_stays}
use Rattle.soft_log.proofs.soft_log.take_all_back.Goals as goal

-- the last change can be taken back
pub take_back-requires : goal.take_back-requires
take_back-requires c =
    let is : last_change c.back.log.marks ≡ Some c.in-Some.change = sym c.take_last.ensures.change ∙ c.in-Some.is in
    let same = c.back.invariant.stacks ∙ ap (λ (marks : List Soft). stacks (newest_of marks c.back.soft)) (sym c.back.invariant.marks) in
    can_take c.back.log.marks c.in-Some.change c.back.soft c.is_kept.ensures c.back.invariant.kept same is

-- what the marks keep stays as it is
pub back-preserved : goal.back-preserved
back-preserved c =
    let change : Change = c.in-Some.change in
    let kept = kept_from [] c.args.log.now.marks c.args.soft.now in
    let is : last_change c.back.log.marks ≡ Some change = sym c.take_last.ensures.change ∙ c.in-Some.is in
    let same = c.back.invariant.stacks ∙ ap (λ (marks : List Soft). stacks (newest_of marks c.back.soft)) (sym c.back.invariant.marks) in
    let can : CanTakeBack change c.back.soft = can_take c.back.log.marks change c.back.soft c.is_kept.ensures c.back.invariant.kept same is in
    let left : c.take_last.new.self.marks ≡ without_last c.back.log.marks = c.take_last.ensures.rest in
    let marks_are = rw (left, c.in_ok-take_back.ensures) (kept_taken c.back.log.marks change c.back.soft c.is_kept.ensures can is) ∙ c.back.invariant.marks in
    record {
      marks = marks_are;
      kept = rw (left, c.in_ok-take_back.ensures) (are_taken c.back.log.marks change c.back.soft c.is_kept.ensures can is c.back.invariant.kept);
      stacks = newest_same kept c.take_back.new.self c.back.soft (ap stacks c.in_ok-take_back.ensures ∙ can.stacks) c.back.invariant.stacks;
      newest = c.back.invariant.newest ∙ sym (length-kept_from [] c.back.log.marks c.back.soft) ∙ ap length (c.back.invariant.marks ∙ sym marks_are) ∙ length-kept_from [] c.take_last.new.self.marks c.take_back.new.self;
      now = newest_stays c.back.log.marks kept change c.back.soft c.take_back.new.self c.back.soft c.back.invariant.marks is ∙ c.back.invariant.now;
    }

-- nothing is left to take back
pub returns-clause-now : goal.returns-clause-now
returns-clause-now c =
    let same = c.back.invariant.stacks ∙ ap (λ (marks : List Soft). stacks (newest_of marks c.back.soft)) (sym c.back.invariant.marks) in
    let all : newest_of (kept_from [] c.back.log.marks c.back.soft) c.back.soft ≡ c.back.soft =
    all_taken c.back.log.marks c.back.soft c.is_kept-2.ensures c.back.invariant.kept same (sym c.take_last.ensures.change ∙ c.in_default.is) in
    sym all ∙ ap (λ (marks : List Soft). newest_of marks c.back.soft) c.back.invariant.marks ∙ c.back.invariant.now
