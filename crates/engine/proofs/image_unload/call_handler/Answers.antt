use Rattle.std.proofs.Common.{◌≡◌, ◌+◌, ◌∙◌, ap, refl}
use Rattle.world_model.specs.World.{WorldView}
use Rattle.world_model.specs.Marks.{older_marks, stacks}
use Rattle.engine.proofs.Loads.{free_after_laying, on_ok, stacks_of_mark}
use Rattle.engine.proofs.image_unload.call_handler.Goals as goal

-- no image is laid between the mark and the call

pub mark-mark-requires : goal.mark-mark-requires
mark-mark-requires c = (c.marks_suffice.ensures.spare (c.args.room + 1) c.args.world.now.now.soft c.args.world.now.marks c.requires.marks).1

pub call_driver-requires-clause-free : goal.call_driver-requires-clause-free
call_driver-requires-clause-free c =
    free_after_laying (c.args.room + 1) c.args.world.now c.mark-mark.new.self c.mark-mark.new.self c.levels_are_free.ensures.marking c.requires.free c.mark-mark.ensures.marked refl
    (ap (λ (w : WorldView). stacks w.now.soft) c.mark-mark.ensures.marked)

pub settle_unload-requires-clause-stacks : goal.settle_unload-requires-clause-stacks
settle_unload-requires-clause-stacks c =
    stacks_of_mark c.args.world.now c.mark-mark.new.self c.mark-mark.new.self c.call_driver.new.world c.mark-mark.ensures.marked refl c.in_ok-outcome.ensures.marks
    (c.in_ok-outcome.ensures.stacks ∙ ap (λ (w : WorldView). stacks w.now.soft) c.mark-mark.ensures.marked)

pub settle_unload-requires-clause-only : goal.settle_unload-requires-clause-only
settle_unload-requires-clause-only c =
    ap older_marks c.in_ok-outcome.ensures.marks ∙ ap (λ (w : WorldView). older_marks w.marks) c.mark-mark.ensures.marked ∙ c.requires.unmarked

pub returns-clause-stacks : goal.returns-clause-stacks
returns-clause-stacks c =
    on_ok c.settle_unload.result
    (λ (settled : stacks c.settle_unload.new.world.now.soft ≡ stacks c.call_driver.new.world.now.soft).
    settled ∙ c.in_ok-outcome.ensures.stacks ∙ ap (λ (w : WorldView). stacks w.now.soft) c.mark-mark.ensures.marked)
    c.settle_unload.ensures.stacks
