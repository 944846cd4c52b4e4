use Rattle.std.proofs.Common.{ap, ◌∙◌}
use Rattle.world_model.specs.World.{State}
use Rattle.world_model.specs.Marks.{stacks}
use Rattle.fw_world.proofs.undo_table.add_image.Goals as goal

pub returns-clause-stacks : goal.returns-clause-stacks
returns-clause-stacks g c = ap (λ (w : State). stacks w.soft) c.in_ok-handle.ensures.now ∙ c.stacks_stand.ensures.adding c.args.world.now.now.soft c.in_ok-bytes.bytes.items 32 c.args.subsystem 3
