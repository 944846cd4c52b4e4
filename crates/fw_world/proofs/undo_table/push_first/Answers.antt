use Rattle.std.proofs.Common.{ℕ, List, [], nat_eq, replicate, ap, ◌∙◌}
use Rattle.std.specs.List.{list_any}
use Rattle.world_model.specs.Marks.{stacks}
use Rattle.world_model.specs.StackLaws.{inserted}
use Rattle.world_model.specs.Stacks.{stack_base}
use Rattle.world_model.specs.World.{State}
use Rattle.fw_world.proofs.undo_table.push_first.Goals as goal

pub push_stack-requires-clause-none : goal.push_stack-requires-clause-none
push_stack-requires-clause-none c =
    c.stacks_stand.ensures.level c.args.world.now.now.soft 1 ∙ ap (λ (bases : List ℕ). list_any (λ (base : ℕ). nat_eq base (stack_base 1)) bases) c.requires

pub returns-clause-stacks : goal.returns-clause-stacks
returns-clause-stacks c =
    ap (λ (w : State). stacks w.soft) c.in_ok-push_stack.ensures.now
    ∙ c.stacks_stand.ensures.pushing c.args.world.now.now.soft 1 (replicate 16 0) [] c.is_kept.ensures
    ∙ ap (inserted (stack_base 1)) c.requires
