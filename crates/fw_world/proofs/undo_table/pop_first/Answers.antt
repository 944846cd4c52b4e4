use Rattle.std.proofs.Common.{◌≤◌, ℕ, List, filter, nat_eq, not, ap, arith, ◌∙◌}
use Rattle.std.specs.List.{list_any}
use Rattle.fw_types.specs.declared.limits.TheConstants.{MOST_LEVELS}
use Rattle.world_model.specs.Marks.{stacks}
use Rattle.world_model.specs.Stacks.{stack_base}
use Rattle.world_model.specs.World.{State}
use Rattle.fw_world.proofs.undo_table.pop_first.Goals as goal

pub pop_stack-requires-clause-there : goal.pop_stack-requires-clause-there
pop_stack-requires-clause-there c =
    c.stacks_stand.ensures.level c.args.world.now.now.soft 1 ∙ ap (λ (bases : List ℕ). list_any (λ (base : ℕ). nat_eq base (stack_base 1)) bases) c.requires.there

pub returns-clause-stacks : goal.returns-clause-stacks
returns-clause-stacks c =
    let within : 1 ≤ MOST_LEVELS = omega arith in
    ap (λ (w : State). stacks w.soft) c.in_ok-pop_stack.ensures.now
    ∙ c.stacks_stand.ensures.popping c.args.world.now.now.soft 1 c.is_kept.ensures within
    ∙ ap (filter (λ (base : ℕ). not (nat_eq base (stack_base 1)))) c.requires.there
