use Rattle.std.proofs.Common.{◌≡◌, List, subst, ap, ◌∙◌}
use Rattle.std.specs.Prelude.{IfOk}
use Rattle.driver_model.specs.Bindings.{all_bindings}
use Rattle.driver_model.specs.DriverOrder.{by_version, order}
use Rattle.driver_model.specs.OrderLaws.{chosen_first}
use Rattle.driver_model.specs.declared.binding.BindingBlock.{BindingBlock}
use Rattle.bind_plan.proofs.LeftOut.{order_by_parts}
use Rattle.bind_plan.proofs.driver_order.order_of_unmarked.Goals as goal

pub returns : goal.returns
returns c =
    let soft = c.args.world.now.now.soft in
    subst (λ (list : List BindingBlock). IfOk c.with_others.result (λ blocks. blocks.items ≡ list))
    (order_by_parts c.args.marked.now _ _ (chosen_first c.args.controller c.args.context.now c.args.platform.now soft) (all_bindings soft)
    (order c.args.controller c.args.context.now c.args.platform.now soft)
    c.in_ok-chosen.ensures (c.in_ok-sort_by_version.ensures ∙ ap by_version c.in_ok-all.ensures)
    (c.order_of_drivers.ensures.others c.args.controller c.args.context.now c.args.platform.now soft c.is_kept.ensures))
    c.with_others.ensures
