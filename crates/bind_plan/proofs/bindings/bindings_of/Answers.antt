use Rattle.std.proofs.Common.{◌≡◌, List, subst}
use Rattle.std.specs.Prelude.{IfOk}
use Rattle.driver_model.specs.declared.binding.BindingBlock.{BindingBlock}
use Rattle.bind_plan.proofs.LeftOut.{bindings_left}
use Rattle.bind_plan.proofs.bindings.bindings_of.Goals as goal

pub returns : goal.returns
returns c =
    subst (λ (list : List BindingBlock). IfOk c.bindings_of_numbers.result (λ blocks. blocks.items ≡ list))
    (bindings_left c.args.marked.now c.args.world.now.now.soft c.args.handles.now)
    c.bindings_of_numbers.ensures
