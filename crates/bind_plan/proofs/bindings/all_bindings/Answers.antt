use Rattle.std.proofs.Common.{◌≡◌, ℕ, List, rules, subst, ap, ◌∙◌}
use Rattle.std.specs.Prelude.{IfOk, Some}
use Rattle.fw_types.specs.Guid.{known_guid}
use Rattle.fw_types.specs.declared.guid.Known.TheVariants.{DriverBinding}
use Rattle.handle_db.specs.Database.{handles_with}
use Rattle.driver_model.specs.Bindings.{bindings_of}
use Rattle.driver_model.specs.Connect.{unmarked}
use Rattle.driver_model.specs.declared.binding.BindingBlock.{BindingBlock}
use Rattle.bind_plan.proofs.LeftOut.{bindings_left}
use Rattle.bind_plan.proofs.bindings.all_bindings.Goals as goal

pub returns : goal.returns
returns c =
    let soft = c.args.world.now.now.soft in
    let handles : c.as_slice.result.now ≡ handles_with (Some (known_guid DriverBinding)) soft.database = first_of (cc, search rules) in
    subst (λ (list : List BindingBlock). IfOk c.bindings_of_handles.result (λ blocks. blocks.items ≡ list))
    (bindings_left c.args.marked.now soft c.as_slice.result.now ∙ ap (λ (all : List ℕ). unmarked c.args.marked.now (bindings_of all soft)) handles)
    c.bindings_of_handles.ensures
