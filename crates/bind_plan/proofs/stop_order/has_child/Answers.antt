use Rattle.std.proofs.Common.{◌≡◌, ℕ, false, nat_eq, sym, ap, ◌∙◌, arith}
use Rattle.std.proofs.lemmas.Bool.Decides.{nat_tests}
use Rattle.driver_model.specs.StopOrder.{has_child}
use Rattle.bind_plan.proofs.ChildRecords.{child_by_record, null_is_no_child}
use Rattle.bind_plan.proofs.stop_order.has_child.Goals as goal

pub returns-then-child-eq0 : goal.returns-then-child-eq0
returns-then-child-eq0 c =
    let soft = c.args.world.now.now.soft in
    sym (ap (λ (child : ℕ). has_child c.args.controller child soft c.args.agent) c.if-child-eq0.true ∙ null_is_no_child soft c.args.controller c.args.agent)

pub returns : goal.returns
returns c =
    let real : nat_eq c.args.child 0 ≡ false = grind (arith, nat_tests) in
    rw (← child_by_record c.args.agent c.args.child real c.args.world.now.now.soft c.args.controller c.is_kept.ensures) c.has_record_on.ensures
