use Rattle.bind_plan.proofs.HandleSets.{unmarked_by_drivers}
use Rattle.bind_plan.proofs.driver_order.without.Goals as goal

pub returns : goal.returns
returns c =
    rw (← unmarked_by_drivers c.args.chosen.now c.args.blocks.now)
    (rw (c.as_slice.ensures.value, c.in_ok-handles.ensures) at c.drivers_without.ensures)
