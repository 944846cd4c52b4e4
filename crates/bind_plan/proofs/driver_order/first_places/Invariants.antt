use Rattle.std.proofs.Common.{◌≡◌, take}
use Rattle.driver_model.specs.DriverOrder.{first_places}
use Rattle.bind_plan.specs.HandleSet.{AreHandlesOf}
use Rattle.bind_plan.proofs.driver_order.first_places.Given as goal

-- the first places of the drivers so far, and the set of their handles
abbrev pub invariant-loop-block : goal.invariant-loop-block
invariant-loop-block l = record {
  places : l.places.items ≡ first_places (take l.block-index l.blocks);
  handles : AreHandlesOf l.places.items l.handles;
}
