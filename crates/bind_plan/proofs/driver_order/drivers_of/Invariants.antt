use Rattle.std.proofs.Common.{◌≡◌, take}
use Rattle.std.specs.Prelude.{flat_map}
use Rattle.driver_model.specs.Connect.{unmarked}
use Rattle.driver_model.specs.DriverOrder.{drivers_by}
use Rattle.bind_plan.proofs.driver_order.drivers_of.Given as goal

abbrev pub invariant-loop-handle : goal.invariant-loop-handle
invariant-loop-handle l = l.blocks.items ≡ unmarked l.marked (flat_map (drivers_by l.world.now.soft) (take l.handle-index l.handles))
