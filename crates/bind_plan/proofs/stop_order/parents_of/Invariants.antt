use Rattle.std.proofs.Common.{◌≡◌, take}
use Rattle.std.specs.Prelude.{filter}
use Rattle.driver_model.specs.StopOrder.{has_child}
use Rattle.bind_plan.proofs.stop_order.parents_of.Given as goal

abbrev pub invariant-loop-agent : goal.invariant-loop-agent
invariant-loop-agent l = l.parents.items ≡ filter (has_child l.controller l.child l.world.now.soft) (take l.agent-index l.agents)
