use Rattle.driver_model.proofs.BusFacts.{dead_is_no_child}
use Rattle.driver_model.proofs.KeepingBusDriver.{all_may_go}
use Rattle.driver_model.proofs.bus_laws.children_can_go.Goals as goal

pub returns-clause-dead : goal.returns-clause-dead
returns-clause-dead c = dead_is_no_child

pub returns-clause-go : goal.returns-clause-go
returns-clause-go c = all_may_go
