use Rattle.driver_model.proofs.BusFacts.{dead_is_unsupported, root_can_be_opened}
use Rattle.driver_model.proofs.KeepingBusDriver.{is_supported}
use Rattle.driver_model.proofs.bus_laws.roots_can_be_opened.Goals as goal

pub returns-clause-supported : goal.returns-clause-supported
returns-clause-supported c = is_supported

pub returns-clause-open : goal.returns-clause-open
returns-clause-open c = root_can_be_opened

pub returns-clause-dead : goal.returns-clause-dead
returns-clause-dead c = dead_is_unsupported
