use Rattle.driver_model.proofs.BusFacts.{drivers_may_uninstall}
use Rattle.driver_model.proofs.bus_laws.drivers_may_uninstall.Goals as goal

pub returns : goal.returns
returns c = drivers_may_uninstall
