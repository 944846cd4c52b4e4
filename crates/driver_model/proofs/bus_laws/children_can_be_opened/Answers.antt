use Rattle.driver_model.proofs.BusFacts.{child_can_be_in}
use Rattle.driver_model.proofs.bus_laws.children_can_be_opened.Goals as goal

pub returns : goal.returns
returns c = child_can_be_in
