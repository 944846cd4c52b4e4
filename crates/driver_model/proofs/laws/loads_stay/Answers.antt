use Rattle.driver_model.proofs.Levels.{loads_stay}
use Rattle.driver_model.proofs.laws.loads_stay.Goals as goal

pub returns : goal.returns
returns c = loads_stay
