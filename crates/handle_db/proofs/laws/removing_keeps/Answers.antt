use Rattle.handle_db.proofs.Keeping.{removing}
use Rattle.handle_db.proofs.laws.removing_keeps.Goals as goal

pub returns : goal.returns
returns c = removing
