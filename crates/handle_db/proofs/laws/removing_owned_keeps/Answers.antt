use Rattle.handle_db.proofs.Keeping.{removing_owned}
use Rattle.handle_db.proofs.laws.removing_owned_keeps.Goals as goal

pub returns : goal.returns
returns c = removing_owned
