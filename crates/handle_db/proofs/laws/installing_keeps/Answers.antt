use Rattle.handle_db.proofs.Keeping.{installing}
use Rattle.handle_db.proofs.laws.installing_keeps.Goals as goal

pub returns : goal.returns
returns c = installing
