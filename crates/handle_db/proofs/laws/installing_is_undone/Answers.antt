use Rattle.handle_db.proofs.InstallBack.{installing_back}
use Rattle.handle_db.proofs.laws.installing_is_undone.Goals as goal

pub returns : goal.returns
returns c = installing_back
