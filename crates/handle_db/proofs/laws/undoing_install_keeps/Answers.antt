use Rattle.handle_db.proofs.UndoKeeps.{undoing_install}
use Rattle.handle_db.proofs.laws.undoing_install_keeps.Goals as goal

pub returns : goal.returns
returns c = undoing_install
