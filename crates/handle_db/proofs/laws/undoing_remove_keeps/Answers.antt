use Rattle.handle_db.proofs.UndoKeeps.{undoing_remove}
use Rattle.handle_db.proofs.laws.undoing_remove_keeps.Goals as goal

pub returns : goal.returns
returns c = undoing_remove
