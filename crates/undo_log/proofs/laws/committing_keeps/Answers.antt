use Rattle.undo_log.proofs.AtMarksLaws.{committing}
use Rattle.undo_log.proofs.laws.committing_keeps.Goals as goal

pub returns : goal.returns
returns g c = committing
