use Rattle.undo_log.proofs.AtMarksLaws.{taken}
use Rattle.undo_log.proofs.laws.taken_is_marked.Goals as goal

pub returns : goal.returns
returns g c = taken
