use Rattle.world_model.proofs.MarkLaws.{commit, rollback}
use Rattle.world_model.proofs.RootLaws.{rollback_leaves_board}
use Rattle.world_model.proofs.laws.marks_are_spent.Goals as goal

pub returns : goal.returns
returns c = record { rollback = rollback; commit = commit; board = rollback_leaves_board }
