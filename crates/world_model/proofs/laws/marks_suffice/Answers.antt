use Rattle.world_model.proofs.Levels.{call_has_marks, deeper_has_marks, spare_is_made, spares_are_enough}
use Rattle.world_model.proofs.laws.marks_suffice.Goals as goal

pub returns : goal.returns
returns c = record { enough = spares_are_enough; deeper = deeper_has_marks; call = call_has_marks; spare = spare_is_made }
