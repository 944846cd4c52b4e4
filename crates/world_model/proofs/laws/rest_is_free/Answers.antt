use Rattle.world_model.proofs.Levels.{fewer_to_spare, rest_has_marks, rest_is_free}
use Rattle.world_model.proofs.RootLaws.{opening_is_at_rest}
use Rattle.world_model.proofs.laws.rest_is_free.Goals as goal

pub returns : goal.returns
returns c = record { opening = opening_is_at_rest; free = rest_is_free; marks = rest_has_marks; fewer = fewer_to_spare }
