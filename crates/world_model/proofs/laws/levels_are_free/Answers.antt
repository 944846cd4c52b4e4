use Rattle.world_model.proofs.Levels.{deeper_is_free, marking_leaves_free, next_is_free, pushing_leaves_free}
use Rattle.world_model.proofs.laws.levels_are_free.Goals as goal

pub returns : goal.returns
returns c = record { next = next_is_free; pushing = pushing_leaves_free; deeper = deeper_is_free; marking = marking_leaves_free }
