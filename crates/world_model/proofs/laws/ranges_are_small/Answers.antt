use Rattle.world_model.proofs.SmallRanges.{ranges_small}
use Rattle.world_model.proofs.laws.ranges_are_small.Goals as goal

pub returns : goal.returns
returns c = ranges_small
