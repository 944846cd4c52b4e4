use Rattle.world_model.proofs.FixedSegments.{mapping, putting, unmapping, writing}
use Rattle.world_model.proofs.laws.fixed_segments_stay.Goals as goal

pub returns : goal.returns
returns c = record { writing = writing; putting = putting; mapping = mapping; unmapping = unmapping }
