use Rattle.world_model.proofs.Legality.{dead_unnamed, everyone, none_lost}
use Rattle.world_model.proofs.laws.records_are_legal.Goals as goal

pub returns : goal.returns
returns c = record { legal = everyone; whole = none_lost; dead = dead_unnamed }
