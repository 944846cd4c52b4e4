use Rattle.world_model.proofs.RootLaws.{opening_handles, roots_are_there, roots_have_buses}
use Rattle.world_model.proofs.OpeningState.{roots_fit}
use Rattle.world_model.proofs.laws.roots_are_there.Goals as goal

pub returns : goal.returns
returns c = record { fit = roots_fit; interfaces = roots_are_there; handles = opening_handles; buses = roots_have_buses }
