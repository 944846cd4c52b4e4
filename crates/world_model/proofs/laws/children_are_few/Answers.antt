use Rattle.world_model.proofs.Children.{children_are_few}
use Rattle.world_model.proofs.laws.children_are_few.Goals as goal

pub returns : goal.returns
returns c = children_are_few
