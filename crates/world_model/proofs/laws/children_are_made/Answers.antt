use Rattle.world_model.proofs.NewChild.{blocks_have_sizes, child_has_function, child_has_interfaces, child_is_possible, child_keeps_stacks}
use Rattle.world_model.proofs.laws.children_are_made.Goals as goal

pub returns : goal.returns
returns c = record { possible = child_is_possible; sizes = blocks_have_sizes; interfaces = child_has_interfaces; function = child_has_function; stacks = child_keeps_stacks }
