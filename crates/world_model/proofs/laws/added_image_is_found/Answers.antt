use Rattle.world_model.proofs.ImageLaws.{found}
use Rattle.world_model.proofs.laws.added_image_is_found.Goals as goal

pub returns : goal.returns
returns c = found
