use Rattle.world_model.proofs.KeepingBlocks.{fitting}
use Rattle.world_model.proofs.KeepingImages.{fitting as fitting_image, fitting_image_block}
use Rattle.world_model.proofs.KeepingStacks.{fitting as fitting_stack, fitting_list}
use Rattle.world_model.proofs.laws.segments_fit.Goals as goal

pub returns : goal.returns
returns c = record { block = fitting; image_block = fitting_image_block; image = fitting_image; stack = fitting_stack; list = fitting_list }
