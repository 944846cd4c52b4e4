use Rattle.world_model.proofs.ThunkLaws.{dropping, entering, finding, keeping_others}
use Rattle.world_model.proofs.laws.thunks_enter_images.Goals as goal

pub returns : goal.returns
returns c = record { found = finding; others = keeping_others; enters = entering; dropping = dropping }
