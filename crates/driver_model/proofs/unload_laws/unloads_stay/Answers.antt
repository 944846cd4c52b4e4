use Rattle.driver_model.proofs.GoneImages.{thunks_enter_loaded_images}
use Rattle.driver_model.proofs.ImageSweeps.{swept_stays}
use Rattle.driver_model.proofs.Levels.{unloads_stay}
use Rattle.driver_model.proofs.unload_laws.unloads_stay.Goals as goal

pub returns : goal.returns
returns c = record { unloads = unloads_stay; sweeps = swept_stays; thunks = thunks_enter_loaded_images }
