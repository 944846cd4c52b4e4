use Rattle.driver_model.proofs.GoneImages.{unloaded_images_are_gone}
use Rattle.driver_model.proofs.LoadedImages.{calls_unload_none}
use Rattle.driver_model.proofs.Unloads.{unloads_that_succeed_sweep}
use Rattle.driver_model.proofs.unload_laws.unloaded_images_are_gone.Goals as goal

pub returns : goal.returns
returns c = record { sweeps = unloads_that_succeed_sweep; loaded = calls_unload_none; gone = unloaded_images_are_gone }
