use Rattle.driver_model.proofs.GoneImages.{unloads_leave_others}
use Rattle.driver_model.proofs.unload_laws.unloads_leave_others.Goals as goal

pub returns : goal.returns
returns c = unloads_leave_others
