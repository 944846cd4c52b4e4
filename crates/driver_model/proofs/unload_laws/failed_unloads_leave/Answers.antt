use Rattle.driver_model.proofs.Unloads.{unloads_that_fail_leave}
use Rattle.driver_model.proofs.unload_laws.failed_unloads_leave.Goals as goal

pub returns : goal.returns
returns c = unloads_that_fail_leave
