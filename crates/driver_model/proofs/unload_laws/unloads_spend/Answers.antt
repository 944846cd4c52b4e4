use Rattle.service_model.proofs.UntouchedParts.{looks-spend-nothing}
use Rattle.driver_model.proofs.SpendingLevels.{unloads_spend}
use Rattle.driver_model.proofs.unload_laws.unloads_spend.Goals as goal

pub returns : goal.returns
returns c = unloads_spend looks-spend-nothing
