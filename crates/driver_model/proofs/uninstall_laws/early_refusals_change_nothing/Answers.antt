use Rattle.driver_model.proofs.EarlyRefusals.{early-law}
use Rattle.driver_model.proofs.uninstall_laws.early_refusals_change_nothing.Goals as goal

pub returns : goal.returns
returns c = early-law
