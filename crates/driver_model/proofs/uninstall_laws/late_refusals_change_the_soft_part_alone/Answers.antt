use Rattle.driver_model.proofs.EarlyRefusals.{late-law}
use Rattle.driver_model.proofs.uninstall_laws.late_refusals_change_the_soft_part_alone.Goals as goal

pub returns : goal.returns
returns c = late-law
