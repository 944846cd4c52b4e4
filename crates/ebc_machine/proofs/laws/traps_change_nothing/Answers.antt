use Rattle.ebc_machine.proofs.StepLemmas.{trap-keeps}
use Rattle.ebc_machine.proofs.laws.traps_change_nothing.Goals as goal

pub returns : goal.returns
returns c = trap-keeps
