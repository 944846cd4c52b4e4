use Rattle.ebc_machine.proofs.StepLemmas.{step-flags}
use Rattle.ebc_machine.proofs.laws.few_instructions_change_flags.Goals as goal

pub returns : goal.returns
returns c = step-flags
