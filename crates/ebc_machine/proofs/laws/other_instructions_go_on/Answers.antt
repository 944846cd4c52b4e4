use Rattle.ebc_machine.proofs.StepLemmas.{step-next}
use Rattle.ebc_machine.proofs.laws.other_instructions_go_on.Goals as goal

pub returns : goal.returns
returns c = λ cpu segments instr n no_exit spelled other no_trap. step-next cpu segments instr n no_exit spelled other no_trap
