use Rattle.ebc_machine.proofs.StepLemmas.{step-even}
use Rattle.ebc_machine.proofs.laws.even_ip_stays_even.Goals as goal

pub returns : goal.returns
returns c = λ cpu segments even. step-even cpu segments (λ bytes instr n is. (c.lengths_are_even.ensures bytes instr n is).0) even
