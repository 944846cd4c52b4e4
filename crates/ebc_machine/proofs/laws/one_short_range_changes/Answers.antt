use Rattle.ebc_machine.proofs.StepLemmas.{step-range}
use Rattle.ebc_machine.proofs.laws.one_short_range_changes.Goals as goal

pub returns : goal.returns
returns c = step-range
