use Rattle.ebc_machine.proofs.StepLemmas.{native-keeps, thunk-keeps}
use Rattle.ebc_machine.proofs.laws.requests_change_no_memory.Goals as goal

pub returns-clause-native : goal.returns-clause-native
returns-clause-native c = native-keeps

pub returns-clause-thunk : goal.returns-clause-thunk
returns-clause-thunk c = thunk-keeps
