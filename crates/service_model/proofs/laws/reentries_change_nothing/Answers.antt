use Rattle.service_model.proofs.ChangeAnswers.{reentries-go}
use Rattle.service_model.proofs.ConnectRows.{connect-allowed, context-ends}
use Rattle.service_model.proofs.laws.reentries_change_nothing.Goals as goal

pub returns-clause-allowed : goal.returns-clause-allowed
returns-clause-allowed c = connect-allowed

pub returns-clause-ends : goal.returns-clause-ends
returns-clause-ends c = context-ends

pub returns-clause-state : goal.returns-clause-state
returns-clause-state c = reentries-go
