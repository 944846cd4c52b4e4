use Rattle.service_model.proofs.UntouchedParts.{board-stays, events-stay, lines-stay, tpl-stays, units-never-rise}
use Rattle.service_model.proofs.ChangeAnswers.{errors-change-nothing, traps-change-nothing}
use Rattle.service_model.proofs.laws.services_leave.Goals as goal

pub returns-clause-tpl : goal.returns-clause-tpl
returns-clause-tpl c = tpl-stays

pub returns-clause-events : goal.returns-clause-events
returns-clause-events c = events-stay

pub returns-clause-board : goal.returns-clause-board
returns-clause-board c = board-stays

pub returns-clause-lines : goal.returns-clause-lines
returns-clause-lines c = lines-stay

pub returns-clause-units : goal.returns-clause-units
returns-clause-units c = units-never-rise

pub returns-clause-traps : goal.returns-clause-traps
returns-clause-traps c = traps-change-nothing

pub returns-clause-errors : goal.returns-clause-errors
returns-clause-errors c = errors-change-nothing
