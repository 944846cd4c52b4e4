use Rattle.service_model.proofs.ChangeAnswers.{short-traps, traps-for-cause, unreadable-traps}
use Rattle.service_model.proofs.laws.services_trap.Goals as goal

pub returns-clause-cause : goal.returns-clause-cause
returns-clause-cause c = traps-for-cause

pub returns-clause-short : goal.returns-clause-short
returns-clause-short c = short-traps

pub returns-clause-unreadable : goal.returns-clause-unreadable
returns-clause-unreadable c = unreadable-traps
