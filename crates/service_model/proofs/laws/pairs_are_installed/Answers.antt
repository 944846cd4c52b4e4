use Rattle.service_model.proofs.InstallPairs.{pairs-go, row-goes}
use Rattle.service_model.proofs.laws.pairs_are_installed.Goals as goal

pub returns-clause-each : goal.returns-clause-each
returns-clause-each c = pairs-go

pub returns-clause-row : goal.returns-clause-row
returns-clause-row c = row-goes
