use Rattle.service_model.proofs.UntouchedParts.{looks-spend-nothing}
use Rattle.service_model.proofs.laws.second_looks_spend_nothing.Goals as goal

pub returns : goal.returns
returns c = looks-spend-nothing
