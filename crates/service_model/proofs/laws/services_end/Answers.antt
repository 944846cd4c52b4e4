use Rattle.service_model.proofs.ChangeAnswers.{others-end}
use Rattle.service_model.proofs.laws.services_end.Goals as goal

pub returns : goal.returns
returns c = others-end
