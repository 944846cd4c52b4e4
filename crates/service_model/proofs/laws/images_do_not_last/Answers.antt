use Rattle.service_model.proofs.LastingInterfaces.{images-go}
use Rattle.service_model.proofs.laws.images_do_not_last.Goals as goal

pub returns : goal.returns
returns c = images-go
