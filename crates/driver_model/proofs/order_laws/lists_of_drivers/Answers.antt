use Rattle.driver_model.proofs.Bindings.{rise-law}
use Rattle.driver_model.proofs.FirstPlaces.{more-law}
use Rattle.driver_model.proofs.VersionOrder.{falling-law}
use Rattle.driver_model.proofs.order_laws.lists_of_drivers.Goals as goal

pub returns : goal.returns
returns c = record { handles = rise-law; versions = falling-law; first_places = more-law }
