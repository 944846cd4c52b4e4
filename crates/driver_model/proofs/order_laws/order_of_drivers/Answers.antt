use Rattle.driver_model.proofs.Orders.{binding-law, every-law, falls-law, once-law, others-law}
use Rattle.driver_model.proofs.order_laws.order_of_drivers.Goals as goal

pub returns : goal.returns
returns c = record { once = once-law; bindings = binding-law; every = every-law; others = others-law; versions = falls-law }
