use Rattle.driver_model.proofs.SpendingLevels.{calls_spend, connects_spend, disconnects_spend, loads_spend, runs_spend, services_going_on_spend}
use Rattle.driver_model.proofs.call_laws.all_is_paid.Goals as goal

pub returns : goal.returns
returns c =
    let looks = c.second_looks_spend_nothing.ensures in
    record {
      calls = calls_spend looks;
      runs = runs_spend looks;
      connects = connects_spend looks;
      disconnects = disconnects_spend looks;
      services = services_going_on_spend looks;
      loads = loads_spend looks;
    }
