use Rattle.driver_model.proofs.Enough.{costs-law, more-law, run-law}
use Rattle.driver_model.proofs.fuel_laws.runs_go_on.Goals as goal

pub returns : goal.returns
returns c = record {
  costs = costs-law c.services_leave.ensures.events c.services_leave.ensures.units c.second_looks_spend_nothing.ensures;
  more = more-law c.services_leave.ensures.events c.services_leave.ensures.units c.second_looks_spend_nothing.ensures;
  next = run-law c.services_leave.ensures.events c.services_leave.ensures.units c.second_looks_spend_nothing.ensures;
}
