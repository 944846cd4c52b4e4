use Rattle.driver_model.proofs.Calls.{events-law, supported-law, tpl-law, uncommitted-law}
use Rattle.driver_model.proofs.call_laws.calls_leave.Goals as goal

pub returns : goal.returns
returns c =
    let leave = c.services_leave.ensures in
    record {
      uncommitted = uncommitted-law;
      supported = supported-law;
      tpl = tpl-law;
      event = events-law leave.events leave.units c.second_looks_spend_nothing.ensures;
    }
