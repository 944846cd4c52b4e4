use Rattle.driver_model.proofs.Enough.{found-law, search-law}
use Rattle.driver_model.proofs.Searches.{leaves-law, list-law}
use Rattle.driver_model.proofs.order_laws.searches_go_on.Goals as goal

pub returns : goal.returns
returns c =
    let leave = c.services_leave.ensures in
    record {
      list = list-law;
      leaves = leaves-law;
      costs = found-law leave.events leave.units c.second_looks_spend_nothing.ensures;
      next = search-law leave.events leave.units c.second_looks_spend_nothing.ensures;
    }
