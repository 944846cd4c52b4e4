use Rattle.driver_model.proofs.Chains.{calls_are_chains, connects_are_chains, disconnects_are_chains, loads_are_chains, runs_are_chains, unloads_are_chains}
use Rattle.driver_model.proofs.call_laws.all_are_chains.Goals as goal

pub returns : goal.returns
returns c = record {
  calls = calls_are_chains;
  runs = runs_are_chains;
  connects = connects_are_chains;
  disconnects = disconnects_are_chains;
  loads = loads_are_chains;
  unloads = unloads_are_chains;
}
