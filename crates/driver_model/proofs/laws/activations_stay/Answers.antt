use Rattle.driver_model.proofs.Levels.{connects_stay, disconnects_stay, many_uninstalls_stay, removals_stay, services_going_on_stay, uninstalls_stay}
use Rattle.driver_model.proofs.laws.activations_stay.Goals as goal

pub returns : goal.returns
returns c = record {
  connects = connects_stay;
  disconnects = disconnects_stay;
  removals = removals_stay;
  uninstalls = uninstalls_stay;
  many_uninstalls = many_uninstalls_stay;
  services = services_going_on_stay;
}
