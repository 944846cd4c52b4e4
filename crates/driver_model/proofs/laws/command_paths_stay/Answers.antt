use Rattle.driver_model.proofs.CommandPaths.{no_path_stays, path_stays_alone}
use Rattle.driver_model.proofs.laws.command_paths_stay.Goals as goal

pub returns : goal.returns
returns c = record { none = no_path_stays; alone = path_stays_alone }
