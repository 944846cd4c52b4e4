use Rattle.driver_model.proofs.Levels.{calls_stay, runs_stay, thunks_stay, turns_stay}
use Rattle.driver_model.proofs.laws.calls_and_runs_stay.Goals as goal

pub returns : goal.returns
returns c = record { calls = calls_stay; thunks = thunks_stay; runs = runs_stay; turns = turns_stay }
