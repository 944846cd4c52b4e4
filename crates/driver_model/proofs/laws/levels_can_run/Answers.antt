use Rattle.driver_model.proofs.Levels.{free_stays, rest_can_run, steps_leave_stacks}
use Rattle.driver_model.proofs.laws.levels_can_run.Goals as goal

pub returns : goal.returns
returns c = record { rest = rest_can_run; free = free_stays; steps = steps_leave_stacks }
