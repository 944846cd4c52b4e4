-- The driver-model machine, which is handed from command to command.
use Rattle.std.specs.Prelude.{◌≡◌, ℕ, Bool, true, ◌&&◌}
use Rattle.fw_types.specs.Commands.{is_between}
use Rattle.fw_types.specs.declared.limits.TheConstants.{LEAST_CALL_BUDGET, LEAST_COMMAND_BUDGET, MOST_BUDGET}
use Rattle.world_model.specs.World.{State, WorldView}
use Rattle.world_model.specs.Levels.{IsAtRest}
use Rattle.world_model.specs.CommandPath.{has_no_path}
use Rattle.driver_model.specs.declared.settings.Settings.{Settings}

-- what commands change: the state of the world, what was set for drivers, and the units of a command
pub record MachineView : Type 0 where
  pub world : State
  pub settings : Settings
  pub command_budget : ℕ

-- between commands no mark is open, there is no stack, and no path of a command is mapped
pub record IsIdle (w : WorldView) : Type 0 where
  pub rest : IsAtRest w
  pub no_path : has_no_path w.now.soft.memory ≡ true

-- whether the budgets are between the least and the most
abbrev pub are_budgets_legal : (command call : ℕ) → Bool
are_budgets_legal command call = is_between LEAST_COMMAND_BUDGET MOST_BUDGET command && is_between LEAST_CALL_BUDGET MOST_BUDGET call
