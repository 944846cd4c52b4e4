-- Levels: each asks the next one, and there are 32 of them.
use Rattle.std.specs.Prelude.{ℕ, zero, suc, ◌-◌, [], Option, Some, None}
use Rattle.fw_types.specs.declared.limits.TheConstants.{MOST_LEVELS}
use Rattle.driver_model.specs.Moves.{Operations}
use Rattle.driver_model.specs.Level.{Level}
use Rattle.driver_model.specs.Connect.{child_connection, connect}
use Rattle.driver_model.specs.DriverCall.{called, thunk_ran}
use Rattle.driver_model.specs.declared.settings.Settings.{Settings}

-- the level that has so many levels below it
abbrev pub level_with : (room : ℕ) → ℕ
level_with room = MOST_LEVELS - room

module _ {S : Type 0} (o : Operations S) where
  -- a level, by what is below it
  abbrev pub level_over : Settings → (level : ℕ) → Option (Level S) → Level S
  level_over settings level below = record {
    number = level;
    call = called o settings below level;
    connect = λ scope controller w. connect o settings below scope (child_connection controller) [] w;
    thunk = thunk_ran o settings below level;
  }

  -- the next level, if so many levels are left
  unfoldable pub below : Settings → (room : ℕ) → Option (Level S)
  below settings zero = None
  below settings (suc room) = Some (level_over settings (level_with room) (below settings room))
