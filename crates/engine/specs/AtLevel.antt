-- The levels, as the code sees them: over the state alone, and each by its room, which is how many levels are below it.
use Rattle.std.specs.Prelude.{ℕ, Option}
use Rattle.world_model.specs.World.{State}
use Rattle.driver_model.specs.Moves.{plain}
use Rattle.driver_model.specs.Level.{Level}
use Rattle.driver_model.specs.Levels.{below, level_over, level_with}
use Rattle.driver_model.specs.declared.settings.Settings.{Settings}

-- the level with this room
abbrev pub level_at : Settings → (room : ℕ) → Level State
level_at settings room = level_over plain settings (level_with room) (below plain settings room)

-- the level below it, if there is one
abbrev pub level_below : Settings → (room : ℕ) → Option (Level State)
level_below settings room = below plain settings room
