-- How a command runs drivers. It is outside all events and at level 0. The driver calls that it makes are at level 1.
use Rattle.std.specs.Prelude.{◌-◌, List, ℕ, Option}
use Rattle.fw_types.specs.declared.limits.TheConstants.{MOST_LEVELS}
use Rattle.world_model.specs.World.{State}
use Rattle.driver_model.specs.Moves.{plain}
use Rattle.driver_model.specs.Level.{Level}
use Rattle.driver_model.specs.ImageLife.{Load, image_loaded}
use Rattle.driver_model.specs.Levels.{below, level_over, level_with}
use Rattle.driver_model.specs.declared.call.Scope.{Scope}
use Rattle.driver_model.specs.declared.settings.Settings.{Settings}

-- outside all events
abbrev pub outside : Scope
outside = record { event = 0 }

-- all levels, as a command sees them
abbrev pub all_levels : Settings → Option (Level State)
all_levels settings = below plain settings MOST_LEVELS

-- the first of them
abbrev pub first_level : Settings → Level State
first_level settings = level_over plain settings (level_with (MOST_LEVELS - 1)) (below plain settings (MOST_LEVELS - 1))

-- The device of an image that comes from no device.
abbrev pub no_device : ℕ
no_device = 0

-- the load by a command of the image in a file
abbrev pub loaded : Settings → (file : List ℕ) → State → Load State
loaded settings file w = image_loaded plain (first_level settings) outside file no_device w
