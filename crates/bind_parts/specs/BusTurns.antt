-- The bus driver's turns, child by child: how Start and Stop go on after each child, or end.
use Rattle.std.specs.Prelude.{ℕ, List, [], ◌∷◌, ◌++◌, not, ◌||◌, Option, Some, None, option_map, Result, Ok, Err, if◌then◌else◌}
use Rattle.fw_types.specs.declared.event.Outcome.{Outcome}
use Rattle.handle_db.specs.Database.{is_live}
use Rattle.world_model.specs.World.{State}
use Rattle.world_model.specs.Boards.{rom_of}
use Rattle.world_model.specs.BusChildren.{rom_done}
use Rattle.driver_model.specs.BusChildren.{is_bus_child_full}
use Rattle.driver_model.specs.RomDrivers.{drivers_in}
use Rattle.driver_model.specs.declared.bus_driver.NewChild.{NewChild}

-- the child that is made for a function, or none at a limit
abbrev pub made_of : (controller function : ℕ) → State → Option NewChild
made_of controller function w =
    if is_bus_child_full controller function w then None else Some (record { handle = w.soft.database.next; function = function })

-- after a child of Start: the others come after it, or Start ends
abbrev pub child_or_end : Result NewChild Outcome → (List NewChild → State → Result (List NewChild) Outcome × State) → List NewChild → State
    → Result (List NewChild) Outcome × State
child_or_end (Ok child) others children w = others (children ++ child ∷ []) w
child_or_end (Err outcome) others children w = (Err outcome, w)

-- after a child of Stop: the others follow, or Stop ends
abbrev pub others_or_end : Option Outcome → (State → Outcome × State) → State → Outcome × State
others_or_end None others w = others w
others_or_end (Some outcome) others w = (outcome, w)

-- the drivers to load for a child: none if it is not live, if its function has no option ROM, or if that ROM was
-- processed
abbrev pub drivers_to_load : NewChild → State → Option (List (List ℕ))
drivers_to_load child w =
    if not (is_live child.handle w.soft.database) || rom_done child.function w.soft then None
    else option_map drivers_in (rom_of child.function w.hard)
