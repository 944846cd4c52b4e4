-- Events: whatever is done may add some, and takes none away.
use Rattle.std.specs.Prelude.{◌≤◌, length}
use Rattle.world_model.specs.World.{State}

-- there are at least as many events after as before
abbrev pub NoFewerEvents : (before after : State) → Type 0
NoFewerEvents before after = length before.hard.events ≤ length after.hard.events
