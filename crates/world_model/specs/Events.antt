-- The events of a command, which count from 1 in order of beginning. None is ever undone.
use Rattle.std.specs.Prelude.{ℕ, ◌+◌, Bool, true, ◌&&◌, nat_eq, List, [], ◌∷◌, ◌++◌, length, map, if◌then◌else◌}
use Rattle.fw_types.specs.declared.event.Event.{Event}
use Rattle.fw_types.specs.declared.event.EventKind.{EventKind}
use Rattle.fw_types.specs.declared.event.Outcome.{Outcome}
use Rattle.fw_types.specs.declared.event.Outcome.TheVariants.{Value}
use Rattle.world_model.specs.World.{Hard}

-- a command begins with its units and no event
abbrev pub command_begun : ℕ → Hard → Hard
command_begun units hard = record hard { units = units; events = [] }

-- the number of the next event
abbrev pub next_serial : Hard → ℕ
next_serial hard = length hard.events + 1

-- the result of an event that has not ended: the status SUCCESS
abbrev pub pending_outcome : Outcome
pending_outcome = Value (record { 0 = 0 })

-- one more event, which has not ended
abbrev pub event_begun : ℕ → EventKind → ℕ → ℕ → ℕ → Hard → Hard
event_begun parent kind driver controller extra hard = record hard {
  events = hard.events ++ record {
    serial = next_serial hard;
    parent = parent;
    kind = kind;
    driver = driver;
    controller = controller;
    extra = extra;
    result = pending_outcome;
  } ∷ [];
}

abbrev pub with_result : ℕ → Outcome → Event → Event
with_result serial outcome event = if nat_eq event.serial serial then record event { result = outcome } else event

-- the event with a serial number ends with this outcome
abbrev pub event_ended : ℕ → Outcome → Hard → Hard
event_ended serial outcome hard = record hard { events = map (with_result serial outcome) hard.events }

-- the events are taken away
abbrev pub events_taken : Hard → Hard
events_taken hard = record hard { events = [] }

-- whether events have the serial numbers from one on, in order
abbrev pub are_numbered : ℕ → List Event → Bool
are_numbered serial [] = true
are_numbered serial (event ∷ events) = nat_eq event.serial serial && are_numbered (serial + 1) events
