-- What is spent, and the events that are paid with it, at all levels.
use Rattle.std.specs.Prelude.{◌≡◌, ◌<◌, ◌+◌, ◌*◌, ◌≤◌, ℕ, Bool, true, List, None, Some, length, map, take}
use Rattle.fw_types.specs.declared.event.Event.{Event}
use Rattle.fw_types.specs.declared.limits.TheConstants.{CALL_PRICE, MOST_LEVELS}
use Rattle.ebc_machine.specs.declared.cpu.Cpu.{Cpu}
use Rattle.world_model.specs.World.{Hard, State}
use Rattle.world_model.specs.Events.{pending_outcome}
use Rattle.service_model.specs.declared.call.Reentry.{Reentry}
use Rattle.driver_model.specs.Moves.{plain}
use Rattle.driver_model.specs.Allowed.{has_sixteen}
use Rattle.driver_model.specs.Connect.{connect, found, search, started}
use Rattle.driver_model.specs.Disconnect.{disconnect}
use Rattle.driver_model.specs.GoingOn.{reentered}
use Rattle.driver_model.specs.GuestRun.{after_turn, run, turn, turns}
use Rattle.driver_model.specs.DriverCall.{called}
use Rattle.driver_model.specs.ImageLife.{image_loaded}
use Rattle.driver_model.specs.Unloading.{unloaded}
use Rattle.driver_model.specs.Levels.{below, level_over, level_with}
use Rattle.driver_model.specs.declared.binding.BindingBlock.{BindingBlock}
use Rattle.driver_model.specs.declared.call.Call.{Call}
use Rattle.driver_model.specs.declared.call.Scope.{Scope}
use Rattle.driver_model.specs.declared.request.Connection.{Connection}
use Rattle.driver_model.specs.declared.request.Disconnection.{Disconnection}
use Rattle.driver_model.specs.declared.settings.Settings.{Settings}

-- an event without its result
abbrev pub without_result : Event → Event
without_result event = record event { result = pending_outcome }

-- Units never rise. Events are only added: the earlier ones are still there, in their places, and unchanged except
-- for their results. Each event that is added is paid with the price of a driver call.
pub record Spends (old new : Hard) : Type 0 where
  pub falls : new.units ≤ old.units
  pub grows : length old.events ≤ length new.events
  pub stays : map without_result (take (length old.events) new.events) ≡ map without_result old.events
  pub paid : CALL_PRICE * length new.events + new.units ≤ CALL_PRICE * length old.events + old.units

abbrev pub CallsSpend : Type 0
CallsSpend =
    (settings : Settings) (room : ℕ) (scope : Scope) (call : Call) (children : List ℕ) (w : State) → room < MOST_LEVELS → has_sixteen call.slots ≡ true
    → Spends w.hard (called plain settings (below plain settings room) (level_with room) scope call children w).1.hard

abbrev pub RunsSpend : Type 0
RunsSpend =
    (settings : Settings) (room : ℕ) (scope : Scope) (level : ℕ) (cpu : Cpu) (w : State) → room ≤ MOST_LEVELS
    → Spends w.hard (run plain settings (below plain settings room) scope level cpu w).1.hard

abbrev pub ConnectsSpend : Type 0
ConnectsSpend =
    (settings : Settings) (room : ℕ) (scope : Scope) (c : Connection) (context : List ℕ) (w : State) → room ≤ MOST_LEVELS
    → Spends w.hard (connect plain settings (below plain settings room) scope c context w).1.hard

abbrev pub DisconnectsSpend : Type 0
DisconnectsSpend =
    (settings : Settings) (room : ℕ) (scope : Scope) (d : Disconnection) (w : State) → room ≤ MOST_LEVELS
    → Spends w.hard (disconnect plain (below plain settings room) scope d w).1.hard

abbrev pub ServicesGoingOnSpend : Type 0
ServicesGoingOnSpend =
    (settings : Settings) (room : ℕ) (scope : Scope) (reentry : Reentry) (w : State) → room ≤ MOST_LEVELS
    → Spends w.hard (reentered plain settings (below plain settings room) scope reentry w).1.hard

abbrev pub LoadsSpend : Type 0
LoadsSpend =
    (settings : Settings) (room : ℕ) (scope : Scope) (file : List ℕ) (device : ℕ) (w : State) → room < MOST_LEVELS
    → Spends w.hard (image_loaded plain (level_over plain settings (level_with room) (below plain settings room)) scope file device w).world.hard

abbrev pub UnloadsSpend : Type 0
UnloadsSpend =
    (settings : Settings) (room : ℕ) (scope : Scope) (handle : ℕ) (w : State) → room < MOST_LEVELS
    → Spends w.hard (unloaded plain (level_over plain settings (level_with room) (below plain settings room)) scope handle w).1.hard

-- ---- no run ends because turns run out, and no search because searches run out

-- a turn after which the run goes on leaves fewer units
abbrev pub GoingOnCosts : Type 0
GoingOnCosts =
    (settings : Settings) (room : ℕ) (scope : Scope) (level : ℕ) (cpu : Cpu) (w : State) → room ≤ MOST_LEVELS
    → (turn plain settings (below plain settings room) scope level cpu w).end ≡ None
    → (turn plain settings (below plain settings room) scope level cpu w).world.hard.units < w.hard.units

-- allowing more turns than units are left changes nothing
abbrev pub MoreTurnsChangeNothing : Type 0
MoreTurnsChangeNothing =
    (settings : Settings) (room : ℕ) (scope : Scope) (level fuel : ℕ) (cpu : Cpu) (w : State) → room ≤ MOST_LEVELS → w.hard.units < fuel
    → turns plain fuel settings (below plain settings room) scope level cpu w ≡ run plain settings (below plain settings room) scope level cpu w

-- a run is its first turn and the run from there
abbrev pub RunIsTurnAndRun : Type 0
RunIsTurnAndRun =
    (settings : Settings) (room : ℕ) (scope : Scope) (level : ℕ) (cpu : Cpu) (w : State) → room ≤ MOST_LEVELS
    → run plain settings (below plain settings room) scope level cpu w
    ≡ after_turn plain (run plain settings (below plain settings room) scope level) (turn plain settings (below plain settings room) scope level cpu w)

-- a driver that is found has cost its price
abbrev pub FoundCosts : Type 0
FoundCosts =
    (settings : Settings) (room : ℕ) (scope : Scope) (c : Connection) (context marked : List ℕ) (w v : State) (block : BindingBlock) → room < MOST_LEVELS
    → found plain settings (level_over plain settings (level_with room) (below plain settings room)) scope c context marked w ≡ (Some block, v)
    → v.hard.units < w.hard.units

-- a search is the first look through the order, and the search from there with the driver that was found marked
abbrev pub SearchIsLookAndSearch : Type 0
SearchIsLookAndSearch =
    (settings : Settings) (room : ℕ) (scope : Scope) (c : Connection) (context marked : List ℕ) (any : Bool) (w : State) → room < MOST_LEVELS
    → search plain settings (level_over plain settings (level_with room) (below plain settings room)) scope c context marked any w
    ≡ started plain (level_over plain settings (level_with room) (below plain settings room)) scope c
    (λ marked any w. search plain settings (level_over plain settings (level_with room) (below plain settings room)) scope c context marked any w) marked any
    (found plain settings (level_over plain settings (level_with room) (below plain settings room)) scope c context marked w)
