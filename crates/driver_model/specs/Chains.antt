-- All that a run, a driver call, an activation, a load or an unload changes, one move after the other. Each move can be
-- made at the point at which it is made, and moves that belong in pairs come in pairs. So the bytes of memory change
-- only by steps, services, second looks, the addresses of thunks, stacks and images.
use Rattle.std.specs.Prelude.{◌≡◌, ◌<◌, ◌≤◌, ℕ, suc, true, false, nat_lt, List}
use Rattle.fw_types.specs.declared.event.EventKind.{EventKind}
use Rattle.fw_types.specs.declared.limits.TheConstants.{CALL_PRICE, MOST_LEVELS}
use Rattle.ebc_machine.specs.declared.cpu.Cpu.{Cpu}
use Rattle.world_model.specs.World.{State}
use Rattle.world_model.specs.Units.{units_aside}
use Rattle.driver_model.specs.Moves.{Move, begins_event, caps, changed, pays, plain, pops, pushes, puts_back, returns}
use Rattle.driver_model.specs.Allowed.{has_sixteen, is_allowed}
use Rattle.driver_model.specs.Connect.{connect}
use Rattle.driver_model.specs.Disconnect.{disconnect}
use Rattle.driver_model.specs.GuestRun.{run}
use Rattle.driver_model.specs.DriverCall.{called}
use Rattle.driver_model.specs.ImageLife.{image_loaded}
use Rattle.driver_model.specs.Unloading.{unloaded}
use Rattle.driver_model.specs.Levels.{below, level_over, level_with}
use Rattle.driver_model.specs.declared.call.Call.{Call}
use Rattle.driver_model.specs.declared.call.Scope.{Scope}
use Rattle.driver_model.specs.declared.request.Connection.{Connection}
use Rattle.driver_model.specs.declared.request.Disconnection.{Disconnection}
use Rattle.driver_model.specs.declared.settings.Settings.{Settings}

-- from a first state to a last one
pub data Chain : State → State → Type 0 where
  none : (w : State) → Chain w w
  joined : (first next last : State) → Chain first next → Chain next last → Chain first last
  -- a move that can be made by itself
  moves : (move : Move) (w : State) → is_allowed move w ≡ true → Chain w (changed move w)
  -- an event that is paid
  begins : (parent : ℕ) (kind : EventKind) (driver controller extra : ℕ) (w : State) → nat_lt w.hard.units CALL_PRICE ≡ false
      → Chain w (changed (begins_event parent kind driver controller extra) (changed (pays CALL_PRICE) w))
  -- a part of the units is set aside for a while
  sets_aside : (most : ℕ) (w last : State) → Chain (changed (caps most) w) last → Chain w (changed (returns (units_aside most w.hard)) last)
  -- a stack of a level is there for a while
  on_stack : (level : ℕ) (slots children : List ℕ) (w last : State) → level < MOST_LEVELS → has_sixteen slots ≡ true
      → Chain (changed (pushes (suc level) slots children) w) last → Chain w (changed (pops (suc level)) last)
  -- the soft part is as it was before
  undoes : (w last : State) → Chain w last → Chain w (changed (puts_back w.soft) last)

abbrev pub CallsAreChains : Type 0
CallsAreChains =
    (settings : Settings) (room : ℕ) (scope : Scope) (call : Call) (children : List ℕ) (w : State) → room < MOST_LEVELS → has_sixteen call.slots ≡ true
    → Chain w (called plain settings (below plain settings room) (level_with room) scope call children w).1

abbrev pub RunsAreChains : Type 0
RunsAreChains =
    (settings : Settings) (room : ℕ) (scope : Scope) (level : ℕ) (cpu : Cpu) (w : State) → room ≤ MOST_LEVELS
    → Chain w (run plain settings (below plain settings room) scope level cpu w).1

abbrev pub ConnectsAreChains : Type 0
ConnectsAreChains =
    (settings : Settings) (room : ℕ) (scope : Scope) (c : Connection) (context : List ℕ) (w : State) → room ≤ MOST_LEVELS
    → Chain w (connect plain settings (below plain settings room) scope c context w).1

abbrev pub DisconnectsAreChains : Type 0
DisconnectsAreChains =
    (settings : Settings) (room : ℕ) (scope : Scope) (d : Disconnection) (w : State) → room ≤ MOST_LEVELS
    → Chain w (disconnect plain (below plain settings room) scope d w).1

abbrev pub LoadsAreChains : Type 0
LoadsAreChains =
    (settings : Settings) (room : ℕ) (scope : Scope) (file : List ℕ) (device : ℕ) (w : State) → room < MOST_LEVELS
    → Chain w (image_loaded plain (level_over plain settings (level_with room) (below plain settings room)) scope file device w).world

abbrev pub UnloadsAreChains : Type 0
UnloadsAreChains =
    (settings : Settings) (room : ℕ) (scope : Scope) (handle : ℕ) (w : State) → room < MOST_LEVELS
    → Chain w (unloaded plain (level_over plain settings (level_with room) (below plain settings room)) scope handle w).1
