-- What driver calls and searches leave as it was.
use Rattle.std.specs.Prelude.{◌≡◌, ◌<◌, ℕ, true, false, List, length, None, Some, slice_get}
use Rattle.std.specs.List.{list_any}
use Rattle.fw_types.specs.declared.event.Event.{Event}
use Rattle.fw_types.specs.declared.event.Outcome.{Outcome}
use Rattle.fw_types.specs.declared.limits.TheConstants.{CALL_PRICE, MOST_LEVELS}
use Rattle.std.specs.Prelude.{nat_le}
use Rattle.world_model.specs.World.{State}
use Rattle.world_model.specs.Events.{next_serial}
use Rattle.driver_model.specs.Moves.{plain}
use Rattle.driver_model.specs.Allowed.{has_sixteen}
use Rattle.driver_model.specs.DriverOrder.{order, platform_list}
use Rattle.driver_model.specs.OrderLaws.{is_each_once}
use Rattle.driver_model.specs.Connect.{found, is_marked, unmarked}
use Rattle.driver_model.specs.DriverCall.{allowance, called, commits, event_kind}
use Rattle.driver_model.specs.Levels.{below, level_over, level_with}
use Rattle.driver_model.specs.declared.binding.BindingBlock.{BindingBlock}
use Rattle.driver_model.specs.declared.call.Call.{Call}
use Rattle.driver_model.specs.declared.call.CallKind.TheVariants.{Supported}
use Rattle.driver_model.specs.declared.call.Scope.{Scope}
use Rattle.driver_model.specs.declared.request.Connection.{Connection}
use Rattle.driver_model.specs.declared.settings.Settings.{Settings}

-- ---- driver calls

abbrev pub outcome_of_call : Settings → (room : ℕ) → Scope → Call → (children : List ℕ) → State → Outcome
outcome_of_call settings room scope call children w = (called plain settings (below plain settings room) (level_with room) scope call children w).0

abbrev pub left_by_call : Settings → (room : ℕ) → Scope → Call → (children : List ℕ) → State → State
left_by_call settings room scope call children w = (called plain settings (below plain settings room) (level_with room) scope call children w).1

-- A call that does not commit leaves the soft part as it was, whatever it and all that it called did.
abbrev pub UncommittedCallsLeave : Type 0
UncommittedCallsLeave =
    (settings : Settings) (room : ℕ) (scope : Scope) (call : Call) (children : List ℕ) (w : State)
    → commits call.kind (outcome_of_call settings room scope call children w) ≡ false
    → (left_by_call settings room scope call children w).soft ≡ w.soft

-- Supported always leaves the soft part as it was.
abbrev pub SupportedLeaves : Type 0
SupportedLeaves =
    (settings : Settings) (room : ℕ) (scope : Scope) (call : Call) (children : List ℕ) (w : State) → call.kind ≡ Supported
    → (left_by_call settings room scope call children w).soft ≡ w.soft

-- the task priority level is as it was
abbrev pub CallsLeaveTpl : Type 0
CallsLeaveTpl =
    (settings : Settings) (room : ℕ) (scope : Scope) (call : Call) (children : List ℕ) (w : State)
    → (left_by_call settings room scope call children w).soft.tpl ≡ w.soft.tpl

-- the event of a call that had this outcome
abbrev pub event_of : Scope → Call → Outcome → (serial : ℕ) → Event
event_of scope call outcome serial = record {
  serial = serial;
  parent = scope.event;
  kind = event_kind call.kind;
  driver = call.driver;
  controller = call.controller;
  extra = call.extra;
  result = outcome;
}

-- After the earlier events comes the call's own event, unless the call may not spend its price. The events of what it
-- calls follow.
abbrev pub CallsHaveTheirEvent : Type 0
CallsHaveTheirEvent =
    (settings : Settings) (room : ℕ) (scope : Scope) (call : Call) (children : List ℕ) (w : State)
    → room < MOST_LEVELS → has_sixteen call.slots ≡ true → nat_le CALL_PRICE (allowance settings w) ≡ true
    → slice_get (left_by_call settings room scope call children w).hard.events (length w.hard.events)
    ≡ Some (event_of scope call (outcome_of_call settings room scope call children w) (next_serial w.hard))

-- ---- searches

-- the list that a search goes down
abbrev pub search_list : Settings → Connection → (context marked : List ℕ) → State → List BindingBlock
search_list settings c context marked w = unmarked marked (order c.controller context (platform_list settings c.controller) w.soft)

-- it has each driver once, and none that is marked
abbrev pub SearchListIsUnmarked : Type 0
SearchListIsUnmarked =
    (settings : Settings) (c : Connection) (context marked : List ℕ) (w : State)
    → (is_each_once (search_list settings c context marked w) ≡ true) × (list_any (is_marked marked) (search_list settings c context marked w) ≡ false)

-- a search that finds no driver leaves the soft part that it found
abbrev pub SearchWithoutSuccessLeaves : Type 0
SearchWithoutSuccessLeaves =
    (settings : Settings) (room : ℕ) (scope : Scope) (c : Connection) (context marked : List ℕ) (w v : State)
    → found plain settings (level_over plain settings (level_with room) (below plain settings room)) scope c context marked w ≡ (None, v) → v.soft ≡ w.soft
