-- DisconnectController (UEFI 2.8, 7.3).
--
-- The rules, in their order:
--  1. ABORTED if fewer units are left than an activation costs. There is no event then (`disconnect`).
--  2. The price is paid and the event begins (`disconnect`).
--  3. OUT_OF_RESOURCES at the last level (`disconnected`).
--  4. INVALID_PARAMETER if the controller is not live, if a driver is given that has no binding, or if a child is given
--     that is not live (`is_meaningless`).
--  5. The list of drivers (`stop_list`). If it is empty, SUCCESS; if a child is given that none of them has, NOT_FOUND.
--  6. The drivers of the list take their turns (`stop_turns`). In a turn the driver's children are stopped first, then the
--     driver itself (`turn_by`, `children_stopped`, `itself_stopped`).
--  7. SUCCESS exactly if no driver failed and no driver that was stopped has a record on the controller now; otherwise
--     DEVICE_ERROR (`disconnect_concluded`).
use Rattle.std.specs.Prelude.{ℕ, Bool, true, false, ◌&&◌, ◌||◌, not, nat_eq, List, [], ◌∷◌, length, replicate, is_some, Option, Some, None, if◌then◌else◌}
use Rattle.std.specs.List.{list_any}
use Rattle.fw_types.specs.declared.attr.TheConstants.Attr.{ALL_BITS, BY_DRIVER}
use Rattle.fw_types.specs.declared.event.EventKind.TheVariants as event
use Rattle.fw_types.specs.declared.event.Outcome.{Outcome}
use Rattle.fw_types.specs.declared.status.Status.{Status}
use Rattle.fw_types.specs.declared.status.TheConstants.Status.{ABORTED, DEVICE_ERROR, INVALID_PARAMETER, NOT_FOUND, OUT_OF_RESOURCES, SUCCESS}
use Rattle.handle_db.specs.Database.{is_live, protocols_of}
use Rattle.open_records.specs.Leaving.{is_meant}
use Rattle.open_records.specs.Managing.{records_on}
use Rattle.world_model.specs.World.{Soft}
use Rattle.world_model.specs.Stacks.{list_base}
use Rattle.driver_model.specs.Moves.{Operations, closes_all, closes_child}
use Rattle.driver_model.specs.Level.{Level}
use Rattle.driver_model.specs.Bindings.{binding}
use Rattle.driver_model.specs.StopOrder.{children_of, stop_list}
use Rattle.driver_model.specs.Activations.{activation_begun, activation_ended, is_short, is_success, next_scope}
use Rattle.driver_model.specs.declared.binding.BindingBlock.{BindingBlock}
use Rattle.driver_model.specs.declared.call.Call.{Call}
use Rattle.driver_model.specs.declared.call.CallKind.TheVariants.{Stop}
use Rattle.driver_model.specs.declared.call.Scope.{Scope}
use Rattle.driver_model.specs.declared.request.Disconnection.{Disconnection}
use Rattle.driver_model.specs.declared.request.StopTurn.{StopTurn}
use Rattle.driver_model.specs.declared.request.StopTurn.TheVariants.{Passed, Failed, Stopped}

-- ---- records of an agent on a controller

abbrev pub has_record_of : (controller agent bits : ℕ) → Soft → Bool
has_record_of controller agent bits soft =
    list_any (is_meant (Some agent) None bits) (records_on soft.records.entries controller (protocols_of controller soft.database))

-- whether it manages the controller
abbrev pub manages : (controller agent : ℕ) → Soft → Bool
manages controller agent soft = has_record_of controller agent BY_DRIVER soft

-- whether it has any record there
abbrev pub has_any_record : (controller agent : ℕ) → Soft → Bool
has_any_record controller agent soft = has_record_of controller agent ALL_BITS soft

-- ---- the driver call (UEFI 2.8, 11.1: Stop)

-- where a call of a level finds its list of children: NULL if there are none
abbrev pub list_address : (level : ℕ) → (children : List ℕ) → ℕ
list_address level [] = 0
list_address level (child ∷ children) = list_base level

-- Stop: its arguments are the binding, the controller, the number of children and their list
abbrev pub stop_call : (level : ℕ) → BindingBlock → (controller : ℕ) → (children : List ℕ) → Call
stop_call level block controller children = record {
  kind = Stop;
  driver = block.handle;
  controller = controller;
  extra = length children;
  address = block.stop;
  binding = block.at;
  slots = block.at ∷ controller ∷ length children ∷ list_address level children ∷ replicate 12 0;
}

-- ---- a driver's children

-- those that are stopped: the child that is given, or all of the driver's
abbrev pub children_to_stop : (child : ℕ) → (children : List ℕ) → List ℕ
children_to_stop child [] = []
children_to_stop child (one ∷ children) = if nat_eq child 0 then one ∷ children else child ∷ []

abbrev pub is_only : (child : ℕ) → (children : List ℕ) → Bool
is_only child [] = false
is_only child (one ∷ []) = nat_eq one child
is_only child (one ∷ other ∷ children) = false

-- whether the driver has no child left once they are stopped
abbrev pub are_all : (child : ℕ) → (children : List ℕ) → Bool
are_all child children = nat_eq child 0 || is_only child children

-- whether a child is given that is not the driver's
abbrev pub is_of_another : (child : ℕ) → (children : List ℕ) → Bool
is_of_another child children = not (nat_eq child 0) && not (list_any (nat_eq child) children)

-- ---- rule 4

abbrev pub is_meaningless : Disconnection → Soft → Bool
is_meaningless d soft =
    not (is_live d.controller soft.database)
    || not (nat_eq d.driver 0 || is_some (binding d.driver soft))
    || not (nat_eq d.child 0 || is_live d.child soft.database)

-- ---- what the turns of rule 6 come to: whether a driver failed, and which drivers were stopped

abbrev pub noted : (agent : ℕ) → StopTurn → Bool × List ℕ → Bool × List ℕ
noted agent Passed so_far = so_far
noted agent Failed so_far = (true, so_far.1)
noted agent Stopped so_far = (so_far.0, agent ∷ so_far.1)

module _ {S : Type 0} (o : Operations S) where
  -- ---- rule 6, first part: the children

  -- the driver's records for these children on the controller are closed
  abbrev pub children_closed : (controller agent : ℕ) → (children : List ℕ) → S → S
  children_closed controller agent [] w = w
  children_closed controller agent (child ∷ children) w = children_closed controller agent children (o.make (closes_child controller agent child) w)

  abbrev pub after_children : (controller agent : ℕ) → (children : List ℕ) → Outcome × S → Bool × S
  after_children controller agent children r =
      if is_success r.0 then (true, children_closed controller agent children r.1) else (false, r.1)

  -- if there are any, Stop is called with them: whether the driver did not fail
  abbrev pub children_stopped : Level S → Scope → BindingBlock → (controller : ℕ) → (children : List ℕ) → S → Bool × S
  children_stopped below scope block controller [] w = (true, w)
  children_stopped below scope block controller (child ∷ children) w =
      after_children controller block.handle (child ∷ children)
      (below.call scope (stop_call below.number block controller (child ∷ children)) (child ∷ children) w)

  -- ---- rule 6, second part: the driver itself

  -- after a Stop that succeeds all its records on the controller are closed
  abbrev pub after_itself : (controller agent : ℕ) → Outcome × S → StopTurn × S
  after_itself controller agent r = if is_success r.0 then (Stopped, o.make (closes_all controller agent) r.1) else (Failed, r.1)

  abbrev pub itself_stopped : Level S → Scope → (controller : ℕ) → Option BindingBlock → S → StopTurn × S
  itself_stopped below scope controller None w = (Failed, w)
  itself_stopped below scope controller (Some block) w =
      after_itself controller block.handle (below.call scope (stop_call below.number block controller []) [] w)

  -- the driver itself is stopped only if it has no child left and the controller is live; its binding is read again
  abbrev pub then_itself : Level S → Scope → (agent : ℕ) → Disconnection → (children : List ℕ) → Bool × S → StopTurn × S
  then_itself below scope agent d children (false, w) = (Failed, w)
  then_itself below scope agent d children (true, w) =
      if are_all d.child children && is_live d.controller (o.see w).soft.database
      then itself_stopped below scope d.controller (binding agent (o.see w).soft) w
      else (Passed, w)

  -- ---- rule 6: a turn

  -- a driver with no binding failed
  abbrev pub turn_by : Level S → Scope → (agent : ℕ) → Disconnection → (children : List ℕ) → Option BindingBlock → S → StopTurn × S
  turn_by below scope agent d children None w = (Failed, w)
  turn_by below scope agent d children (Some block) w =
      then_itself below scope agent d children (children_stopped below scope block d.controller (children_to_stop d.child children) w)

  -- a driver is passed over if a child is given that is not one of its children
  abbrev pub turn_with : Level S → Scope → (agent : ℕ) → Disconnection → (children : List ℕ) → S → StopTurn × S
  turn_with below scope agent d children w =
      if is_of_another d.child children then (Passed, w)
      else turn_by below scope agent d children (binding agent (o.see w).soft) w

  -- a turn is skipped if the controller is not live or the driver does not manage it any more
  unfoldable pub stop_turn : Level S → Scope → Disconnection → (agent : ℕ) → S → StopTurn × S
  stop_turn below scope d agent w =
      if is_live d.controller (o.see w).soft.database && manages d.controller agent (o.see w).soft
      then turn_with below scope agent d (children_of d.controller (Some agent) (o.see w).soft) w
      else (Passed, w)

  -- ---- rule 6: all turns

  abbrev pub after_stop_turn : (agent : ℕ) → (Bool × List ℕ → S → (Bool × List ℕ) × S) → Bool × List ℕ → StopTurn × S → (Bool × List ℕ) × S
  after_stop_turn agent others so_far r = others (noted agent r.0 so_far) r.1

  unfoldable pub stop_turns : Level S → Scope → Disconnection → (agents : List ℕ) → Bool × List ℕ → S → (Bool × List ℕ) × S
  stop_turns below scope d [] so_far w = (so_far, w)
  stop_turns below scope d (agent ∷ agents) so_far w = after_stop_turn agent (stop_turns below scope d agents) so_far (stop_turn below scope d agent w)

  -- ---- rule 7

  abbrev pub disconnect_concluded : Disconnection → (Bool × List ℕ) × S → Status × S
  disconnect_concluded d r =
      (if r.0.0 || list_any (λ agent. has_any_record d.controller agent (o.see r.1).soft) r.0.1 then DEVICE_ERROR else SUCCESS, r.1)

  -- ---- rule 5

  abbrev pub stopped_by : Level S → Scope → Disconnection → Option (List ℕ) → S → Status × S
  stopped_by below scope d None w = (NOT_FOUND, w)
  stopped_by below scope d (Some agents) w = disconnect_concluded d (stop_turns below scope d agents (false, []) w)

  -- ---- rules 3 to 7

  unfoldable pub disconnected : Option (Level S) → Scope → Disconnection → S → Status × S
  disconnected None scope d w = (OUT_OF_RESOURCES, w)
  disconnected (Some below) scope d w =
      if is_meaningless d (o.see w).soft then (INVALID_PARAMETER, w)
      else stopped_by below scope d (stop_list d.controller d.driver d.child (o.see w).soft) w

  -- ---- all rules

  unfoldable pub disconnect : Option (Level S) → Scope → Disconnection → S → Status × S
  disconnect below scope d w =
      if is_short o w then (ABORTED, w)
      else activation_ended o (next_scope o w).event
      (disconnected below (next_scope o w) d (activation_begun o scope event.Disconnect d.driver d.controller d.child w))
