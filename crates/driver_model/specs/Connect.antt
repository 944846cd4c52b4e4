-- ConnectController (UEFI 2.8, 7.3).
--
-- The rules, in their order:
--  1. ABORTED if fewer units are left than an activation costs. There is no event then (`connect`).
--  2. The price is paid and the event begins (`connect`).
--  3. OUT_OF_RESOURCES at the last level (`connected`).
--  4. INVALID_PARAMETER if the controller is not live (`connected`).
--  5. Searches (`search`, `found`, `asked`, `started`): the order of drivers is made, and Supported of each driver in
--     it that is not marked is called, from the first on. The first driver that succeeds is marked, and its Start is
--     called. If the controller is live after that, a new search begins. The search that finds no driver is the last.
--  6. If children are asked for too and the controller is live, they are listed once, and each that is live at its turn
--     is connected at the next level, whatever the others answer (`with_children`).
--  7. SUCCESS if a Start succeeded, or if the path was an End node; otherwise NOT_FOUND (`status_of`).
use Rattle.std.specs.Prelude.{ℕ, zero, suc, Bool, true, false, ◌&&◌, ◌||◌, not, nat_eq, List, [], ◌∷◌, filter, replicate, Option, Some, None, if◌then◌else◌}
use Rattle.std.specs.List.{list_any}
use Rattle.fw_types.specs.declared.event.EventKind.TheVariants as event
use Rattle.fw_types.specs.declared.event.Outcome.{Outcome}
use Rattle.fw_types.specs.declared.status.Status.{Status}
use Rattle.fw_types.specs.declared.status.TheConstants.Status.{ABORTED, INVALID_PARAMETER, NOT_FOUND, OUT_OF_RESOURCES, SUCCESS}
use Rattle.handle_db.specs.Database.{is_live}
use Rattle.driver_model.specs.Moves.{Operations}
use Rattle.driver_model.specs.Level.{Level}
use Rattle.driver_model.specs.DriverOrder.{order, platform_list}
use Rattle.driver_model.specs.StopOrder.{children_of}
use Rattle.driver_model.specs.Activations.{activation_begun, activation_ended, is_short, is_success, next_scope}
use Rattle.driver_model.specs.declared.binding.BindingBlock.{BindingBlock}
use Rattle.driver_model.specs.declared.call.Call.{Call}
use Rattle.driver_model.specs.declared.call.CallKind.{CallKind}
use Rattle.driver_model.specs.declared.call.CallKind.TheVariants.{Supported, Start, Entry, Stop, Unload}
use Rattle.driver_model.specs.declared.call.Scope.{Scope}
use Rattle.driver_model.specs.declared.request.Connection.{Connection}
use Rattle.driver_model.specs.declared.settings.Settings.{Settings}

-- ---- the driver calls (UEFI 2.8, 11.1: Supported, Start)

-- the field of the binding that is called
abbrev pub address_in : CallKind → BindingBlock → ℕ
address_in Supported block = block.supported
address_in Start block = block.start
address_in Stop block = block.stop
address_in Entry block = 0
address_in Unload block = 0

-- Supported or Start: its arguments are the binding, the controller and the remaining path
abbrev pub driver_call : CallKind → BindingBlock → Connection → Call
driver_call kind block c = record {
  kind = kind;
  driver = block.handle;
  controller = c.controller;
  extra = 0;
  address = address_in kind block;
  binding = block.at;
  slots = block.at ∷ c.controller ∷ c.path ∷ replicate 13 0;
}

-- ---- marks of drivers that were started, whatever their Start came to

abbrev pub is_marked : (marked : List ℕ) → BindingBlock → Bool
is_marked marked block = list_any (nat_eq block.handle) marked

abbrev pub unmarked : (marked : List ℕ) → List BindingBlock → List BindingBlock
unmarked marked blocks = filter (λ block. not (is_marked marked block)) blocks

-- a child is connected with no context and no path, and its children too
abbrev pub child_connection : (controller : ℕ) → Connection
child_connection controller = record { controller = controller; path = 0; at_end = false; recursive = true }

-- the number in the event: 1 if the children are connected too
abbrev pub recursive_number : Bool → ℕ
recursive_number true = 1
recursive_number false = 0

-- ---- rule 7

abbrev pub status_of : Connection → (any : Bool) → Status
status_of c any = if any || c.at_end then SUCCESS else NOT_FOUND

module _ {S : Type 0} (o : Operations S) where
  -- ---- rule 5: a search

  -- a driver that succeeds is found; otherwise the next ones are asked
  abbrev pub after_asking : BindingBlock → (S → Option BindingBlock × S) → Outcome × S → Option BindingBlock × S
  after_asking block others r = if is_success r.0 then (Some block, r.1) else others r.1

  unfoldable pub asked : Level S → Scope → Connection → List BindingBlock → S → Option BindingBlock × S
  asked below scope c [] w = (None, w)
  asked below scope c (block ∷ blocks) w = after_asking block (asked below scope c blocks) (below.call scope (driver_call Supported block c) [] w)

  -- the order is made, and the drivers that are not marked are asked
  abbrev pub found : Settings → Level S → Scope → Connection → (context marked : List ℕ) → S → Option BindingBlock × S
  found settings below scope c context marked w =
      asked below scope c (unmarked marked (order c.controller context (platform_list settings c.controller) (o.see w).soft)) w

  -- after a Start a new search begins, while the controller is live
  abbrev pub after_start : Connection → (Bool → S → Bool × S) → (any : Bool) → Outcome × S → Bool × S
  after_start c again any r =
      if is_live c.controller (o.see r.1).soft.database then again (any || is_success r.0) r.1 else (any || is_success r.0, r.1)

  -- the driver that was found is marked, and its Start is called
  abbrev pub started : Level S → Scope → Connection → (List ℕ → Bool → S → Bool × S) → (marked : List ℕ) → (any : Bool) → Option BindingBlock × S → Bool × S
  started below scope c again marked any (None, w) = (any, w)
  started below scope c again marked any (Some block, w) =
      after_start c (again (block.handle ∷ marked)) any (below.call scope (driver_call Start block c) [] w)

  -- at most so many searches: whether a Start succeeded, and the state after them
  unfoldable pub searches : (fuel : ℕ) → Settings → Level S → Scope → Connection → (context marked : List ℕ) → (any : Bool) → S → Bool × S
  searches zero settings below scope c context marked any w = (any, w)
  searches (suc fuel) settings below scope c context marked any w =
      started below scope c (λ marked. searches fuel settings below scope c context marked) marked any (found settings below scope c context marked w)

  -- all searches: each one that finds a driver costs units, so there are at most as many searches as units left, plus
  -- one
  abbrev pub search : Settings → Level S → Scope → Connection → (context marked : List ℕ) → (any : Bool) → S → Bool × S
  search settings below scope c context marked any w = searches (suc (o.see w).hard.units) settings below scope c context marked any w

  -- ---- rule 6: the children

  abbrev pub child_visited : Level S → Scope → (child : ℕ) → S → S
  child_visited below scope child w = if is_live child (o.see w).soft.database then (below.connect scope child w).1 else w

  unfoldable pub children_visited : Level S → Scope → (children : List ℕ) → S → S
  children_visited below scope [] w = w
  children_visited below scope (child ∷ children) w = children_visited below scope children (child_visited below scope child w)

  abbrev pub with_children : Level S → Scope → Connection → S → S
  with_children below scope c w =
      if c.recursive && is_live c.controller (o.see w).soft.database
      then children_visited below scope (children_of c.controller None (o.see w).soft) w
      else w

  -- ---- rule 7, after rules 5 and 6

  abbrev pub connect_concluded : Level S → Scope → Connection → Bool × S → Status × S
  connect_concluded below scope c r = (status_of c r.0, with_children below scope c r.1)

  -- ---- rules 3 to 7

  unfoldable pub connected : Settings → Option (Level S) → Scope → Connection → (context : List ℕ) → S → Status × S
  connected settings None scope c context w = (OUT_OF_RESOURCES, w)
  connected settings (Some below) scope c context w =
      if is_live c.controller (o.see w).soft.database then connect_concluded below scope c (search settings below scope c context [] false w)
      else (INVALID_PARAMETER, w)

  -- ---- all rules

  unfoldable pub connect : Settings → Option (Level S) → Scope → Connection → (context : List ℕ) → S → Status × S
  connect settings below scope c context w =
      if is_short o w then (ABORTED, w)
      else activation_ended o (next_scope o w).event
      (connected settings below (next_scope o w) c context (activation_begun o scope event.Connect 0 c.controller (recursive_number c.recursive) w))
