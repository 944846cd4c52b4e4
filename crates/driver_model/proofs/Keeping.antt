-- Every activation, driver call and run keeps what each single move keeps, at all levels.
use Rattle.std.proofs.Common.{◌≡◌, ◌<◌, subst, ℕ, zero, suc, Bool, true, false, ◌&&◌, ◌||◌, not, nat_eq, nat_lt, List, [], ◌∷◌, Option, Some, None, refl}
use Rattle.std.specs.Prelude.{Result, Ok, Err, is_ok, is_some, ok_or, if◌then◌else◌}
use Rattle.std.specs.List.{list_all}
use Rattle.std.proofs.lemmas.Bool.{and_from, and_parts, or_right}
use Rattle.fw_types.specs.declared.event.Cause.{Cause}
use Rattle.fw_types.specs.declared.event.Cause.TheVariants.{Align, Fetch, Memory}
use Rattle.fw_types.specs.declared.event.EventKind.{EventKind}
use Rattle.fw_types.specs.declared.event.EventKind.TheVariants as event
use Rattle.fw_types.specs.declared.event.Outcome.{Outcome}
use Rattle.fw_types.specs.declared.limits.TheConstants.{CALL_PRICE, MOST_LEVELS}
use Rattle.fw_types.specs.declared.status.Status.{Status}
use Rattle.fw_types.specs.declared.status.TheConstants.Status.{ABORTED, SUCCESS}
use Rattle.guest_memory.specs.GuestMemory.{is_writable_range, number_of}
use Rattle.guest_memory.specs.declared.address_map.TheConstants.{EXIT}
use Rattle.handle_db.specs.Database.{is_live}
use Rattle.open_records.specs.declared.open_record.Rec.{Rec}
use Rattle.ebc_machine.specs.Operands.{◌>>=◌}
use Rattle.ebc_machine.specs.Step.{stepped}
use Rattle.ebc_machine.specs.declared.cpu.Cpu.{Cpu}
use Rattle.ebc_machine.specs.declared.cpu.StepOut.{StepOut}
use Rattle.ebc_machine.specs.declared.cpu.StepOut.TheVariants.{Next, Native, MakeThunk, Done, Trap}
use Rattle.service_thunks.specs.declared.service.Service.{Service}
use Rattle.world_model.specs.declared.fault.WorldFault.{WorldFault}
use Rattle.world_model.specs.World.{Soft, State}
use Rattle.world_model.specs.Interfaces.{firmware}
use Rattle.world_model.specs.Images.{image_at}
use Rattle.world_model.specs.Thunks.{thunk_answer}
use Rattle.world_model.specs.Units.{units_aside}
use Rattle.service_model.specs.Allowed.{is_of_image}
use Rattle.service_model.specs.BootServices.{served}
use Rattle.service_model.specs.declared.call.HandleInterface.{HandleInterface}
use Rattle.service_model.specs.declared.call.Reentry.{Reentry}
use Rattle.service_model.specs.declared.call.Reentry.TheVariants.{Connect, Disconnect, Remove, Uninstall, UninstallMany}
use Rattle.service_model.specs.declared.call.Removal.{Removal}
use Rattle.service_model.specs.declared.call.Served.{Served}
use Rattle.service_model.specs.declared.call.Served.TheVariants as served_as
use Rattle.driver_model.specs.Moves.{Move, Operations, changed, pays, caps, returns, begins_event, steps, serves, looks_again, makes_thunk, pushes, pops, puts_back, closes_all, closes_child, drops_weak, uninstalls}
use Rattle.driver_model.specs.Allowed.{has_lasting_interfaces, has_sixteen, is_allowed, is_allowed_in_calls, is_unload, may_go}
use Rattle.driver_model.specs.Level.{Level}
use Rattle.driver_model.specs.Turn.{Turn}
use Rattle.driver_model.specs.StopOrder.{children_of}
use Rattle.driver_model.specs.Activations.{activation_begun, activation_ended, is_short, is_success, next_scope}
use Rattle.driver_model.specs.Connect.{asked, child_connection, child_visited, children_visited, connect, connected, driver_call, found, recursive_number, searches, started, with_children}
use Rattle.driver_model.specs.Disconnect.{after_children, after_itself, are_all, children_closed, children_stopped, children_to_stop, disconnect, disconnected, is_meaningless, is_of_another, itself_stopped, manages, stop_call, stop_turn, stop_turns, stopped_by, then_itself, turn_by}
use Rattle.driver_model.specs.OpenWithRemoval.{after_removal, is_passed_on, removed}
use Rattle.driver_model.specs.UninstallWithReconnection.{after_release, all_or_none, each_uninstalled, interface_on, is_first_there, is_kept_from, is_still_there, manager_on, many_uninstalled, records_on, released, taken_away, uninstalled, unless_open}
use Rattle.driver_model.specs.GoingOn.{gone_on, reentered}
use Rattle.driver_model.specs.ThunkRequests.{◌>>◌, entry_from, is_even, must, requested_entry, thunk_by, thunk_for}
use Rattle.driver_model.specs.NativeCalls.{callee, caller, native_called, passed_slots, returned, service_called, thunk_entered, thunk_returned}
use Rattle.driver_model.specs.GuestRun.{acted, after_step, run, turn, turns, unless_over}
use Rattle.driver_model.specs.DriverCall.{called}
use Rattle.driver_model.specs.declared.binding.BindingBlock.{BindingBlock}
use Rattle.driver_model.specs.declared.call.Call.{Call}
use Rattle.driver_model.specs.declared.call.CallKind.TheVariants.{Supported, Start}
use Rattle.driver_model.specs.declared.call.Callee.{Callee}
use Rattle.driver_model.specs.declared.call.Callee.TheVariants.{AService, AThunk, Nothing}
use Rattle.driver_model.specs.declared.call.RunEnd.{RunEnd}
use Rattle.driver_model.specs.declared.call.RunEnd.TheVariants.{Over, Returned}
use Rattle.driver_model.specs.declared.call.Scope.{Scope}
use Rattle.driver_model.specs.declared.request.Connection.{Connection}
use Rattle.driver_model.specs.declared.request.Disconnection.{Disconnection}
use Rattle.driver_model.specs.declared.request.StopTurn.{StopTurn}
use Rattle.driver_model.specs.declared.request.Remover.{Remover}
use Rattle.driver_model.specs.declared.request.Remover.TheVariants.{TheFirmware, ADriver}
use Rattle.driver_model.specs.declared.settings.Settings.{Settings}

-- A relation between a machine and a later one, at a level, that each move keeps if it can be made. The
-- lists of children are those that `is_listable` accepts; by `few`, the children that are stopped may be
-- taken to be such a list.
pub record KeepsMoves {S : Type 0} (o : Operations S) (is_listable : List ℕ → Bool) (R : (level : ℕ) → S → S → Type 0) : Type 0 where
  -- a move is seen as a change
  pub sees : (move : Move) (w : S) → o.see (o.make move w) ≡ changed move (o.see w)
  pub same : (level : ℕ) (w : S) → R level w w
  pub joined : (level : ℕ) (a b c : S) → R level a b → R level b c → R level a c
  pub moves : (level : ℕ) (move : Move) (w : S) → is_allowed_in_calls move (o.see w) ≡ true → R level w (o.make move w)
  -- an event that is paid
  pub begins : (level parent : ℕ) (kind : EventKind) (driver controller extra : ℕ) (w : S) → nat_lt (o.see w).hard.units CALL_PRICE ≡ false
      → R level w (o.make (begins_event parent kind driver controller extra) (o.make (pays CALL_PRICE) w))
  -- a part of the units is set aside for a while
  pub capped : (level most : ℕ) (w v : S) → R level (o.make (caps most) w) v → R level w (o.make (returns (units_aside most (o.see w).hard)) v)
  -- a stack of the next level is there for a while
  pub stacked : (level : ℕ) (slots children : List ℕ) (w v : S) → level < MOST_LEVELS → has_sixteen slots ≡ true → is_listable children ≡ true
      → R (suc level) (o.make (pushes (suc level) slots children) w) v → R level w (o.make (pops (suc level)) v)
  -- the empty list is allowed, and so are the children that a Stop is given
  pub childless : is_listable [] ≡ true
  pub few : (level controller agent child : ℕ) (w v : S) → (is_listable (children_to_stop child (children_of controller (Some agent) (o.see w).soft)) ≡ true → R level w v) → R level w v
  -- what holds at a level holds at those before it
  pub deeper : (level : ℕ) (w v : S) → R (suc level) w v → R level w v
  pub undone : (level : ℕ) (w v : S) → R level w v → R level w (o.make (puts_back (o.see w).soft) v)

-- each move that can be made keeps it, even one that drops an image
abbrev pub KeepsEachMove : {S : Type 0} → Operations S → ((level : ℕ) → S → S → Type 0) → Type 0
KeepsEachMove {S} o R = (level : ℕ) (move : Move) (w : S) → is_allowed move (o.see w) ≡ true → R level w (o.make move w)

-- what calls can do can be done
pub allowed_in_calls : (move : Move) (w : State) → is_allowed_in_calls move w ≡ true → is_allowed move w ≡ true
allowed_in_calls move w is = (and_parts (not (is_unload move)) (is_allowed move w) is).1

-- all that is asked of the next level keeps it
pub record Keeps {S : Type 0} (is_listable : List ℕ → Bool) (R : (level : ℕ) → S → S → Type 0) (level : ℕ) (l : Level S) : Type 0 where
  pub call : (scope : Scope) (call : Call) (children : List ℕ) (w : S) → has_sixteen call.slots ≡ true → is_listable children ≡ true → R level w (l.call scope call children w).1
  pub connect : (scope : Scope) (controller : ℕ) (w : S) → R (suc level) w (l.connect scope controller w).1
  pub thunk : (scope : Scope) (entry : ℕ) (slots : List ℕ) (w : S) → has_sixteen slots ≡ true → R level w (l.thunk scope entry slots w).1

abbrev pub KeepsBelow : {S : Type 0} → (List ℕ → Bool) → ((level : ℕ) → S → S → Type 0) → (level : ℕ) → Option (Level S) → Type 0
KeepsBelow is_listable R level None = Unit {0}
KeepsBelow is_listable R level (Some l) = Keeps is_listable R level l

pub choose : {A : Type 0} (P : A → Type 0) (b : Bool) (x y : A) → P x → P y → P (if b then x else y)
choose P true x y h k = h
choose P false x y h k = k

-- with the test as evidence
pub choose_by : {A : Type 0} (P : A → Type 0) (b : Bool) (x y : A) → (b ≡ true → P x) → (b ≡ false → P y) → P (if b then x else y)
choose_by P true x y h k = h refl
choose_by P false x y h k = k refl

-- a thunk that is wanted can be stored, and enters an image
wanted-tests : (e entry : ℕ) (soft : Soft) (even there : Bool) → is_some (image_at e soft) ≡ there
    → (must even Align >> (must there Fetch >> Ok e)) ≡ Ok entry → is_some (image_at entry soft) ≡ true
wanted-tests e entry soft true true is same = let one : e ≡ entry = cc in subst (λ (e : ℕ). is_some (image_at e soft) ≡ true) one is
wanted-tests e entry soft true false is same = absurd cc
wanted-tests e entry soft false there is same = absurd cc

wanted-by : (place entry : ℕ) (soft : Soft) (found : Option ℕ) (writable : Bool)
    → (ok_or found Memory >>= λ number. must writable Memory
    >> (must (is_even (entry_from place number)) Align >> (must (is_some (image_at (entry_from place number) soft)) Fetch >> Ok (entry_from place number)))) ≡ Ok entry
    → (writable ≡ true) × (is_some (image_at entry soft) ≡ true)
wanted-by place entry soft None writable same = absurd cc
wanted-by place entry soft (Some number) false same = absurd cc
wanted-by place entry soft (Some number) true same =
    (refl, wanted-tests (entry_from place number) entry soft (is_even (entry_from place number)) (is_some (image_at (entry_from place number) soft)) refl same)

can_make : (place entry at : ℕ) (w : State) → requested_entry place w.soft ≡ Ok entry → thunk_answer w.soft ≡ Ok at → is_allowed (makes_thunk place entry at) w ≡ true
can_make place entry at w wants is =
    let both = wanted-by place entry w.soft (number_of w.soft.memory place 4) (is_writable_range w.soft.memory place 8) wants in
    let room : is_ok (thunk_answer w.soft) ≡ true = rw is refl in
    and_from (is_writable_range w.soft.memory place 8) (is_some (image_at entry w.soft) && is_ok (thunk_answer w.soft)) both.0
    (and_from (is_some (image_at entry w.soft)) (is_ok (thunk_answer w.soft)) both.1 room)

or_true : (b : Bool) → (b || true) ≡ true
or_true true = refl
or_true false = refl

module _ {S : Type 0} (o : Operations S) (is_listable : List ℕ → Bool) (R : (level : ℕ) → S → S → Type 0) (kept : KeepsMoves o is_listable R) (settings : Settings) where
  -- ---- activations

  begun_keeps : (level : ℕ) (scope : Scope) (kind : EventKind) (d c e : ℕ) (w : S) → nat_lt (o.see w).hard.units CALL_PRICE ≡ false
      → R level w (activation_begun o scope kind d c e w)
  begun_keeps level scope kind d c e w enough = kept.begins level scope.event kind d c e w enough

  -- an activation, whatever is done in it
  activated : (level : ℕ) (scope : Scope) (kind : EventKind) (d c e : ℕ) (inner : S → Status × S) (w : S) (short : Bool) → nat_lt (o.see w).hard.units CALL_PRICE ≡ short
      → ((v : S) → R level v (inner v).1)
      → R level w (if short then (ABORTED, w) else activation_ended o (next_scope o w).event (inner (activation_begun o scope kind d c e w))).1
  activated level scope kind d c e inner w true is keeps = kept.same level w
  activated level scope kind d c e inner w false is keeps =
      kept.joined level _ _ _ (kept.joined level _ _ _ (begun_keeps level scope kind d c e w is) (keeps _)) (kept.moves level _ _ refl)

  -- ---- connect

  asked_keeps : (level : ℕ) (l : Level S) → Keeps is_listable R level l → (scope : Scope) (c : Connection) (blocks : List BindingBlock) (w : S) → R level w (asked o l scope c blocks w).1
  unfolding asked
  asked_keeps level l k scope c [] w = kept.same level w
  asked_keeps level l k scope c (block ∷ blocks) w =
      choose (λ (r : Option BindingBlock × S). R level w r.1) (is_success (l.call scope (driver_call Supported block c) [] w).0) _ _
      (k.call scope (driver_call Supported block c) [] w refl kept.childless)
      (kept.joined level _ _ _ (k.call scope (driver_call Supported block c) [] w refl kept.childless) (asked_keeps level l k scope c blocks _))

  started_keeps : (level : ℕ) (l : Level S) → Keeps is_listable R level l → (scope : Scope) (c : Connection) (again : List ℕ → Bool → S → Bool × S)
      → ((marked : List ℕ) (any : Bool) (w : S) → R level w (again marked any w).1)
      → (marked : List ℕ) (any : Bool) (found : Option BindingBlock) (w : S) → R level w (started o l scope c again marked any (found, w)).1
  started_keeps level l k scope c again goes marked any None w = kept.same level w
  started_keeps level l k scope c again goes marked any (Some block) w =
      choose (λ (r : Bool × S). R level w r.1) (is_live c.controller (o.see (l.call scope (driver_call Start block c) [] w).1).soft.database) _ _
      (kept.joined level _ _ _ (k.call scope (driver_call Start block c) [] w refl kept.childless) (goes _ _ _))
      (k.call scope (driver_call Start block c) [] w refl kept.childless)

  found_keeps : (level : ℕ) (l : Level S) → Keeps is_listable R level l → (scope : Scope) (c : Connection) (context marked : List ℕ) (w : S) → R level w (found o settings l scope c context marked w).1
  found_keeps level l k scope c context marked w = asked_keeps level l k scope c _ w

  searches_keeps : (level : ℕ) (l : Level S) → Keeps is_listable R level l → (fuel : ℕ) (scope : Scope) (c : Connection) (context marked : List ℕ) (any : Bool) (w : S)
      → R level w (searches o fuel settings l scope c context marked any w).1
  unfolding searches
  searches_keeps level l k zero scope c context marked any w = kept.same level w
  searches_keeps level l k (suc fuel) scope c context marked any w =
      kept.joined level _ _ _ (found_keeps level l k scope c context marked w)
      (started_keeps level l k scope c (λ marked. searches o fuel settings l scope c context marked)
      (λ marked any w. searches_keeps level l k fuel scope c context marked any w) marked any (found o settings l scope c context marked w).0 (found o settings l scope c context marked w).1)

  child_keeps : (level : ℕ) (l : Level S) → Keeps is_listable R level l → (scope : Scope) (child : ℕ) (w : S) → R level w (child_visited o l scope child w)
  child_keeps level l k scope child w =
      choose (λ (v : S). R level w v) (is_live child (o.see w).soft.database) _ _ (kept.deeper level _ _ (k.connect scope child w)) (kept.same level w)

  visited_keeps : (level : ℕ) (l : Level S) → Keeps is_listable R level l → (scope : Scope) (children : List ℕ) (w : S) → R level w (children_visited o l scope children w)
  unfolding children_visited
  visited_keeps level l k scope [] w = kept.same level w
  visited_keeps level l k scope (child ∷ children) w = kept.joined level _ _ _ (child_keeps level l k scope child w) (visited_keeps level l k scope children _)

  concluded_keeps : (level : ℕ) (l : Level S) → Keeps is_listable R level l → (scope : Scope) (c : Connection) (w : S) → R level w (with_children o l scope c w)
  concluded_keeps level l k scope c w =
      choose (λ (v : S). R level w v) (c.recursive && is_live c.controller (o.see w).soft.database) _ _ (visited_keeps level l k scope _ w) (kept.same level w)

  connected_keeps : (level : ℕ) (b : Option (Level S)) → KeepsBelow is_listable R level b → (scope : Scope) (c : Connection) (context : List ℕ) (w : S) → R level w (connected o settings b scope c context w).1
  unfolding connected
  connected_keeps level None k scope c context w = kept.same level w
  connected_keeps level (Some l) k scope c context w =
      choose (λ (r : Status × S). R level w r.1) (is_live c.controller (o.see w).soft.database) _ _
      (kept.joined level _ _ _ (searches_keeps level l k (suc (o.see w).hard.units) scope c context [] false w) (concluded_keeps level l k scope c _))
      (kept.same level w)

  pub connect_keeps : (level : ℕ) (b : Option (Level S)) → KeepsBelow is_listable R level b → (scope : Scope) (c : Connection) (context : List ℕ) (w : S) → R level w (connect o settings b scope c context w).1
  unfolding connect
  connect_keeps level b k scope c context w =
      activated level scope event.Connect 0 c.controller (recursive_number c.recursive) (λ v. connected o settings b (next_scope o w) c context v) w (is_short o w) refl
      (λ v. connected_keeps level b k (next_scope o w) c context v)

  -- ---- disconnect

  closed_keeps : (level controller agent : ℕ) (children : List ℕ) (w : S) → R level w (children_closed o controller agent children w)
  closed_keeps level controller agent [] w = kept.same level w
  closed_keeps level controller agent (child ∷ children) w =
      kept.joined level _ _ _ (kept.moves level (closes_child controller agent child) w refl) (closed_keeps level controller agent children _)

  after_children_keeps : (level controller agent : ℕ) (children : List ℕ) (r : Outcome × S) → R level r.1 (after_children o controller agent children r).1
  after_children_keeps level controller agent children r =
      choose (λ (x : Bool × S). R level r.1 x.1) (is_success r.0) _ _ (closed_keeps level controller agent children r.1) (kept.same level r.1)

  children_keeps : (level : ℕ) (l : Level S) → Keeps is_listable R level l → (scope : Scope) (block : BindingBlock) (controller : ℕ) (children : List ℕ) (w : S) → is_listable children ≡ true
      → R level w (children_stopped o l scope block controller children w).1
  children_keeps level l k scope block controller [] w few = kept.same level w
  children_keeps level l k scope block controller (child ∷ children) w few =
      kept.joined level _ _ _ (k.call scope (stop_call l.number block controller (child ∷ children)) (child ∷ children) w refl few)
      (after_children_keeps level controller block.handle (child ∷ children) (l.call scope (stop_call l.number block controller (child ∷ children)) (child ∷ children) w))

  after_itself_keeps : (level controller agent : ℕ) (r : Outcome × S) → R level r.1 (after_itself o controller agent r).1
  after_itself_keeps level controller agent r =
      choose (λ (x : StopTurn × S). R level r.1 x.1) (is_success r.0) _ _ (kept.moves level (closes_all controller agent) r.1 refl) (kept.same level r.1)

  itself_keeps : (level : ℕ) (l : Level S) → Keeps is_listable R level l → (scope : Scope) (controller : ℕ) (block : Option BindingBlock) (w : S) → R level w (itself_stopped o l scope controller block w).1
  itself_keeps level l k scope controller None w = kept.same level w
  itself_keeps level l k scope controller (Some block) w =
      kept.joined level _ _ _ (k.call scope (stop_call l.number block controller []) [] w refl kept.childless)
      (after_itself_keeps level controller block.handle (l.call scope (stop_call l.number block controller []) [] w))

  then_keeps : (level : ℕ) (l : Level S) → Keeps is_listable R level l → (scope : Scope) (agent : ℕ) (d : Disconnection) (children : List ℕ) (went : Bool) (w : S)
      → R level w (then_itself o l scope agent d children (went, w)).1
  then_keeps level l k scope agent d children false w = kept.same level w
  then_keeps level l k scope agent d children true w =
      choose (λ (r : StopTurn × S). R level w r.1) (are_all d.child children && is_live d.controller (o.see w).soft.database) _ _ (itself_keeps level l k scope d.controller _ w) (kept.same level w)

  turn_by_keeps : (level : ℕ) (l : Level S) → Keeps is_listable R level l → (scope : Scope) (agent : ℕ) (d : Disconnection) (children : List ℕ) (block : Option BindingBlock) (w : S) → is_listable (children_to_stop d.child children) ≡ true
      → R level w (turn_by o l scope agent d children block w).1
  turn_by_keeps level l k scope agent d children None w few = kept.same level w
  turn_by_keeps level l k scope agent d children (Some block) w few =
      let r : Bool × S = children_stopped o l scope block d.controller (children_to_stop d.child children) w in
      kept.joined level _ _ _ (children_keeps level l k scope block d.controller (children_to_stop d.child children) w few) (then_keeps level l k scope agent d children r.0 r.1)

  stop_turn_keeps : (level : ℕ) (l : Level S) → Keeps is_listable R level l → (scope : Scope) (d : Disconnection) (agent : ℕ) (w : S) → R level w (stop_turn o l scope d agent w).1
  unfolding stop_turn
  stop_turn_keeps level l k scope d agent w =
      choose (λ (r : StopTurn × S). R level w r.1) (is_live d.controller (o.see w).soft.database && manages d.controller agent (o.see w).soft) _ _
      (kept.few level d.controller agent d.child w _ (λ few. choose (λ (r : StopTurn × S). R level w r.1) (is_of_another d.child (children_of d.controller (Some agent) (o.see w).soft)) _ _ (kept.same level w)
      (turn_by_keeps level l k scope agent d _ _ w few)))
      (kept.same level w)

  stop_turns_keeps : (level : ℕ) (l : Level S) → Keeps is_listable R level l → (scope : Scope) (d : Disconnection) (agents : List ℕ) (so_far : Bool × List ℕ) (w : S)
      → R level w (stop_turns o l scope d agents so_far w).1
  unfolding stop_turns
  stop_turns_keeps level l k scope d [] so_far w = kept.same level w
  stop_turns_keeps level l k scope d (agent ∷ agents) so_far w =
      kept.joined level _ _ _ (stop_turn_keeps level l k scope d agent w) (stop_turns_keeps level l k scope d agents _ _)

  stopped_by_keeps : (level : ℕ) (l : Level S) → Keeps is_listable R level l → (scope : Scope) (d : Disconnection) (agents : Option (List ℕ)) (w : S) → R level w (stopped_by o l scope d agents w).1
  stopped_by_keeps level l k scope d None w = kept.same level w
  stopped_by_keeps level l k scope d (Some agents) w = stop_turns_keeps level l k scope d agents (false, []) w

  disconnected_keeps : (level : ℕ) (b : Option (Level S)) → KeepsBelow is_listable R level b → (scope : Scope) (d : Disconnection) (w : S) → R level w (disconnected o b scope d w).1
  unfolding disconnected
  disconnected_keeps level None k scope d w = kept.same level w
  disconnected_keeps level (Some l) k scope d w =
      choose (λ (r : Status × S). R level w r.1) (is_meaningless d (o.see w).soft) _ _ (kept.same level w) (stopped_by_keeps level l k scope d _ w)

  pub disconnect_keeps : (level : ℕ) (b : Option (Level S)) → KeepsBelow is_listable R level b → (scope : Scope) (d : Disconnection) (w : S) → R level w (disconnect o b scope d w).1
  unfolding disconnect
  disconnect_keeps level b k scope d w =
      activated level scope event.Disconnect d.driver d.controller d.child (λ v. disconnected o b (next_scope o w) d v) w (is_short o w) refl
      (λ v. disconnected_keeps level b k (next_scope o w) d v)

  -- ---- uninstall

  module _ (level : ℕ) (b : Option (Level S)) (k : KeepsBelow is_listable R level b) (scope : Scope) where
    unless_open_keeps : (i : HandleInterface) (records : List Rec) (w : S) → is_allowed (uninstalls i.handle i.guid) (o.see w) ≡ true → R level w (unless_open o settings b scope i records w).1
    unless_open_keeps i [] w can = kept.moves level (uninstalls i.handle i.guid) w can
    unless_open_keeps i (rec ∷ records) w can = connect_keeps level b k scope (child_connection i.handle) [] w

    taken_away_keeps : (i : HandleInterface) (w : S) → is_allowed (uninstalls i.handle i.guid) (o.see w) ≡ true → R level w (taken_away o settings b scope i w).1
    unfolding taken_away
    taken_away_keeps i w can = unless_open_keeps i (records_on i (o.see w).soft) w can

    -- an interface of one's own can be removed, even after its weak records were removed
    can_go : (remover : Remover) (i : HandleInterface) (found : Option (ℕ × ℕ)) → may_go remover i ≡ true → is_still_there remover i.interface found ≡ true
        → (is_of_image found || not (has_lasting_interfaces i.guid)) ≡ true
    can_go TheFirmware i None may is = absurd cc
    can_go ADriver i None may is = absurd cc
    can_go TheFirmware i (Some found) may is = or_right (not (nat_eq found.1 firmware)) (not (has_lasting_interfaces i.guid)) may
    can_go ADriver i (Some found) may is =
        let parts = and_parts (nat_eq found.0 i.interface) (not (nat_eq found.1 firmware)) is in
        rw parts.1 refl

    can_after : (i : HandleInterface) (w : S) → is_allowed (uninstalls i.handle i.guid) (o.see w) ≡ true → is_allowed (uninstalls i.handle i.guid) (o.see (o.make (drops_weak i.handle i.guid) w)) ≡ true
    can_after i w can = rw (kept.sees (drops_weak i.handle i.guid) w) can

    after_release_keeps : (remover : Remover) (i : HandleInterface) → may_go remover i ≡ true → (r : Status × S) → R level r.1 (after_release o settings b scope remover i r).1
    unfolding after_release
    after_release_keeps remover i may r =
        choose (λ (x : Status × S). R level r.1 x.1) (is_passed_on r.0) _ _ (kept.same level r.1)
        (choose_by (λ (x : Status × S). R level r.1 x.1) (is_still_there remover i.interface (interface_on i (o.see r.1).soft)) _ _
        (λ still. kept.joined level _ _ _ (kept.moves level (drops_weak i.handle i.guid) r.1 refl)
        (taken_away_keeps i _ (can_after i r.1 (can_go remover i (interface_on i (o.see r.1).soft) may still))))
        (λ other. kept.same level r.1))

    released_keeps : (i : HandleInterface) (agent : Option ℕ) (w : S) → R level w (released o b scope i agent w).1
    released_keeps i None w = kept.same level w
    released_keeps i (Some agent) w = disconnect_keeps level b k scope (record { controller = i.handle; driver = agent; child = 0 }) w

    pub uninstalled_keeps : (remover : Remover) (i : HandleInterface) → may_go remover i ≡ true → (w : S) → R level w (uninstalled o settings b scope remover i w).1
    unfolding uninstalled
    uninstalled_keeps remover i may w =
        choose (λ (x : Status × S). R level w x.1) (not (is_first_there remover i.interface (interface_on i (o.see w).soft))) _ _ (kept.same level w)
        (choose (λ (x : Status × S). R level w x.1) (is_kept_from remover (interface_on i (o.see w).soft)) _ _ (kept.same level w)
        (kept.joined level _ _ _ (released_keeps i (manager_on i (o.see w).soft) w)
        (after_release_keeps remover i may (released o b scope i (manager_on i (o.see w).soft) w))))

    pub each_keeps : (remover : Remover) (interfaces : List HandleInterface) (w : S) → list_all (may_go remover) interfaces ≡ true
        → R level w (each_uninstalled o settings b scope remover interfaces w).1
    unfolding each_uninstalled
    each_keeps remover [] w may = kept.same level w
    each_keeps remover (i ∷ interfaces) w may =
        let parts = and_parts (may_go remover i) (list_all (may_go remover) interfaces) may in
        let r : Status × S = uninstalled o settings b scope remover i w in
        kept.joined level _ _ _ (uninstalled_keeps remover i parts.0 w)
        (choose (λ (x : Bool × S). R level r.1 x.1) (nat_eq r.0.0 SUCCESS.0) _ _ (each_keeps remover interfaces r.1 parts.1) (kept.same level r.1))

    -- a driver may ask for the uninstall of any interface
    drivers_may : (interfaces : List HandleInterface) → list_all (may_go ADriver) interfaces ≡ true
    drivers_may [] = refl
    drivers_may (i ∷ interfaces) = drivers_may interfaces

    all_or_none_keeps : (w : S) (all : Bool) (v : S) → R level w v → R level w (all_or_none o (o.see w).soft (all, v)).1
    all_or_none_keeps w true v keeps = keeps
    all_or_none_keeps w false v keeps = kept.undone level w v keeps

    pub many_keeps : (interfaces : List HandleInterface) (w : S) → R level w (many_uninstalled o settings b scope interfaces w).1
    unfolding many_uninstalled
    many_keeps interfaces w =
        let r : Bool × S = each_uninstalled o settings b scope ADriver interfaces w in
        all_or_none_keeps w r.0 r.1 (each_keeps ADriver interfaces w (drivers_may interfaces))

    -- ---- services that go on

    after_removal_keeps : (removal : Removal) (r : Status × S) → R level r.1 (after_removal o removal r).1
    after_removal_keeps removal r = choose (λ (x : Served × S). R level r.1 x.1) (is_passed_on r.0) _ _ (kept.same level r.1) (kept.moves level (looks_again removal.opening) r.1 refl)

    pub removed_keeps : (removal : Removal) (w : S) → R level w (removed o b scope removal w).1
    unfolding removed
    removed_keeps removal w =
        let d : Disconnection = record { controller = removal.opening.handle; driver = removal.victim; child = 0 } in
        kept.joined level _ _ _ (disconnect_keeps level b k scope d w) (after_removal_keeps removal (disconnect o b scope d w))

    pub reentered_keeps : (reentry : Reentry) (w : S) → R level w (reentered o settings b scope reentry w).1
    unfolding reentered
    reentered_keeps (Connect controller context path at_end recursive) w =
        connect_keeps level b k scope (record { controller = controller; path = path; at_end = at_end; recursive = recursive }) context w
    reentered_keeps (Disconnect controller driver child) w =
        disconnect_keeps level b k scope (record { controller = controller; driver = driver; child = child }) w
    reentered_keeps (Remove removal) w = removed_keeps removal w
    reentered_keeps (Uninstall i) w = uninstalled_keeps ADriver i refl w
    reentered_keeps (UninstallMany interfaces) w = many_keeps interfaces w

    gone_on_keeps : (came : Served) (w : S) → R level w (gone_on o settings b scope (came, w)).1
    gone_on_keeps (served_as.Value value) w = kept.same level w
    gone_on_keeps (served_as.Trap cause) w = kept.same level w
    gone_on_keeps (served_as.Again reentry) w = reentered_keeps reentry w

  -- ---- runs

  module _ (level : ℕ) (b : Option (Level S)) (k : KeepsBelow is_listable R level b) (scope : Scope) (place : ℕ) where
    returned_keeps : (cpu : Cpu) (came : Served) (w : S) → R level w (returned o cpu (came, w)).world
    returned_keeps cpu (served_as.Value value) w = kept.same level w
    returned_keeps cpu (served_as.Trap cause) w = kept.same level w
    returned_keeps cpu (served_as.Again reentry) w = kept.same level w

    service_keeps : (called : Service) (image : Option ℕ) (cpu : Cpu) (w : S) → R level w (service_called o settings b scope place called image cpu w).world
    service_keeps called None cpu w = kept.same level w
    service_keeps called (Some image) cpu w =
        let c = caller image place cpu in
        let r : Served × S = gone_on o settings b scope ((served called c (o.see w)).0, o.make (serves called c) w) in
        kept.joined level _ _ _
        (kept.joined level _ _ _ (kept.moves level (serves called c) w refl) (gone_on_keeps level b k scope (served called c (o.see w)).0 (o.make (serves called c) w)))
        (returned_keeps cpu r.0 r.1)

    thunk_returned_keeps : (cpu : Cpu) (end : RunEnd) (w : S) → R level w (thunk_returned o cpu (end, w)).world
    thunk_returned_keeps cpu (Returned value) w = kept.same level w
    thunk_returned_keeps cpu (Over outcome) w = kept.same level w

  thunk_entered_keeps : (level : ℕ) (b : Option (Level S)) → KeepsBelow is_listable R level b → (scope : Scope) (entry : ℕ) (cpu : Cpu) (w : S) → R level w (thunk_entered o b scope entry cpu w).world
  thunk_entered_keeps level None k scope entry cpu w = kept.same level w
  thunk_entered_keeps level (Some l) k scope entry cpu w =
      let r : RunEnd × S = l.thunk scope entry (passed_slots cpu (o.see w)) w in
      kept.joined level _ _ _ (k.thunk scope entry (passed_slots cpu (o.see w)) w refl) (thunk_returned_keeps level (Some l) k scope level cpu r.0 r.1)

  module _ (level : ℕ) (b : Option (Level S)) (k : KeepsBelow is_listable R level b) (scope : Scope) (place : ℕ) where
    native_keeps : (called : Callee) (image : Option ℕ) (cpu : Cpu) (w : S) → R level w (native_called o settings b scope place called image cpu w).world
    native_keeps (AService called) image cpu w = service_keeps level b k scope place called image cpu w
    native_keeps (AThunk entry) image cpu w =
        choose (λ (t : Turn S). R level w t.world) (is_short o w) _ _ (kept.same level w)
        (kept.joined level _ _ _ (kept.moves level (pays CALL_PRICE) w refl) (thunk_entered_keeps level b k scope entry cpu _))
    native_keeps Nothing image cpu w = kept.same level w

    thunk_by_keeps : (made : Result ℕ WorldFault) (at entry : ℕ) (cpu : Cpu) (w : S) → thunk_answer (o.see w).soft ≡ made → requested_entry at (o.see w).soft ≡ Ok entry
        → R level w (thunk_by o made at entry cpu w).world
    thunk_by_keeps (Ok made) at entry cpu w is wants = kept.moves level (makes_thunk at entry made) w (can_make at entry made (o.see w) wants is)
    thunk_by_keeps (Err fault) at entry cpu w is wants = kept.same level w

    thunk_for_keeps : (wanted : Result ℕ Cause) (at : ℕ) (cpu : Cpu) (w : S) → requested_entry at (o.see w).soft ≡ wanted → R level w (thunk_for o wanted at cpu w).world
    thunk_for_keeps (Ok entry) at cpu w is = thunk_by_keeps (thunk_answer (o.see w).soft) at entry cpu w refl is
    thunk_for_keeps (Err cause) at cpu w is = kept.same level w

    pub acted_keeps : (at : ℕ) (out : StepOut) (cpu : Cpu) (w : S) → R level w (acted o settings b scope place at out cpu w).world
    acted_keeps at Next cpu w = kept.same level w
    acted_keeps at Done cpu w = kept.same level w
    acted_keeps at (Trap cause) cpu w = kept.same level w
    acted_keeps at (Native target) cpu w = native_keeps (callee target (o.see w).soft) (image_at at (o.see w).soft) cpu w
    acted_keeps at (MakeThunk at_place) cpu w = thunk_for_keeps (requested_entry at_place (o.see w).soft) at_place cpu w refl

    pub stepped_keeps : (cpu : Cpu) (w : S) → R level w (after_step o settings b scope place cpu w).world
    stepped_keeps cpu w =
        kept.joined level _ _ _ (kept.moves level (steps cpu) w refl)
        (acted_keeps cpu.ip (stepped cpu (o.see w).soft.memory).out (stepped cpu (o.see w).soft.memory).cpu (o.make (steps cpu) w))

    pub turn_keeps : (cpu : Cpu) (w : S) → R level w (turn o settings b scope place cpu w).world
    unfolding turn
    turn_keeps cpu w =
        choose (λ (t : Turn S). R level w t.world) (nat_eq cpu.ip EXIT) _ _ (kept.same level w)
        (choose (λ (t : Turn S). R level w t.world) (nat_eq (o.see w).hard.units 0) _ _ (kept.same level w)
        (kept.joined level _ _ _ (kept.moves level (pays 1) w refl) (stepped_keeps cpu _)))

    unless_keeps : (end : Option RunEnd) (go : Cpu → S → RunEnd × S) → ((cpu : Cpu) (w : S) → R level w (go cpu w).1) → (cpu : Cpu) (w : S) → R level w (unless_over o end go cpu w).1
    unless_keeps None go goes cpu w = goes cpu w
    unless_keeps (Some end) go goes cpu w = kept.same level w

    turns_keeps : (fuel : ℕ) (cpu : Cpu) (w : S) → R level w (turns o fuel settings b scope place cpu w).1
    unfolding turns
    turns_keeps zero cpu w = kept.same level w
    turns_keeps (suc fuel) cpu w =
        let t : Turn S = turn o settings b scope place cpu w in
        kept.joined level _ _ _ (turn_keeps cpu w) (unless_keeps t.end (turns o fuel settings b scope place) (turns_keeps fuel) t.cpu t.world)

    pub run_keeps : (cpu : Cpu) (w : S) → R level w (run o settings b scope place cpu w).1
    unfolding run
    run_keeps cpu w = turns_keeps (suc (o.see w).hard.units) cpu w
