-- Driver calls keep what each single move keeps, and so do all levels.
use Rattle.std.proofs.Common.{◌≡◌, ◌<◌, ℕ, ◌+◌, zero, suc, Bool, true, false, nat_lt, List, [], Option, refl, arith}
use Rattle.std.specs.Prelude.{if◌then◌else◌}
use Rattle.fw_types.specs.declared.event.Cause.TheVariants.{Budget}
use Rattle.fw_types.specs.declared.event.Outcome.{Outcome}
use Rattle.fw_types.specs.declared.event.Outcome.TheVariants.{Trapped}
use Rattle.fw_types.specs.declared.limits.TheConstants.{CALL_PRICE, MOST_LEVELS}
use Rattle.world_model.specs.Events.{next_serial}
use Rattle.driver_model.specs.Moves.{Operations, caps, ends_event, pushes, sets_tpl}
use Rattle.driver_model.specs.Allowed.{has_sixteen}
use Rattle.driver_model.specs.Level.{Level}
use Rattle.driver_model.specs.Activations.{next_scope}
use Rattle.driver_model.specs.Connect.{child_connection}
use Rattle.driver_model.specs.DriverCall.{allowance, begun, called, code_of, commits, ended, entered, entered_by, entry_cpu, event_kind, kept_or_undone, path_of, ran_on_stack}
use Rattle.driver_model.specs.Levels.{below, level_over, level_with}
use Rattle.driver_model.specs.declared.call.Call.{Call}
use Rattle.driver_model.specs.declared.call.CallKind.{CallKind}
use Rattle.driver_model.specs.declared.call.Code.{Code}
use Rattle.driver_model.specs.declared.call.Code.TheVariants.{Ebc, BusSupported, BusStart, BusStop, Foreign, NoCode}
use Rattle.driver_model.specs.declared.call.Scope.{Scope}
use Rattle.driver_model.specs.declared.settings.Settings.{Settings}
use Rattle.driver_model.proofs.KeepingBusDriver.{start_keeps, stop_keeps}
use Rattle.driver_model.proofs.Keeping.{Keeps, KeepsBelow, KeepsMoves, choose, connect_keeps, run_keeps}

module _ {S : Type 0} (o : Operations S) (is_listable : List ℕ → Bool) (R : (level : ℕ) → S → S → Type 0) (kept : KeepsMoves o is_listable R) (settings : Settings) where
  pub stack_keeps : (level : ℕ) (b : Option (Level S)) → KeepsBelow is_listable R (suc level) b → (scope : Scope) (entry : ℕ) (slots children : List ℕ) (w : S)
      → level < MOST_LEVELS → has_sixteen slots ≡ true → is_listable children ≡ true → R level w (ran_on_stack o settings b scope (suc level) entry slots children w).1
  unfolding ran_on_stack
  stack_keeps level b k scope entry slots children w lt sixteen few =
      kept.stacked level slots children w _ lt sixteen few (run_keeps o is_listable R kept settings (suc level) b k scope (suc level) (entry_cpu (suc level) entry) (o.make (pushes (suc level) slots children) w))

  entered_by_keeps : (level : ℕ) (b : Option (Level S)) → KeepsBelow is_listable R (suc level) b → (what : Code) (scope : Scope) (call : Call) (children : List ℕ) (w : S)
      → level < MOST_LEVELS → has_sixteen call.slots ≡ true → is_listable children ≡ true → R level w (entered_by o what settings b scope (suc level) call children w).1
  entered_by_keeps level b k (Ebc entry) scope call children w lt sixteen few = stack_keeps level b k scope entry call.slots children w lt sixteen few
  entered_by_keeps level b k BusSupported scope call children w lt sixteen few = kept.same level w
  entered_by_keeps level b k BusStart scope call children w lt sixteen few =
      kept.deeper level w _ (start_keeps o is_listable R kept settings (suc level) b k scope call.controller (path_of call) w)
  entered_by_keeps level b k BusStop scope call children w lt sixteen few =
      kept.deeper level w _ (stop_keeps o is_listable R kept settings (suc level) b k scope call.controller children w)
  entered_by_keeps level b k Foreign scope call children w lt sixteen few = kept.same level w
  entered_by_keeps level b k NoCode scope call children w lt sixteen few = kept.same level w

  pub entered_keeps : (level : ℕ) (b : Option (Level S)) → KeepsBelow is_listable R (suc level) b → (scope : Scope) (call : Call) (children : List ℕ) (w : S)
      → level < MOST_LEVELS → has_sixteen call.slots ≡ true → is_listable children ≡ true → R level w (entered o settings b scope (suc level) call children w).1
  unfolding entered
  entered_keeps level b k scope call children w lt sixteen few = entered_by_keeps level b k (code_of call (o.see w).soft) scope call children w lt sixteen few

  -- the call, around what is entered
  abbrev under : (level : ℕ) → Option (Level S) → Scope → Call → List ℕ → S → Outcome × S
  under level b scope call children w = entered o settings b (next_scope o w) level call children (begun o settings scope call w)

  settled_keeps : (level : ℕ) (kind : CallKind) (w : S) (r : Outcome × S) → R level w r.1 → R level w (kept_or_undone o kind (o.see w).soft r).1
  settled_keeps level kind w r keeps = choose (λ (v : S). R level w v) (commits kind r.0) _ _ keeps (kept.undone level w r.1 keeps)

  enough_left : (w : S) → nat_lt (allowance settings (o.see w)) CALL_PRICE ≡ false
      → nat_lt (o.see (o.make (caps settings.call_budget) w)).hard.units CALL_PRICE ≡ false
  enough_left w is = rw (kept.sees (caps settings.call_budget) w) is

  ended_keeps : (level : ℕ) (w v : S) (outcome : Outcome) → R level (o.make (caps settings.call_budget) w) v → R level w (ended o settings (o.see w) (outcome, v)).1
  ended_keeps level w v outcome inner =
      kept.capped level settings.call_budget w _
      (kept.joined level _ _ _ (kept.joined level _ _ _ inner (kept.moves level (sets_tpl (o.see w).soft.tpl) v refl)) (kept.moves level (ends_event (next_serial (o.see w).hard) outcome) _ refl))

  module _ (level : ℕ) (lt : level < MOST_LEVELS) where
    called_by : (b : Option (Level S)) → KeepsBelow is_listable R (suc level) b → (scope : Scope) (call : Call) (children : List ℕ) (w : S) (short : Bool)
        → nat_lt (allowance settings (o.see w)) CALL_PRICE ≡ short → has_sixteen call.slots ≡ true → is_listable children ≡ true
        → R level w (if short then (Trapped Budget, w) else kept_or_undone o call.kind (o.see w).soft (ended o settings (o.see w) (under (suc level) b scope call children w))).1
    called_by b k scope call children w true is sixteen few = kept.same level w
    called_by b k scope call children w false is sixteen few =
        let r : Outcome × S = under (suc level) b scope call children w in
        settled_keeps level call.kind w (ended o settings (o.see w) r)
        (ended_keeps level w r.1 r.0
        (kept.joined level _ _ _
        (kept.begins level scope.event (event_kind call.kind) call.driver call.controller call.extra (o.make (caps settings.call_budget) w) (enough_left w is))
        (entered_keeps level b k (next_scope o w) call children (begun o settings scope call w) lt sixteen few)))

    pub called_keeps : (b : Option (Level S)) → KeepsBelow is_listable R (suc level) b → (scope : Scope) (call : Call) (children : List ℕ) (w : S)
        → has_sixteen call.slots ≡ true → is_listable children ≡ true → R level w (called o settings b (suc level) scope call children w).1
    unfolding called
    called_keeps b k scope call children w sixteen few = called_by b k scope call children w (nat_lt (allowance settings (o.see w)) CALL_PRICE) refl sixteen few

    pub over_keeps : (b : Option (Level S)) → KeepsBelow is_listable R (suc level) b → Keeps is_listable R level (level_over o settings (suc level) b)
    over_keeps b k = record {
      call = λ scope call children w sixteen few. called_keeps b k scope call children w sixteen few;
      connect = λ scope controller w. connect_keeps o is_listable R kept settings (suc level) b k scope (child_connection controller) [] w;
      thunk = λ scope entry slots w sixteen. stack_keeps level b k scope entry slots [] w lt sixteen kept.childless;
    }

  -- all levels
  pub below_keeps : (room level : ℕ) → level + room ≡ MOST_LEVELS → KeepsBelow is_listable R level (below o settings room)
  unfolding below
  below_keeps zero level all = tt
  below_keeps (suc room) level all =
      let next : level_with room ≡ suc level = omega (arith, all) in
      rw next (over_keeps level (omega (arith, all)) (below o settings room) (below_keeps room (suc level) (omega (arith, all))))
