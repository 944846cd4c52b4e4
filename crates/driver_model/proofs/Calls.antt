-- What driver calls leave as it was, and their events.
use Rattle.std.proofs.Common.{◌≡◌, ℕ, ◌+◌, ◌-◌, suc, Bool, true, false, nat_eq, nat_lt, List, [], ◌∷◌, ◌++◌, length, map, take, refl, ap, sym, subst, arith, if◌then◌else◌}
use Rattle.std.specs.Prelude.{Some, slice_get}
use Rattle.std.proofs.lemmas.Bool.Decides.{nat_tests}
use Rattle.fw_types.specs.declared.event.Cause.TheVariants.{Budget}
use Rattle.fw_types.specs.declared.event.Event.{Event}
use Rattle.fw_types.specs.declared.event.Outcome.{Outcome}
use Rattle.fw_types.specs.declared.event.Outcome.TheVariants.{Trapped}
use Rattle.fw_types.specs.declared.limits.TheConstants.{CALL_PRICE, MOST_LEVELS}
use Rattle.world_model.specs.World.{State}
use Rattle.world_model.specs.Events.{next_serial, with_result}
use Rattle.service_model.specs.SecondLook.{SpendsNothing}
use Rattle.service_model.specs.Untouched.{EventsStay, UnitsNeverRise}
use Rattle.driver_model.specs.Moves.{plain}
use Rattle.driver_model.specs.Activations.{next_scope}
use Rattle.driver_model.specs.Allowed.{has_sixteen}
use Rattle.driver_model.specs.CallLaws.{CallsHaveTheirEvent, CallsLeaveTpl, SupportedLeaves, UncommittedCallsLeave, event_of}
use Rattle.driver_model.specs.DriverCall.{allowance, begun, called, commits, ended, entered, kept_or_undone}
use Rattle.driver_model.specs.Levels.{below, level_with}
use Rattle.driver_model.specs.Spending.{without_result}
use Rattle.driver_model.specs.declared.call.Call.{Call}
use Rattle.driver_model.specs.declared.call.CallKind.{CallKind}
use Rattle.driver_model.specs.declared.call.Scope.{Scope}
use Rattle.driver_model.specs.declared.settings.Settings.{Settings}
use Rattle.driver_model.proofs.KeepingCalls.{entered_keeps}
use Rattle.driver_model.proofs.Spending.{SpendsAt, any_list, below_spends, spending_kept}

-- what a call gives, by whether its price is more than it may spend
abbrev given : (short : Bool) → CallKind → State → Outcome × State → Outcome × State
given short kind w r = if short then (Trapped Budget, w) else kept_or_undone plain kind w.soft r

uncommitted-by : (short : Bool) (kind : CallKind) (w : State) (r : Outcome × State) → commits kind (given short kind w r).0 ≡ false → (given short kind w r).1.soft ≡ w.soft
uncommitted-by true kind w r fails = refl
uncommitted-by false kind w r fails = rw fails refl

pub uncommitted-law : UncommittedCallsLeave
unfolding called
uncommitted-law settings room scope call children w fails =
    uncommitted-by (nat_lt (allowance settings w) CALL_PRICE) call.kind w _ fails

pub supported-law : SupportedLeaves
supported-law settings room scope call children w is = uncommitted-law settings room scope call children w (rw is refl)

tpl-by : (short : Bool) (settings : Settings) (kind : CallKind) (w : State) (r : Outcome × State) → (given short kind w (ended plain settings w r)).1.soft.tpl ≡ w.soft.tpl
tpl-by true settings kind w r = refl
tpl-by false settings kind w r = kept (commits kind r.0)
  where
    kept : (commit : Bool) → (if commit then (ended plain settings w r).1 else record (ended plain settings w r).1 { soft = w.soft }).soft.tpl ≡ w.soft.tpl
    kept true = refl
    kept false = refl

pub tpl-law : CallsLeaveTpl
unfolding called
tpl-law settings room scope call children w =
    tpl-by (nat_lt (allowance settings w) CALL_PRICE) settings call.kind w (entered plain settings (below plain settings room) (next_scope plain w) (level_with room) call children (begun plain settings scope call w))

-- ---- the event of a call

abbrev ended_so : Outcome → Event → Event
ended_so outcome event = record event { result = outcome }

own-by : (event : Event) (outcome : Outcome) (other : Event) → without_result other ≡ without_result event → with_result event.serial outcome other ≡ ended_so outcome event
own-by event outcome other same =
    let serial : other.serial ≡ event.serial = ap (λ (e : Event). e.serial) same in
    let is : nat_eq other.serial event.serial ≡ true = grind (arith, nat_tests, serial) in
    rw is (ap (ended_so outcome) same)

own-event : (before after : List Event) (event : Event) (outcome : Outcome)
    → map without_result (take (length (before ++ event ∷ [])) after) ≡ map without_result (before ++ event ∷ [])
    → slice_get (map (with_result event.serial outcome) after) (length before) ≡ Some (ended_so outcome event)
own-event [] [] event outcome stays = absurd cc
own-event [] (other ∷ after) event outcome stays = ap Some (own-by event outcome other cc)
own-event (first ∷ before) [] event outcome stays = absurd cc
own-event (first ∷ before) (other ∷ after) event outcome stays = own-event before after event outcome cc

module _ (events_stay : EventsStay) (units_fall : UnitsNeverRise) (looks : SpendsNothing) where
  events-by : (short : Bool) (settings : Settings) (scope : Scope) (call : Call) (w : State) (r : Outcome × State) → short ≡ false
      → map without_result (take (length (begun plain settings scope call w).hard.events) r.1.hard.events) ≡ map without_result (begun plain settings scope call w).hard.events
      → slice_get (given short call.kind w (ended plain settings w r)).1.hard.events (length w.hard.events)
      ≡ Some (event_of scope call (given short call.kind w (ended plain settings w r)).0 (next_serial w.hard))
  events-by true settings scope call w r fails stays = absurd cc
  events-by false settings scope call w r fails stays = kept (commits call.kind r.0)
    where
      there : slice_get (ended plain settings w r).1.hard.events (length w.hard.events) ≡ Some (event_of scope call r.0 (next_serial w.hard))
      there = own-event w.hard.events r.1.hard.events _ r.0 stays

      kept : (commit : Bool) → slice_get (if commit then (ended plain settings w r).1 else record (ended plain settings w r).1 { soft = w.soft }).hard.events (length w.hard.events) ≡ Some (event_of scope call r.0 (next_serial w.hard))
      kept true = there
      kept false = there

  abbrev HasItsEvent : Settings → Scope → Call → State → Outcome × State → Type 0
  HasItsEvent settings scope call w r = slice_get r.1.hard.events (length w.hard.events) ≡ Some (event_of scope call r.0 (next_serial w.hard))

  event-at : (settings : Settings) (room level : ℕ) (scope : Scope) (call : Call) (children : List ℕ) (w : State) → suc level + room ≡ MOST_LEVELS → has_sixteen call.slots ≡ true
      → nat_lt (allowance settings w) CALL_PRICE ≡ false → HasItsEvent settings scope call w (called plain settings (below plain settings room) (suc level) scope call children w)
  unfolding called
  event-at settings room level scope call children w all sixteen short =
      let v : State = begun plain settings scope call w in
      events-by (nat_lt (allowance settings w) CALL_PRICE) settings scope call w (entered plain settings (below plain settings room) (next_scope plain w) (suc level) call children v) short
      (entered_keeps plain any_list SpendsAt (spending_kept events_stay units_fall looks) settings level (below plain settings room)
      (below_spends events_stay units_fall looks settings room (suc level) all) (next_scope plain w) call children v (omega (arith, all)) sixteen refl).stays

  pub events-law : CallsHaveTheirEvent
  events-law settings room scope call children w lt sixteen enough =
      let level : ℕ = MOST_LEVELS - suc room in
      let next : level_with room ≡ suc level = omega (arith, lt) in
      let short : nat_lt (allowance settings w) CALL_PRICE ≡ false = grind (arith, nat_tests, enough) in
      subst (λ (l : ℕ). HasItsEvent settings scope call w (called plain settings (below plain settings room) l scope call children w)) (sym next)
      (event-at settings room level scope call children w (omega (arith, lt)) sixteen short)
