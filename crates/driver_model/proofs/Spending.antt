-- Units never rise, events are only added, and each event is paid, at all levels.
use Rattle.std.proofs.Common.{◌≡◌, ◌≤◌, ℕ, ◌+◌, Bool, true, false, nat_eq, nat_lt, List, [], ◌∷◌, ◌++◌, length, map, take, refl, ap, ◌∙◌, sym, arith, length-append, if◌then◌else◌}
use Rattle.std.proofs.lemmas.Bool.Decides.{nat_tests}
use Rattle.std.proofs.lemmas.List.{length-map, take-append-le, take-map, take-take, take_all}
use Rattle.fw_types.specs.declared.event.EventKind.{EventKind}
use Rattle.fw_types.specs.declared.event.Event.{Event}
use Rattle.fw_types.specs.declared.event.Outcome.{Outcome}
use Rattle.fw_types.specs.declared.limits.TheConstants.{CALL_PRICE, MOST_LEVELS}
use Rattle.world_model.specs.World.{Hard, State}
use Rattle.world_model.specs.Events.{next_serial, pending_outcome, with_result}
use Rattle.service_model.specs.SecondLook.{SpendsNothing}
use Rattle.service_model.specs.Untouched.{EventsStay, UnitsNeverRise}
use Rattle.driver_model.specs.Moves.{Move, adds_child, frees, lists_images, opens_root, changed, plain, pays, caps, returns, begins_event, ends_event, steps, serves, looks_again, makes_thunk, pushes, pops, sets_tpl, puts_back, closes_all, closes_child, drops_weak, uninstalls, adds_image, drops_all}
use Rattle.driver_model.specs.Allowed.{is_allowed}
use Rattle.driver_model.specs.Levels.{below}
use Rattle.driver_model.specs.Spending.{Spends, without_result}
use Rattle.driver_model.specs.declared.settings.Settings.{Settings}
use Rattle.driver_model.proofs.Keeping.{KeepsBelow, KeepsEachMove, KeepsMoves, allowed_in_calls}
use Rattle.driver_model.proofs.KeepingCalls.{below_keeps}

-- whatever children a Stop is given
abbrev pub any_list : List ℕ → Bool
any_list children = true

abbrev pub SpendsAt : (level : ℕ) → State → State → Type 0
SpendsAt level old new = Spends old.hard new.hard

-- what events say except for their results
said : List Event → List Event
said events = map without_result events

pub same_said : (events : List Event) → map without_result (take (length events) events) ≡ map without_result events
same_said events = ap (map without_result) (take_all (length events) events (omega arith))

-- the earlier events, after two changes
pub joined_said : (one two three : List Event) → length one ≤ length two
    → map without_result (take (length one) two) ≡ map without_result one
    → map without_result (take (length two) three) ≡ map without_result two
    → map without_result (take (length one) three) ≡ map without_result one
joined_said one two three grows front back =
    let cut : map without_result (take (length one) three) ≡ take (length one) (map without_result (take (length two) three)) =
    ap (map without_result) (sym (take-take (length one) (length two) three grows)) ∙ sym (take-map without_result (length one) (take (length two) three)) in
    let same : take (length one) (map without_result (take (length two) three)) ≡ take (length one) (map without_result two) = ap (take (length one)) back in
    cut ∙ same ∙ take-map without_result (length one) two ∙ front

result_only : (serial : ℕ) (outcome : Outcome) (event : Event) (is : Bool) → without_result (if is then record event { result = outcome } else event) ≡ without_result event
result_only serial outcome event true = refl
result_only serial outcome event false = refl

results_only : (serial : ℕ) (outcome : Outcome) (events : List Event) → map without_result (map (with_result serial outcome) events) ≡ map without_result events
results_only serial outcome [] = refl
results_only serial outcome (event ∷ events) =
    let one = result_only serial outcome event (nat_eq event.serial serial) in
    let others = results_only serial outcome events in
    (λ k. one k ∷ others k)

-- a state with the same hard part as before
still : (old new : Hard) → new ≡ old → Spends old new
still old new is =
    let units : new.units ≡ old.units = ap (λ h. h.units) is in
    let events : length new.events ≡ length old.events = ap (λ h. length h.events) is in
    record {
      falls = omega (arith, units);
      grows = omega (arith, events);
      stays = ap (λ h. map without_result (take (length old.events) h.events)) is ∙ same_said old.events;
      paid = omega (arith, units, events);
    }

-- a change of the units alone
fallen : (old new : Hard) → new.events ≡ old.events → new.units ≤ old.units → Spends old new
fallen old new is falls =
    let events : length new.events ≡ length old.events = ap length is in
    record {
      falls = falls;
      grows = omega (arith, events);
      stays = ap (λ events. map without_result (take (length old.events) events)) is ∙ same_said old.events;
      paid = omega (arith, falls, events);
    }

pub joined_spends : (a b c : Hard) → Spends a b → Spends b c → Spends a c
joined_spends a b c one two = record {
  falls = omega (arith, one.falls, two.falls);
  grows = omega (arith, one.grows, two.grows);
  stays = joined_said a.events b.events c.events one.grows one.stays two.stays;
  paid = omega (arith, one.paid, two.paid);
}

-- an event that is paid
began : (parent : ℕ) (kind : EventKind) (driver controller extra : ℕ) (w : State) → nat_lt w.hard.units CALL_PRICE ≡ false
    → Spends w.hard (changed (begins_event parent kind driver controller extra) (changed (pays CALL_PRICE) w)).hard
began parent kind driver controller extra w enough =
    let event : Event = record { serial = next_serial w.hard; parent = parent; kind = kind; driver = driver; controller = controller; extra = extra; result = pending_outcome } in
    let long : length (w.hard.events ++ event ∷ []) ≡ length w.hard.events + 1 = length-append w.hard.events (event ∷ []) in
    let some : CALL_PRICE ≤ w.hard.units = grind (arith, nat_tests) in
    record {
      falls = omega arith;
      grows = omega (arith, long);
      stays = ap (map without_result) (take-append-le (length w.hard.events) w.hard.events (event ∷ []) (omega arith)) ∙ same_said w.hard.events;
      paid = omega (arith, long, some);
    }

module _ (events_stay : EventsStay) (units_fall : UnitsNeverRise) (looks : SpendsNothing) where
  moved : (move : Move) (w : State) → is_allowed move w ≡ true → Spends w.hard (changed move w).hard
  moved (pays price) w is = fallen w.hard _ refl (omega arith)
  moved (caps most) w is = absurd cc
  moved (returns aside) w is = absurd cc
  moved (begins_event parent kind driver controller extra) w is = absurd cc
  moved (ends_event serial outcome) w is =
      let long : length (map (with_result serial outcome) w.hard.events) ≡ length w.hard.events = length-map w.hard.events (with_result serial outcome) in
      record {
        falls = omega arith;
        grows = omega (arith, long);
        stays = ap (map without_result) (take_all (length w.hard.events) (map (with_result serial outcome) w.hard.events) (omega (arith, long))) ∙ results_only serial outcome w.hard.events;
        paid = omega (arith, long);
      }
  moved (steps cpu) w is = still w.hard _ refl
  moved (serves s c) w is = fallen w.hard _ (events_stay s c w) (units_fall s c w)
  moved (looks_again opening) w is = still w.hard _ (looks opening w)
  moved (makes_thunk place entry at) w is = still w.hard _ refl
  moved (pushes level slots children) w is = absurd cc
  moved (pops level) w is = absurd cc
  moved (sets_tpl tpl) w is = still w.hard _ refl
  moved (puts_back before) w is = absurd cc
  moved (closes_all controller agent) w is = still w.hard _ refl
  moved (closes_child controller agent child) w is = still w.hard _ refl
  moved (drops_weak handle guid) w is = still w.hard _ refl
  moved (uninstalls handle guid) w is = still w.hard _ refl
  moved (adds_image bytes entry subsystem device) w is = still w.hard _ refl
  moved (drops_all image) w is = still w.hard _ refl
  moved (opens_root controller) w is = still w.hard _ refl
  moved (adds_child controller function) w is = still w.hard _ refl
  moved (lists_images function images) w is = still w.hard _ refl
  moved (frees at) w is = still w.hard _ refl

  pub each_move_spends : KeepsEachMove plain SpendsAt
  each_move_spends level move w is = moved move w is

  pub spending_kept : KeepsMoves plain any_list SpendsAt
  spending_kept = record {
    sees = λ move w. refl;
    childless = refl;
    few = λ level controller agent child w v goes. goes refl;
    same = λ level w. still w.hard w.hard refl;
    joined = λ level a b c one two. joined_spends a.hard b.hard c.hard one two;
    moves = λ level move w is. moved move w (allowed_in_calls move w is);
    begins = λ level parent kind driver controller extra w enough. began parent kind driver controller extra w enough;
    capped = λ level most w v inner. record { falls = omega (arith, inner.falls); grows = inner.grows; stays = inner.stays; paid = omega (arith, inner.paid) };
    stacked = λ level slots children w v lt sixteen few inner. inner;
    deeper = λ level w v inner. inner;
    undone = λ level w v inner. inner;
  }

  pub below_spends : (s : Settings) (room level : ℕ) → level + room ≡ MOST_LEVELS → KeepsBelow any_list SpendsAt level (below plain s room)
  below_spends s room level all = below_keeps plain any_list SpendsAt spending_kept s room level all
