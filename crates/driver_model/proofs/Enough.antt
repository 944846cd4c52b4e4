-- No run ends because its turns run out, and no search because its searches run out: with more of them it would do the
-- same.
use Rattle.std.proofs.Common.{◌≡◌, ◌<◌, ◌≤◌, ℕ, ◌-◌, min, zero, suc, Bool, true, false, ◌||◌, nat_eq, nat_lt, List, [], ◌∷◌, refl, subst, arith}
use Rattle.std.specs.Prelude.{Option, Some, None, if◌then◌else◌}
use Rattle.std.proofs.lemmas.Bool.Decides.{nat_tests}
use Rattle.fw_types.specs.declared.event.Cause.TheVariants.{Budget}
use Rattle.fw_types.specs.declared.event.Outcome.{Outcome}
use Rattle.fw_types.specs.declared.event.Outcome.TheVariants.{Trapped}
use Rattle.fw_types.specs.declared.limits.TheConstants.{CALL_PRICE, MOST_LEVELS}
use Rattle.guest_memory.specs.declared.address_map.TheConstants.{EXIT}
use Rattle.ebc_machine.specs.declared.cpu.Cpu.{Cpu}
use Rattle.handle_db.specs.Database.{is_live}
use Rattle.world_model.specs.World.{State}
use Rattle.service_model.specs.SecondLook.{SpendsNothing}
use Rattle.service_model.specs.Untouched.{EventsStay, UnitsNeverRise}
use Rattle.driver_model.specs.Moves.{changed, plain, pays}
use Rattle.driver_model.specs.Allowed.{has_sixteen}
use Rattle.driver_model.specs.Level.{Level}
use Rattle.driver_model.specs.Turn.{Turn, ends, traps}
use Rattle.driver_model.specs.Activations.{is_success, next_scope}
use Rattle.driver_model.specs.Connect.{asked, driver_call, found, search, searches, started, unmarked}
use Rattle.driver_model.specs.DriverOrder.{order, platform_list}
use Rattle.driver_model.specs.GuestRun.{after_step, after_turn, exit_of, run, turn, turns, unless_over}
use Rattle.driver_model.specs.DriverCall.{allowance, begun, called, commits, ended, entered, kept_or_undone}
use Rattle.driver_model.specs.Levels.{below, level_over, level_with}
use Rattle.driver_model.specs.Spending.{FoundCosts, GoingOnCosts, MoreTurnsChangeNothing, RunIsTurnAndRun, SearchIsLookAndSearch}
use Rattle.driver_model.specs.declared.binding.BindingBlock.{BindingBlock}
use Rattle.driver_model.specs.declared.call.Call.{Call}
use Rattle.driver_model.specs.declared.call.CallKind.TheVariants.{Supported, Start}
use Rattle.driver_model.specs.declared.call.RunEnd.{RunEnd}
use Rattle.driver_model.specs.declared.call.Scope.{Scope}
use Rattle.driver_model.specs.declared.request.Connection.{Connection}
use Rattle.driver_model.specs.declared.settings.Settings.{Settings}
use Rattle.driver_model.proofs.Keeping.{Keeps, KeepsBelow, choose, stepped_keeps}
use Rattle.driver_model.proofs.KeepingCalls.{entered_keeps, over_keeps}
use Rattle.driver_model.proofs.Spending.{SpendsAt, any_list, below_spends, spending_kept}

module _ (events_stay : EventsStay) (units_fall : UnitsNeverRise) (looks : SpendsNothing) (s : Settings) (b : Option (Level State)) (level : ℕ) (spends : KeepsBelow any_list SpendsAt level b) (scope : Scope) (place : ℕ) where
  turn-cases : (P : Turn State → Type 0) (cpu : Cpu) (w : State) (here out : Bool) → nat_eq w.hard.units 0 ≡ out
      → P (ends (exit_of cpu) cpu w) → P (traps Budget cpu w)
      → (nat_eq w.hard.units 0 ≡ false → P (after_step plain s b scope place cpu (changed (pays 1) w)))
      → P (if here then ends (exit_of cpu) cpu w else if out then traps Budget cpu w else after_step plain s b scope place cpu (changed (pays 1) w))
  turn-cases P cpu w true out is done short goes = done
  turn-cases P cpu w false true is done short goes = short
  turn-cases P cpu w false false is done short goes = goes is

  -- a turn after which the run goes on leaves fewer units
  pub costs : (cpu : Cpu) (w : State) → (turn plain s b scope place cpu w).end ≡ None → (turn plain s b scope place cpu w).world.hard.units < w.hard.units
  unfolding turn
  costs cpu w =
      turn-cases (λ (t : Turn State). t.end ≡ None → t.world.hard.units < w.hard.units) cpu w (nat_eq cpu.ip EXIT) (nat_eq w.hard.units 0) refl (λ over. absurd cc) (λ over. absurd cc)
      (λ some on.
      let falls : (after_step plain s b scope place cpu (changed (pays 1) w)).world.hard.units ≤ w.hard.units - 1 =
      (stepped_keeps plain any_list SpendsAt (spending_kept events_stay units_fall looks) s level b spends scope place cpu (changed (pays 1) w)).falls in
      grind (arith, nat_tests, falls))

  agree-by : (end : Option RunEnd) (go other : Cpu → State → RunEnd × State) (cpu : Cpu) (w : State) → (end ≡ None → go cpu w ≡ other cpu w)
      → unless_over plain end go cpu w ≡ unless_over plain end other cpu w
  agree-by None go other cpu w same = same refl
  agree-by (Some end) go other cpu w same = refl

  agree : (go other : Cpu → State → RunEnd × State) (cpu : Cpu) (w : State)
      → ((next : Cpu) (v : State) → v.hard.units < w.hard.units → go next v ≡ other next v)
      → after_turn plain go (turn plain s b scope place cpu w) ≡ after_turn plain other (turn plain s b scope place cpu w)
  agree go other cpu w same =
      let t : Turn State = turn plain s b scope place cpu w in
      agree-by t.end go other t.cpu t.world (λ on. same t.cpu t.world (costs cpu w on))

  pub enough : (n k : ℕ) (cpu : Cpu) (w : State) → w.hard.units < n → w.hard.units < k → turns plain n s b scope place cpu w ≡ turns plain k s b scope place cpu w
  unfolding turns
  enough zero k cpu w lt lk = absurd (omega arith)
  enough (suc n) zero cpu w lt lk = absurd (omega arith)
  enough (suc n) (suc k) cpu w lt lk =
      agree (turns plain n s b scope place) (turns plain k s b scope place) cpu w (λ next v less. enough n k next v (omega arith) (omega arith))

  -- a run goes on by a run
  pub turn_and_run : (cpu : Cpu) (w : State) → run plain s b scope place cpu w ≡ after_turn plain (run plain s b scope place) (turn plain s b scope place cpu w)
  unfolding run turns
  turn_and_run cpu w =
      agree (turns plain w.hard.units s b scope place) (run plain s b scope place) cpu w (λ next v less. enough w.hard.units (suc v.hard.units) next v less (omega arith))

-- ---- searches

-- a call that succeeds costs
abbrev pub CallsCost : Level State → Type 0
CallsCost l = (scope : Scope) (block : BindingBlock) (c : Connection) (w : State)
    → is_success (l.call scope (driver_call Supported block c) [] w).0 ≡ true → (l.call scope (driver_call Supported block c) [] w).1.hard.units < w.hard.units

module _ (events_stay : EventsStay) (units_fall : UnitsNeverRise) (looks : SpendsNothing) (s : Settings) (l : Level State) (level : ℕ) (spends : Keeps any_list SpendsAt level l) (cost : CallsCost l) (scope : Scope) (c : Connection) (context : List ℕ) where
  abbrev Cheaper : State → Option BindingBlock × State → Type 0
  Cheaper w (None, v) = Unit {0}
  Cheaper w (Some block, v) = v.hard.units < w.hard.units

  cheaper-later : (w v : State) → v.hard.units ≤ w.hard.units → (r : Option BindingBlock × State) → Cheaper v r → Cheaper w r
  cheaper-later w v falls (None, u) less = tt
  cheaper-later w v falls (Some block, u) less = omega (arith, falls, less)

  by_answer : (w : State) (block : BindingBlock) (others : State → Option BindingBlock × State) (r : Outcome × State) (yes : Bool) → is_success r.0 ≡ yes
      → (is_success r.0 ≡ true → r.1.hard.units < w.hard.units) → Cheaper w (others r.1) → Cheaper w (if yes then (Some block, r.1) else others r.1)
  by_answer w block others r true is less later = less is
  by_answer w block others r false is less later = later

  asked_cheaper : (blocks : List BindingBlock) (w : State) → Cheaper w (asked plain l scope c blocks w)
  unfolding asked
  asked_cheaper [] w = tt
  asked_cheaper (block ∷ blocks) w =
      let r : Outcome × State = l.call scope (driver_call Supported block c) [] w in
      by_answer w block (asked plain l scope c blocks) r (is_success r.0) refl (cost scope block c w)
      (cheaper-later w r.1 ((spends.call scope (driver_call Supported block c) [] w refl refl).falls) (asked plain l scope c blocks r.1) (asked_cheaper blocks r.1))

  live-agree : (live : Bool) (go other : Bool → State → Bool × State) (any : Bool) (w : State) → go any w ≡ other any w
      → ◌≡◌ {A = Bool × State} (if live then go any w else (any, w)) (if live then other any w else (any, w))
  live-agree true go other any w same = same
  live-agree false go other any w same = refl

  started_agree : (go other : List ℕ → Bool → State → Bool × State) (marked : List ℕ) (any : Bool) (w : State) (r : Option BindingBlock × State) → Cheaper w r
      → ((marked : List ℕ) (any : Bool) (v : State) → v.hard.units < w.hard.units → go marked any v ≡ other marked any v)
      → started plain l scope c go marked any r ≡ started plain l scope c other marked any r
  started_agree go other marked any w (None, v) less same = refl
  started_agree go other marked any w (Some block, v) less same =
      let r : Outcome × State = l.call scope (driver_call Start block c) [] v in
      let falls : r.1.hard.units ≤ v.hard.units = (spends.call scope (driver_call Start block c) [] v refl refl).falls in
      live-agree (is_live c.controller r.1.soft.database) (go (block.handle ∷ marked)) (other (block.handle ∷ marked)) (any || is_success r.0) r.1
      (same (block.handle ∷ marked) (any || is_success r.0) r.1 (omega (arith, falls, less)))

  enough_searches : (n k : ℕ) (marked : List ℕ) (any : Bool) (w : State) → w.hard.units < n → w.hard.units < k
      → searches plain n s l scope c context marked any w ≡ searches plain k s l scope c context marked any w
  unfolding searches
  enough_searches zero k marked any w lt lk = absurd (omega arith)
  enough_searches (suc n) zero marked any w lt lk = absurd (omega arith)
  enough_searches (suc n) (suc k) marked any w lt lk =
      started_agree (λ marked. searches plain n s l scope c context marked) (λ marked. searches plain k s l scope c context marked) marked any w
      (found plain s l scope c context marked w) (asked_cheaper (unmarked marked (order c.controller context (platform_list s c.controller) w.soft)) w)
      (λ marked any v less. enough_searches n k marked any v (omega arith) (omega arith))

  pub found_cheaper : (marked : List ℕ) (w v : State) (block : BindingBlock) → found plain s l scope c context marked w ≡ (Some block, v) → v.hard.units < w.hard.units
  found_cheaper marked w v block is = subst (Cheaper w) is (asked_cheaper (unmarked marked (order c.controller context (platform_list s c.controller) w.soft)) w)

  -- all searches are the first one and all others from there
  pub search_and_rest : (marked : List ℕ) (any : Bool) (w : State)
      → search plain s l scope c context marked any w ≡ started plain l scope c (λ marked any w. search plain s l scope c context marked any w) marked any (found plain s l scope c context marked w)
  unfolding searches
  search_and_rest marked any w =
      started_agree (λ marked. searches plain w.hard.units s l scope c context marked) (λ marked any w. search plain s l scope c context marked any w) marked any w
      (found plain s l scope c context marked w) (asked_cheaper (unmarked marked (order c.controller context (platform_list s c.controller) w.soft)) w)
      (λ marked any v less. enough_searches w.hard.units (suc v.hard.units) marked any v less (omega arith))

-- ---- a call that succeeds costs its price

module _ (events_stay : EventsStay) (units_fall : UnitsNeverRise) (looks : SpendsNothing) (s : Settings) (level : ℕ) (b : Option (Level State)) (spends : KeepsBelow any_list SpendsAt (suc level) b) (lt : level < MOST_LEVELS) where
  call_costs_by : (scope : Scope) (call : Call) (children : List ℕ) (w : State) (short : Bool) → nat_lt (allowance s w) CALL_PRICE ≡ short
      → (r : Outcome × State) → r.1.hard.units ≤ min s.call_budget w.hard.units - CALL_PRICE
      → is_success (if short then (Trapped Budget, w) else kept_or_undone plain call.kind w.soft (ended plain s w r)).0 ≡ true
      → (if short then (Trapped Budget, w) else kept_or_undone plain call.kind w.soft (ended plain s w r)).1.hard.units < w.hard.units
  call_costs_by scope call children w true is r falls success = absurd cc
  call_costs_by scope call children w false is r falls success =
      let some : CALL_PRICE ≤ min s.call_budget w.hard.units = grind (arith, nat_tests) in
      choose (λ (v : State). v.hard.units < w.hard.units) (commits call.kind r.0) _ _ (omega (arith, falls, some)) (omega (arith, falls, some))

  call_costs : (scope : Scope) (call : Call) (children : List ℕ) (w : State) → has_sixteen call.slots ≡ true
      → is_success (called plain s b (suc level) scope call children w).0 ≡ true → (called plain s b (suc level) scope call children w).1.hard.units < w.hard.units
  unfolding called
  call_costs scope call children w sixteen =
      let v : State = begun plain s scope call w in
      let r : Outcome × State = entered plain s b (next_scope plain w) (suc level) call children v in
      let falls : r.1.hard.units ≤ v.hard.units = (entered_keeps plain any_list SpendsAt (spending_kept events_stay units_fall looks) s level b spends (next_scope plain w) call children v lt sixteen refl).falls in
      call_costs_by scope call children w (nat_lt (allowance s w) CALL_PRICE) refl r falls

  pub calls_cost : CallsCost (level_over plain s (suc level) b)
  calls_cost scope block c w = call_costs scope (driver_call Supported block c) [] w refl

-- ---- the laws

module _ (events_stay : EventsStay) (units_fall : UnitsNeverRise) (looks : SpendsNothing) where
  pub costs-law : GoingOnCosts
  costs-law s room scope level cpu w le =
      costs events_stay units_fall looks s (below plain s room) (MOST_LEVELS - room) (below_spends events_stay units_fall looks s room (MOST_LEVELS - room) (omega (arith, le))) scope level cpu w

  pub more-law : MoreTurnsChangeNothing
  unfolding run
  more-law s room scope level fuel cpu w le lt =
      enough events_stay units_fall looks s (below plain s room) (MOST_LEVELS - room) (below_spends events_stay units_fall looks s room (MOST_LEVELS - room) (omega (arith, le))) scope level
      fuel (suc w.hard.units) cpu w lt (omega arith)

  pub run-law : RunIsTurnAndRun
  run-law s room scope level cpu w le =
      turn_and_run events_stay units_fall looks s (below plain s room) (MOST_LEVELS - room) (below_spends events_stay units_fall looks s room (MOST_LEVELS - room) (omega (arith, le))) scope level cpu w

  pub search-law : SearchIsLookAndSearch
  unfolding below
  search-law s room scope c context marked any w lt =
      let level : ℕ = MOST_LEVELS - suc room in
      let next : level_with room ≡ suc level = omega (arith, lt) in
      rw next
      (search_and_rest events_stay units_fall looks s (level_over plain s (suc level) (below plain s room)) level
      (over_keeps plain any_list SpendsAt (spending_kept events_stay units_fall looks) s level (omega (arith, lt)) (below plain s room) (below_spends events_stay units_fall looks s room (suc level) (omega (arith, lt))))
      (calls_cost events_stay units_fall looks s level (below plain s room) (below_spends events_stay units_fall looks s room (suc level) (omega (arith, lt))) (omega (arith, lt)))
      scope c context marked any w)

  pub found-law : FoundCosts
  unfolding below
  found-law s room scope c context marked w v block lt =
      let level : ℕ = MOST_LEVELS - suc room in
      let next : level_with room ≡ suc level = omega (arith, lt) in
      rw next
      (found_cheaper events_stay units_fall looks s (level_over plain s (suc level) (below plain s room)) level
      (over_keeps plain any_list SpendsAt (spending_kept events_stay units_fall looks) s level (omega (arith, lt)) (below plain s room) (below_spends events_stay units_fall looks s room (suc level) (omega (arith, lt))))
      (calls_cost events_stay units_fall looks s level (below plain s room) (below_spends events_stay units_fall looks s room (suc level) (omega (arith, lt))) (omega (arith, lt)))
      scope c context marked w v block)
