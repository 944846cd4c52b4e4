-- What stays at a level: each move that can be made keeps it.
use Rattle.std.proofs.Common.{◌≡◌, ◌<◌, ◌≤◌, ℕ, suc, ◌+◌, ◌-◌, Bool, true, false, nat_eq, nat_lt, List, [], ◌∷◌, length, refl, sym, subst, arith}
use Rattle.std.specs.Prelude.{Some, if◌then◌else◌}
use Rattle.std.proofs.lemmas.Bool.Decides.{nat_tests}
use Rattle.fw_types.specs.declared.limits.TheConstants.{CALL_PRICE, MOST_HANDLES, MOST_LEVELS}
use Rattle.world_model.specs.World.{Soft, State}
use Rattle.world_model.specs.Marks.{stacks}
use Rattle.world_model.specs.Units.{units_aside}
use Rattle.world_model.proofs.Children.{children_are_few}
use Rattle.world_model.proofs.Levels.{deeper_is_free}
use Rattle.driver_model.specs.Moves.{Move, Operations, changed, plain, pays, caps, returns, begins_event, pushes, pops, puts_back}
use Rattle.driver_model.specs.Disconnect.{children_to_stop}
use Rattle.driver_model.specs.Staying.{CanRun, Stays, fits_list}
use Rattle.driver_model.specs.StopOrder.{children_of}
use Rattle.driver_model.proofs.Keeping.{KeepsEachMove, KeepsMoves, allowed_in_calls}
use Rattle.driver_model.proofs.PushedStacks.{next_can_run, popped_stays}
use Rattle.driver_model.proofs.Changes.{joined_stays, same_stays}
use Rattle.driver_model.proofs.SingleMoves.{move_stays}

-- ---- what can run

pub can_run_after : (level : ℕ) (old new : Soft) → CanRun level old → Stays old new → CanRun level new
can_run_after level old new can stays = record { kept = stays.kept; free = rw stays.stacks can.free }

pub can_run_deeper : (level : ℕ) (soft : Soft) → CanRun level soft → CanRun (suc level) soft
can_run_deeper level soft can = by_end (nat_lt level MOST_LEVELS) refl
  where
    by_end : (before_last : Bool) → nat_lt level MOST_LEVELS ≡ before_last → CanRun (suc level) soft
    by_end true is =
        let lt : level < MOST_LEVELS = grind (arith, nat_tests, is) in
        let one_more : (MOST_LEVELS - suc level) + 1 ≡ MOST_LEVELS - level = omega (arith, lt) in
        record { kept = can.kept; free = deeper_is_free (MOST_LEVELS - suc level) (stacks soft) [] (rw one_more can.free) }
    by_end false is =
        let end : MOST_LEVELS ≤ level = grind (arith, nat_tests, is) in
        let same : MOST_LEVELS - suc level ≡ MOST_LEVELS - level = omega (arith, end) in
        record { kept = can.kept; free = rw same can.free }

-- ---- lists of children

pub few_to_stop : (child : ℕ) (children : List ℕ) → length children ≤ MOST_HANDLES → fits_list (children_to_stop child children) ≡ true
few_to_stop child [] few = refl
few_to_stop child (one ∷ children) few = by_child (nat_eq child 0)
  where
    by_child : (all : Bool) → fits_list (if all then one ∷ children else child ∷ []) ≡ true
    by_child true = grind (arith, nat_tests, few)
    by_child false = refl

-- ---- the relation

-- what holds of a world in which a level can run stays
abbrev pub StaysAt : (level : ℕ) → State → State → Type 0
StaysAt level old new = CanRun level old.soft → Stays old.soft new.soft

-- Each move keeps it, whatever a machine is made of, if a move is seen as the change that it makes.
module _ {S : Type 0} (o : Operations S) (sees : (move : Move) (w : S) → o.see (o.make move w) ≡ changed move (o.see w)) where
  abbrev pub StaysSeenAt : (level : ℕ) → S → S → Type 0
  StaysSeenAt level w v = StaysAt level (o.see w) (o.see v)

  after_move : (level : ℕ) (move : Move) (w v : S) → StaysAt level (o.see w) (changed move (o.see v)) → StaysSeenAt level w (o.make move v)
  after_move level move w v stays = subst (λ (seen : State). StaysAt level (o.see w) seen) (sym (sees move v)) stays

  from_move : (level : ℕ) (move : Move) (w v : S) → StaysSeenAt level (o.make move w) v → StaysAt level (changed move (o.see w)) (o.see v)
  from_move level move w v stays = subst (λ (seen : State). StaysAt level seen (o.see v)) (sees move w) stays

  pub each_move : KeepsEachMove o StaysSeenAt
  each_move level move w is = after_move level move w w (λ can. move_stays move (o.see w) is can.kept)

  pub stays_seen : KeepsMoves o fits_list StaysSeenAt
  stays_seen = record {
    sees = sees;
    same = λ level w can. same_stays (o.see w).soft can.kept;
    joined = λ level a b c one two can.
        let first : Stays (o.see a).soft (o.see b).soft = one can in
        joined_stays (o.see a).soft (o.see b).soft (o.see c).soft first (two (can_run_after level (o.see a).soft (o.see b).soft can first));
    moves = λ level move w is. each_move level move w (allowed_in_calls move (o.see w) is);
    begins = λ level parent kind driver controller extra w enough.
        after_move level (begins_event parent kind driver controller extra) w (o.make (pays CALL_PRICE) w)
        (after_move level (pays CALL_PRICE) w w (λ can. same_stays (o.see w).soft can.kept));
    capped = λ level most w v inner. after_move level (returns (units_aside most (o.see w).hard)) w v (from_move level (caps most) w v inner);
    stacked = λ level slots children w v lt sixteen few inner.
        after_move level (pops (suc level)) w v
        (λ can. popped_stays level slots children (o.see w).soft can lt sixteen few (o.see v).soft
        (from_move (suc level) (pushes (suc level) slots children) w v inner (next_can_run level slots children (o.see w).soft can lt sixteen few)));
    childless = refl;
    few = λ level controller agent child w v goes can.
        goes (few_to_stop child (children_of controller (Some agent) (o.see w).soft) (children_are_few (o.see w).soft controller (Some agent) can.kept)) can;
    deeper = λ level w v inner can. inner (can_run_deeper level (o.see w).soft can);
    undone = λ level w v inner. after_move level (puts_back (o.see w).soft) w v (λ can. same_stays (o.see w).soft can.kept);
  }

pub each_move_stays : KeepsEachMove plain StaysAt
each_move_stays = each_move plain (λ move w. refl)

pub stays_kept : KeepsMoves plain fits_list StaysAt
stays_kept = stays_seen plain (λ move w. refl)
