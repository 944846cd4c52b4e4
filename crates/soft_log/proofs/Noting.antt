-- What open marks keep, as a change is made and noted.
use Rattle.std.proofs.Common.{◌≡◌, ℕ, Bool, true, false, not, nat_eq, List, [], ◌∷◌, ◌++◌, Option, Some, None, refl, sym, ap, subst, ◌∙◌}
use Rattle.std.specs.Prelude.{Result, Ok, Err, is_some, if◌then◌else◌}
use Rattle.std.proofs.lemmas.Bool.{or_right}
use Rattle.guest_memory.specs.declared.segment.Segment.{Segment}
use Rattle.guest_memory.specs.GuestMemory.{answer_in, holder, is_readable, write_answer}
use Rattle.handle_db.specs.Database.{unless}
use Rattle.handle_db.specs.declared.refusal.DbRefusal.{DbRefusal}
use Rattle.world_model.specs.declared.fault.WorldFault.{WorldFault}
use Rattle.world_model.specs.declared.fault.WorldFault.TheVariants.{Full}
use Rattle.undo_log.specs.Log.{Section, noted}
use Rattle.world_model.specs.declared.change.Change.{Change}
use Rattle.world_model.specs.declared.stack_levels.StackLevels.{StackLevels}
use Rattle.soft_log.specs.declared.moment.Moment.{Moment}
use Rattle.world_model.specs.World.{Soft}
use Rattle.world_model.specs.Kept.{IsKept}
use Rattle.world_model.specs.Undo.{kept_by, undone}
use Rattle.world_model.specs.UndoLaws.{CanUndo, IsNoted}
use Rattle.world_model.proofs.UndoNoted.{noted_beside_stacks}
use Rattle.soft_log.specs.Keeping.{AreKept, IsMomentOf, kept_from}

-- what one mark keeps stays
pub kept_by_noted : (change : Change) (changes : List Change) (before after : Soft) (levels : StackLevels) → IsKept before → IsKept after → IsNoted change before after
    → kept_by levels (change ∷ changes) after ≡ kept_by levels changes before
unfolding undone
kept_by_noted change changes before after levels kept still is = ap (undone changes) (noted_beside_stacks change before after levels kept still is).0

noted_from : (later : List Change) (marks : List (Section Change Moment)) (change : Change) (before after : Soft) → IsKept before → IsKept after → IsNoted change before after
    → kept_from (change ∷ later) marks after ≡ kept_from later marks before
unfolding kept_from
noted_from later [] change before after kept still is = refl
noted_from later (mark ∷ marks) change before after kept still is =
    ap (λ (first : Soft). first ∷ kept_from (change ∷ (later ++ mark.changes)) marks after) (kept_by_noted change (later ++ mark.changes) before after mark.carried.levels kept still is)
    ∙ ap (λ (others : List Soft). kept_by mark.carried.levels (later ++ mark.changes) before ∷ others) (noted_from (later ++ mark.changes) marks change before after kept still is)

are_noted_from : (later : List Change) (marks : List (Section Change Moment)) (change : Change) (before after : Soft) → IsKept before → IsKept after → IsNoted change before after
    → AreKept later marks before → AreKept (change ∷ later) marks after
unfolding AreKept
are_noted_from later [] change before after kept still is are = tt
are_noted_from later (mark ∷ marks) change before after kept still is are =
    let one = noted_beside_stacks change before after mark.carried.levels kept still is in
    let changes = later ++ mark.changes in (
      (one.1, subst (CanUndo changes) (sym one.0) are.0),
      subst (IsMomentOf mark.carried) (sym (kept_by_noted change changes before after mark.carried.levels kept still is)) are.1,
      are_noted_from changes marks change before after kept still is are.2,
    )

-- a change is noted: what the marks keep stays
pub kept_noted : (marks : List (Section Change Moment)) (change : Change) (before after : Soft) → IsKept before → IsKept after → IsNoted change before after
    → kept_from [] (noted change marks) after ≡ kept_from [] marks before
unfolding kept_from
kept_noted [] change before after kept still is = refl
kept_noted (mark ∷ marks) change before after kept still is = noted_from [] (mark ∷ marks) change before after kept still is

pub are_noted : (marks : List (Section Change Moment)) (change : Change) (before after : Soft) → IsKept before → IsKept after → IsNoted change before after
    → AreKept [] marks before → AreKept [] (noted change marks) after
unfolding AreKept
are_noted [] change before after kept still is are = tt
are_noted (mark ∷ marks) change before after kept still is are = are_noted_from [] (mark ∷ marks) change before after kept still is are

-- what is made lies at the next place, unless a limit is met
pub made_at : (full : Bool) (next at : ℕ) → ◌≡◌ {A = Result ℕ WorldFault} (if full then Err Full else Ok next) (Ok at) → next ≡ at
made_at true next at is = absurd cc
made_at false next at is = cc

pub room_made : (full : Bool) (next at : ℕ) → ◌≡◌ {A = Result ℕ WorldFault} (if full then Err Full else Ok next) (Ok at) → full ≡ false
room_made true next at is = absurd cc
room_made false next at is = refl

pub flipped : (a b : Bool) → b ≡ not a → a ≡ not b
flipped true b is = ap not (sym is)
flipped false b is = ap not (sym is)

-- what nothing refuses
unless_more : {T : Type 0} (test : Bool) (refusal : DbRefusal) (rest : List (Bool × DbRefusal)) (value found : T) → (unless rest value ≡ Ok found → value ≡ found)
    → ◌≡◌ {A = Result T DbRefusal} (if test then Err refusal else unless rest value) (Ok found) → value ≡ found
unless_more true refusal rest value found later is = absurd cc
unless_more false refusal rest value found later is = later is

pub unless_value : {T : Type 0} (refusals : List (Bool × DbRefusal)) (value found : T) → unless refusals value ≡ Ok found → value ≡ found
unless_value [] value found is = cc
unless_value ((test, refusal) ∷ rest) value found is = unless_more test refusal rest value found (λ later. unless_value rest value found later) is

-- what can be written can be read
readable-holder : (of : Option Segment) → answer_in of ≡ Ok tt → is_some of ≡ true
readable-holder None is = absurd cc
readable-holder (Some segment) is = refl

pub readable_written : (segments : List Segment) (at n : ℕ) → write_answer segments at n ≡ Ok tt → is_readable segments at n ≡ true
readable_written segments at n done = or_right (nat_eq n 0) (is_some (holder segments at n)) (readable-holder (holder segments at n) done)
