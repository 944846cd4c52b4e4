-- All levels keep what each single move keeps, by how many levels are below them.
use Rattle.std.proofs.Common.{◌≡◌, ◌<◌, ◌≤◌, ℕ, suc, Bool, List, arith}
use Rattle.fw_types.specs.declared.limits.TheConstants.{MOST_LEVELS}
use Rattle.driver_model.specs.Moves.{Operations}
use Rattle.driver_model.specs.Levels.{below, level_over, level_with}
use Rattle.driver_model.specs.declared.settings.Settings.{Settings}
use Rattle.driver_model.proofs.Keeping.{Keeps, KeepsBelow, KeepsMoves}
use Rattle.driver_model.proofs.KeepingCalls.{below_keeps, over_keeps}

module _ {S : Type 0} (o : Operations S) (is_listable : List ℕ → Bool) (R : (level : ℕ) → S → S → Type 0) (kept : KeepsMoves o is_listable R) (settings : Settings) (room : ℕ) where
  -- all levels below one that has so many below it
  pub levels_below : room ≤ MOST_LEVELS → KeepsBelow is_listable R (level_with room) (below o settings room)
  levels_below le = below_keeps o is_listable R kept settings room (level_with room) (omega (arith, le))

  -- the level itself, as the level before it sees it
  pub level_itself : room < MOST_LEVELS → Keeps is_listable R (level_with (suc room)) (level_over o settings (level_with room) (below o settings room))
  level_itself lt =
      let next : level_with room ≡ suc (level_with (suc room)) = omega (arith, lt) in
      let under : KeepsBelow is_listable R (suc (level_with (suc room))) (below o settings room) = rw (← next) (levels_below (omega (arith, lt))) in
      rw next (over_keeps o is_listable R kept settings (level_with (suc room)) (omega (arith, lt)) (below o settings room) under)
