use Rattle.std.proofs.Common.{◌≡◌, drop, take}
use Rattle.driver_model.specs.EarlyRefusal.{refused_after, refused_early}
use Rattle.bind_parts.proofs.early_refusal.is_refused_early.Given as goal

-- the pairs so far are not refused, and nobody uses them
abbrev pub invariant-loop-at : goal.invariant-loop-at
invariant-loop-at l = refused_early l.fn.interfaces l.fn.world.now.soft ≡ refused_after (take l.at l.interfaces) (drop l.at l.interfaces) l.world.now.soft
