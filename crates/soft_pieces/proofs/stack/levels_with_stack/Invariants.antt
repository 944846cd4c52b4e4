use Rattle.std.proofs.Common.{◌≡◌, ◌<◌, ℕ, false, length, get_or}
use Rattle.world_model.specs.Stacks.{has_stack}
use Rattle.soft_pieces.proofs.stack.levels_with_stack.Given as goal

abbrev pub invariant-loop-level : goal.invariant-loop-level
invariant-loop-level l = record {
  size : length l.has_stack ≡ 33;
  below : (k : ℕ) → k < l.level → get_or l.has_stack k false ≡ has_stack k l.memory;
}
