use Rattle.std.proofs.Common.{◌≡◌}
use Rattle.world_model.specs.Marks.{stacks}
use Rattle.fw_world.proofs.undo_table.all_calls_are_undone_in.Given as goal

-- the outer mark is the newest between the calls, and the stacks stay
abbrev pub invariant-loop-call : goal.invariant-loop-call
invariant-loop-call g l = record {
  marks : l.world.marks ≡ l.initial.world.marks;
  stacks : stacks l.world.now.soft ≡ stacks l.initial.world.now.soft;
}
