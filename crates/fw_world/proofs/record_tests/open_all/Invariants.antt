use Rattle.std.proofs.Common.{◌≡◌}
use Rattle.world_model.specs.Marks.{stacks}
use Rattle.fw_world.proofs.record_tests.open_all.Given as goal

-- the marks and the stacks are the same as before
abbrev pub invariant-loop-asked : goal.invariant-loop-asked
invariant-loop-asked g l = record {
  marks : l.world.marks ≡ l.fn.world.marks;
  stacks : stacks l.world.now.soft ≡ stacks l.fn.world.now.soft;
}
