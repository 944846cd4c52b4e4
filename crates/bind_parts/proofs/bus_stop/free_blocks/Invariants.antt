use Rattle.std.proofs.Common.{◌≡◌, drop}
use Rattle.world_model.specs.Marks.{stacks}
use Rattle.driver_model.specs.Moves.{plain}
use Rattle.driver_model.specs.BusDriver.{blocks_freed}
use Rattle.bind_parts.proofs.bus_stop.free_blocks.Given as goal

-- freeing the blocks that are left from here on gives the same as freeing all of them
abbrev pub invariant-loop-i : goal.invariant-loop-i
invariant-loop-i l = record {
  rest : blocks_freed plain (drop l.i-index l.interfaces) l.world.now ≡ blocks_freed plain l.fn.interfaces l.fn.world.now;
  marks : l.world.marks ≡ l.fn.world.marks;
  stacks : stacks l.world.now.soft ≡ stacks l.fn.world.now.soft;
  hard : l.world.now.hard ≡ l.fn.world.now.hard;
}
