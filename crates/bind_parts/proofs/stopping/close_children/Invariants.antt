use Rattle.std.proofs.Common.{◌≡◌, drop}
use Rattle.world_model.specs.Marks.{stacks}
use Rattle.driver_model.specs.Moves.{plain}
use Rattle.driver_model.specs.Disconnect.{children_closed}
use Rattle.bind_parts.proofs.stopping.close_children.Given as goal

-- closing the records of the children that are left from here on gives the same as closing those of all
abbrev pub invariant-loop-child : goal.invariant-loop-child
invariant-loop-child l = record {
  rest : children_closed plain l.controller l.agent (drop l.child-index l.children) l.world.now ≡ children_closed plain l.fn.controller l.fn.agent l.fn.children l.fn.world.now;
  marks : l.world.marks ≡ l.fn.world.marks;
  stacks : stacks l.world.now.soft ≡ stacks l.fn.world.now.soft;
  hard : l.world.now.hard ≡ l.fn.world.now.hard;
}
