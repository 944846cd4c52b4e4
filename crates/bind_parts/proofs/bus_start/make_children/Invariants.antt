use Rattle.std.proofs.Common.{◌≡◌, ◌≤◌, [], true, drop, length}
use Rattle.std.specs.Prelude.{is_some}
use Rattle.world_model.specs.Boards.{root_bus}
use Rattle.world_model.specs.Marks.{stacks}
use Rattle.driver_model.specs.Moves.{plain}
use Rattle.driver_model.specs.BusDriver.{children_made}
use Rattle.bind_parts.proofs.bus_start.make_children.Given as goal

-- making the children that are left from here on gives the same as making all of them
abbrev pub invariant-loop-number : goal.invariant-loop-number
invariant-loop-number l = record {
  rest : children_made plain l.root (drop l.number-index l.numbers) l.children.items l.world.now ≡ children_made plain l.fn.root l.fn.numbers [] l.fn.world.now;
  root : is_some (root_bus l.root l.world.now) ≡ true;
  marks : l.world.marks ≡ l.fn.world.marks;
  stacks : stacks l.world.now.soft ≡ stacks l.fn.world.now.soft;
  units : l.world.now.hard.units ≤ l.fn.world.now.hard.units;
  events : length l.fn.world.now.hard.events ≤ length l.world.now.hard.events;
}
