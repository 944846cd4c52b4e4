use Rattle.std.proofs.Common.{sym, ap, ◌∙◌}
use Rattle.world_model.specs.World.{State}
use Rattle.bind_parts.proofs.BusChildren.{freed_all, freed_next}
use Rattle.bind_parts.proofs.bus_stop.free_blocks.Goals as goal

pub loop-i-preserved : goal.loop-i-preserved
loop-i-preserved c = record {
  rest =
      sym (freed_next c.args.interfaces.now c.loop-i.i-index c.i-item.result c.loop-i.world.now c.free_block.new.world.now c.loop-i-test.true c.i-item.is c.in_ok-free_block.ensures.now)
      ∙ c.loop-i.invariant.rest;
  marks = c.in_ok-free_block.ensures.marks ∙ c.loop-i.invariant.marks;
  stacks = c.in_ok-free_block.ensures.stacks ∙ c.loop-i.invariant.stacks;
  hard = ap (λ (w : State). w.hard) c.in_ok-free_block.ensures.now ∙ c.loop-i.invariant.hard;
}

pub returns-clause-now : goal.returns-clause-now
returns-clause-now c = sym c.loop-i.invariant.rest ∙ freed_all c.args.interfaces.now c.loop-i.i-index c.loop-i.world.now c.loop-i-test.false
