use Rattle.bind_plan.proofs.HandleSets.{set_more}
use Rattle.bind_plan.proofs.handle_set.set_of.Goals as goal

pub loop-number-preserved : goal.loop-number-preserved
loop-number-preserved c =
    set_more c.loop-number.set c.insert.new.self c.args.numbers.now c.loop-number.number-index c.in_ok-insert.ensures.updates c.loop-number-test.true c.loop-number.invariant
