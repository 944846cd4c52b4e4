use Rattle.std.proofs.Common.{List, sym, ap, ◌∙◌}
use Rattle.std.specs.Prelude.{Result, Ok}
use Rattle.fw_types.specs.declared.event.Outcome.{Outcome}
use Rattle.world_model.specs.World.{State}
use Rattle.driver_model.specs.declared.bus_driver.NewChild.{NewChild}
use Rattle.bind_parts.proofs.BusChildren.{made_all}
use Rattle.bind_parts.proofs.bus_start.make_children.Goals as goal

pub returns-clause-now : goal.returns-clause-now
returns-clause-now c =
    sym c.loop-number.invariant.rest
    ∙ made_all c.args.root c.args.numbers.now c.loop-number.number-index c.loop-number.children.items c.loop-number.world.now c.loop-number-test.false
    ∙ ap (λ (children : List NewChild). let r : Result (List NewChild) Outcome × State = (Ok children, c.loop-number.world.now) in r) (sym c.of.ensures)
