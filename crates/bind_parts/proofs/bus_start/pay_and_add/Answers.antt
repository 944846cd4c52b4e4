use Rattle.std.proofs.Common.{◌≡◌, true, false, arith, rules, nat_lt}
use Rattle.std.proofs.lemmas.Bool.Decides.{nat_tests}
use Rattle.driver_model.specs.Moves.{changed, pays}
use Rattle.driver_model.specs.declared.bus_driver.TheConstants.{CHILD_PRICE}
use Rattle.bind_parts.proofs.BusChildren.{made_none, made_short, made_some}
use Rattle.bind_parts.proofs.bus_start.pay_and_add.Goals as goal

pub returns-then-left-lt-CHILD_PRICE-clause-made : goal.returns-then-left-lt-CHILD_PRICE-clause-made
returns-then-left-lt-CHILD_PRICE-clause-made c =
    let short : nat_lt c.args.world.now.now.hard.units CHILD_PRICE ≡ true = grind (arith, nat_tests, c.left.ensures, c.if-left-lt-CHILD_PRICE.true) in
    λ numbers children. made_short c.args.root c.args.f numbers children c.args.world.now.now short

pub returns-in-Some-clause-made : goal.returns-in-Some-clause-made
returns-in-Some-clause-made c =
    let enough : nat_lt c.args.world.now.now.hard.units CHILD_PRICE ≡ false = grind (arith, nat_tests, c.left.ensures, c.if-left-lt-CHILD_PRICE.false) in
    let paying : c.spend.new.self.now ≡ changed (pays CHILD_PRICE) c.args.world.now.now = search rules in
    λ numbers children. made_some c.args.root c.args.f numbers children c.args.world.now.now c.spend.new.self.now c.add_child.new.world.now c.in_ok-child.field-0 c.in-Some.child
    enough paying c.in_ok-child.ensures.child c.in-Some.is c.in_ok-child.ensures.now

pub returns-in-None-clause-made : goal.returns-in-None-clause-made
returns-in-None-clause-made c =
    let enough : nat_lt c.args.world.now.now.hard.units CHILD_PRICE ≡ false = grind (arith, nat_tests, c.left.ensures, c.if-left-lt-CHILD_PRICE.false) in
    let paying : c.spend.new.self.now ≡ changed (pays CHILD_PRICE) c.args.world.now.now = search rules in
    λ numbers children. made_none c.args.root c.args.f numbers children c.args.world.now.now c.spend.new.self.now c.add_child.new.world.now c.in_ok-child.field-0
    enough paying c.in_ok-child.ensures.child c.in-None.is c.in_ok-child.ensures.now
