use Rattle.std.proofs.Common.{◌≡◌, length, rules, arith}
use Rattle.std.proofs.lemmas.Grind.{common_steps}
use Rattle.bind_plan.proofs.LeftOut.{none_chosen}
use Rattle.bind_plan.proofs.driver_order.with_others.Goals as goal

pub returns-then-is_empty : goal.returns-then-is_empty
returns-then-is_empty c =
    let none : length c.args.chosen.items ≡ 0 = first_of (search rules, grind (arith, common_steps)) in
    none_chosen c.args.chosen.items c.args.others.items none
