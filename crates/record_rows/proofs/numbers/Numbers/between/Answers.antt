use Rattle.std.proofs.Common.{ap}
use Rattle.std.specs.Map.{keys_of}
use Rattle.record_rows.proofs.BetweenLemmas.{has_between, if_between}
use Rattle.record_rows.proofs.numbers.Numbers.between.Goals as goal

pub returns : goal.returns
returns g c =
    let cmp = g.K.Ord.cmp in
    let entries = c.range.result in
    rw (← c.self.view_is)
    (if_between cmp c.args.low c.args.high c.self.inside.owners.items (keys_of entries) c.keys_in.result
    (has_between cmp c.args.low c.args.high c.self.inside.numbers c.self.inside.owners.items (keys_of entries) c.requires.exact c.self.invariant (ap keys_of (c.range.ensures.between tt))) c.keys_in.ensures)
