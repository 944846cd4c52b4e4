use Rattle.std.proofs.Common.{length, ap, arith}
use Rattle.record_rows.proofs.PairLemmas.{pairs_long, pairs_set}
use Rattle.record_rows.proofs.cut_list.CutList.set.Goals as goal

pub index_mut-requires : goal.index_mut-requires
index_mut-requires g c =
    let long = pairs_long c.self.inside.owners c.self.inside.cuts.items c.self.invariant in
    omega (arith, c.requires, ap length c.self.view_is, long, c.self.invariant, c.self.inside.cuts.ok.0)

pub returns : goal.returns
returns g c = rw (← c.self.view_is) (pairs_set c.self.inside.owners c.self.inside.cuts.items c.args.number c.args.cut c.self.invariant)
