use Rattle.std.proofs.Common.{sym}
use Rattle.record_rows.proofs.BetweenLemmas.{if_owners}
use Rattle.record_rows.proofs.PairLemmas.{pairs_firsts}
use Rattle.record_rows.proofs.cut_list.CutList.between.Goals as goal

pub returns : goal.returns
returns g c =
    rw (← c.self.view_is)
    (if_owners g.K.Ord.cmp c.args.low c.args.high c.self.inside.owners _ c.between.result (sym (pairs_firsts c.self.inside.owners c.self.inside.cuts.items c.self.invariant)) c.between.ensures)
