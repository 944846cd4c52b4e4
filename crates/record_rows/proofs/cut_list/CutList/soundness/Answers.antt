use Rattle.std.proofs.Common.{sym, subst}
use Rattle.record_rows.specs.Numbers.{AreDistinct}
use Rattle.record_rows.proofs.PairLemmas.{pairs_firsts}
use Rattle.record_rows.proofs.cut_list.CutList.soundness.Goals as goal

pub returns : goal.returns
returns g c = rw (← c.self.view_is) (subst AreDistinct (sym (pairs_firsts c.self.inside.owners c.self.inside.cuts.items c.self.invariant)) c.soundness.ensures)
