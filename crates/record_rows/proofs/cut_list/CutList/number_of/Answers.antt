use Rattle.record_rows.proofs.PairLemmas.{found_pair}
use Rattle.record_rows.proofs.cut_list.CutList.number_of.Goals as goal

pub returns : goal.returns
returns g c = rw (← c.self.view_is) (found_pair c.self.inside.owners c.self.inside.cuts.items c.args.key c.number_of.result c.self.invariant c.number_of.ensures)
