use Rattle.std.proofs.Common.{length, ap, sym, ◌∙◌}
use Rattle.record_rows.proofs.PairLemmas.{pairs_long}
use Rattle.record_rows.proofs.cut_list.CutList.len.Goals as goal

pub returns : goal.returns
returns g c =
    c.len.ensures ∙ c.self.inside.cuts.ok.0 ∙ sym c.self.invariant ∙ sym (pairs_long c.self.inside.owners c.self.inside.cuts.items c.self.invariant) ∙ ap length c.self.view_is
