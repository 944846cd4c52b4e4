use Rattle.std.proofs.Common.{sym, subst}
use Rattle.record_rows.specs.Inside.{CuttersValue, HasNumber}
use Rattle.record_rows.proofs.CutLemmas.{cut_there}
use Rattle.record_rows.proofs.cutters.Cutters.name_cut.Goals as goal

pub returns : goal.returns
returns c name has =
    let there = subst (λ (cutters : CuttersValue). HasNumber cutters.names name c.args.number) (sym c.self.view_is) has in
    rw (← c.self.view_is) (cut_there c.self.inside.names c.args.number name c.cut.result c.soundness.ensures there c.cut.ensures)
