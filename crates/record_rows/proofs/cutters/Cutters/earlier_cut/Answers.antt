use Rattle.std.proofs.Common.{◌≤◌, sym, subst, arith}
use Rattle.record_rows.specs.Inside.{CuttersValue, HasNumber}
use Rattle.record_rows.proofs.CutLemmas.{class_cut_there}
use Rattle.record_rows.proofs.cutters.Cutters.earlier_cut.Goals as goal

pub returns : goal.returns
returns c interface has =
    let there = subst (λ (cutters : CuttersValue). HasNumber cutters.classes interface c.args.number) (sym c.self.view_is) has in
    let cuts = class_cut_there c.self.inside.classes c.args.number interface c.cut-weak.result c.soundness.ensures there c.cut-weak.ensures in
    let first : c.min.result ≤ c.cut-weak.result.0 = omega (arith, c.min.ensures) in
    let second : c.min.result ≤ c.cut-weak.result.1 = omega (arith, c.min.ensures) in
    rw (← c.self.view_is, cuts) (first, second)
