use Rattle.std.proofs.Common.{ℕ, nat_le, ap, sym, subst}
use Rattle.record_rows.specs.Inside.{CuttersValue, HasNumber}
use Rattle.record_rows.proofs.CutLemmas.{class_cut_there}
use Rattle.record_rows.proofs.cutters.Cutters.is_weak_cut.Goals as goal

pub returns : goal.returns
returns c interface has =
    let there = subst (λ (cutters : CuttersValue). HasNumber cutters.classes interface c.args.number) (sym c.self.view_is) has in
    let cuts = class_cut_there c.self.inside.classes c.args.number interface c.cut.result c.soundness.ensures there c.cut.ensures in
    rw (← c.self.view_is) (ap (λ (both : ℕ × ℕ). nat_le c.args.place both.0) (sym cuts))
