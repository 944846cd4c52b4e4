use Rattle.std.proofs.Common.{ℕ, ap, sym, subst}
use Rattle.record_rows.specs.Inside.{CuttersValue, HasNumber}
use Rattle.record_rows.proofs.CutLemmas.{class_cut_there}
use Rattle.record_rows.proofs.cutters.Cutters.class_cut.Goals as goal

pub returns-then-has_bit_of : goal.returns-then-has_bit_of
returns-then-has_bit_of c interface has =
    let there = subst (λ (cutters : CuttersValue). HasNumber cutters.classes interface c.args.mark.now.interface) (sym c.self.view_is) has in
    let cuts = class_cut_there c.self.inside.classes c.args.mark.now.interface interface c.cut-weak.result c.soundness.ensures there c.cut-weak.ensures in
    rw (← c.self.view_is) (rw (← c.if-has_bit_of.ensures) (ap (λ (both : ℕ × ℕ). both.0) cuts))

pub returns-else-has_bit_of : goal.returns-else-has_bit_of
returns-else-has_bit_of c interface has =
    let there = subst (λ (cutters : CuttersValue). HasNumber cutters.classes interface c.args.mark.now.interface) (sym c.self.view_is) has in
    let cuts = class_cut_there c.self.inside.classes c.args.mark.now.interface interface c.cut-weak.result c.soundness.ensures there c.cut-weak.ensures in
    rw (← c.self.view_is) (rw (← c.if-has_bit_of.ensures) (ap (λ (both : ℕ × ℕ). both.1) cuts))
