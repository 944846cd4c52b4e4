use Rattle.std.proofs.Common.{ℕ, ap, sym}
use Rattle.record_rows.proofs.CutLemmas.{class_cut_absent, class_cut_there}
use Rattle.record_rows.proofs.cutters.Cutters.other_cut.Goals as goal

pub returns-in-None : goal.returns-in-None
returns-in-None c = rw (← c.self.view_is) (ap (λ (both : ℕ × ℕ). both.1) (sym (class_cut_absent c.self.inside.classes c.args.interface c.in-None.ensures)))

pub returns-in-Some : goal.returns-in-Some
returns-in-Some c =
    rw (← c.self.view_is) (ap (λ (both : ℕ × ℕ). both.1) (sym (class_cut_there c.self.inside.classes c.in-Some.number c.args.interface c.cut.result c.soundness.ensures c.in-Some.ensures c.cut.ensures)))
