use Rattle.std.proofs.Common.{ℕ, ap, refl, ◌∙◌}
use Rattle.record_rows.specs.Inside.{cuts_in}
use Rattle.record_rows.specs.Rows.{with_both_cuts}
use Rattle.record_rows.proofs.CutLemmas.{class_cut_there, class_is_cut, firsts, firsts_stay, is_there}
use Rattle.record_rows.proofs.cutters.Cutters.cut_interface.Goals as goal

pub returns-in-Some : goal.returns-in-Some
returns-in-Some c =
    let names = c.self.inside.names in
    let classes = c.self.inside.classes in
    rw (← c.self.view_is) (record {
      there = is_there classes c.args.interface c.in-Some.number c.in-Some.ensures;
      was = class_cut_there classes c.in-Some.number c.args.interface c.cut-before.result c.soundness.ensures c.in-Some.ensures c.cut-before.ensures;
      cuts = ap (λ list. cuts_in names list) c.set.ensures ∙ class_is_cut names classes c.in-Some.number c.args.interface (c.args.weak, c.unwrap_or.result) c.soundness.ensures c.in-Some.ensures ∙ ap (λ (cut : ℕ). with_both_cuts c.args.interface (c.args.weak, cut) (cuts_in names classes)) c.unwrap_or.ensures;
      classes = ap firsts c.set.ensures ∙ firsts_stay c.in-Some.number (c.args.weak, c.unwrap_or.result) classes;
      names = refl;
    })
