use Rattle.std.proofs.Common.{ap, refl, ◌∙◌}
use Rattle.record_rows.specs.Inside.{cuts_in}
use Rattle.record_rows.proofs.CutLemmas.{cut_there, firsts, firsts_stay, is_there, name_is_cut}
use Rattle.record_rows.proofs.cutters.Cutters.cut_name.Goals as goal

pub returns-in-Some : goal.returns-in-Some
returns-in-Some c =
    let names = c.self.inside.names in
    let classes = c.self.inside.classes in
    rw (← c.self.view_is) (record {
      there = is_there names c.args.name c.in-Some.number c.in-Some.ensures;
      was = cut_there names c.in-Some.number c.args.name c.cut-before.result c.soundness.ensures c.in-Some.ensures c.cut-before.ensures;
      cuts = ap (λ list. cuts_in list classes) c.set.ensures ∙ name_is_cut names classes c.in-Some.number c.args.name c.args.place c.soundness.ensures c.in-Some.ensures;
      names = ap firsts c.set.ensures ∙ firsts_stay c.in-Some.number c.args.place names;
      classes = refl;
    })
