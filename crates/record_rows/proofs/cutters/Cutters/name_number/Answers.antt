use Rattle.record_rows.specs.Inside.{CuttersValue}
use Rattle.record_rows.proofs.GrowLemmas.{names_after}
use Rattle.record_rows.proofs.cutters.Cutters.name_number.Goals as goal

pub returns-clause-grown : goal.returns-clause-grown
returns-clause-grown c =
    let old : CuttersValue = record { names = c.self.inside.names; classes = c.self.inside.classes } in
    rw (← c.self.view_is) (names_after c.enter.result old c.args.name c.enter.new.self c.enter.ensures.more c.enter.ensures.err)
