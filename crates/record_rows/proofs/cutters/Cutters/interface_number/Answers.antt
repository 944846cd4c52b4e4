use Rattle.open_records.proofs.KeyLemmas.{exact_interface}
use Rattle.record_rows.specs.Inside.{CuttersValue}
use Rattle.record_rows.proofs.GrowLemmas.{classes_after}
use Rattle.record_rows.proofs.cutters.Cutters.interface_number.Goals as goal

pub enter-requires : goal.enter-requires
enter-requires c = exact_interface

pub returns-clause-grown : goal.returns-clause-grown
returns-clause-grown c =
    let old : CuttersValue = record { names = c.self.inside.names; classes = c.self.inside.classes } in
    rw (← c.self.view_is) (classes_after c.enter.result old c.args.interface c.enter.new.self c.enter.ensures.more c.enter.ensures.err)
