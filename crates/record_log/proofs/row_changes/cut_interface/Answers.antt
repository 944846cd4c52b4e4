use Rattle.record_rows.specs.Inside.{rows_of}
use Rattle.record_log.proofs.CutChanges.{interface_fallen}
use Rattle.record_log.proofs.row_changes.cut_interface.Goals as goal

pub returns-clause-tally : goal.returns-clause-tally
returns-clause-tally c =
    let a = c.args in
    c.fall.ensures (rows_of a.rows.now) (rows_of c.cut_interface-cuts.new.self)
    (interface_fallen a.handle a.guid a.rows.now c.cut_interface-cuts.new.self c.few_on-before.result c.few_on.result c.few_on-before.ensures c.few_on.ensures a.all c.cut_interface-cuts.result c.cut_interface-cuts.ensures.cut)
    c.requires
