use Rattle.std.proofs.Common.{None, false}
use Rattle.fw_types.specs.declared.attr.TheConstants.Attr.{WEAK_BITS}
use Rattle.open_records.specs.Records.{is_meant}
use Rattle.open_records.specs.Leaving.{cut}
use Rattle.record_log.proofs.CutChanges.{interface_known, one_cut, weak_cut_by}
use Rattle.record_log.proofs.row_changes.cut_weak.Goals as goal

pub returns-clause-change : goal.returns-clause-change
returns-clause-change c limit sound =
    let old = c.args.rows.now in
    let new = c.cut_interface-interface.new.rows in
    let result = c.cut_interface-interface.result in
    one_cut limit c.args.handle c.args.guid result (cut c.args.handle c.args.guid (is_meant None None WEAK_BITS)) old new
    (weak_cut_by limit c.args.handle c.args.guid old new sound result c.cut_interface-interface.ensures.cut)
    (interface_known limit c.args.handle c.args.guid old new sound false result c.cut_interface-interface.ensures.cut) c.cut_interface-interface.ensures.keys
