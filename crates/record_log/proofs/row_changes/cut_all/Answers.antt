use Rattle.std.proofs.Common.{true, None}
use Rattle.fw_types.specs.declared.attr.TheConstants.Attr.{ALL_BITS}
use Rattle.open_records.specs.Records.{is_meant}
use Rattle.open_records.specs.Leaving.{cut, swept}
use Rattle.record_log.proofs.CutChanges.{all_cut_by, interface_known, name_cut_by, name_known, one_cut, two_cuts}
use Rattle.record_log.proofs.row_changes.cut_all.Goals as goal

pub returns-then-not-goes-clause-change : goal.returns-then-not-goes-clause-change
returns-then-not-goes-clause-change c limit sound =
    let old = c.args.rows.now in
    let new = c.cut_interface-interface.new.rows in
    let result = c.cut_interface-interface.result in
    rw c.if-not-goes.true
    (one_cut limit c.args.handle c.args.guid result (cut c.args.handle c.args.guid (is_meant None None ALL_BITS)) old new
    (all_cut_by limit c.args.handle c.args.guid old new sound result c.cut_interface-interface.ensures.cut)
    (interface_known limit c.args.handle c.args.guid old new sound true result c.cut_interface-interface.ensures.cut) c.cut_interface-interface.ensures.keys)

pub returns-clause-change : goal.returns-clause-change
returns-clause-change c limit sound =
    let handle = c.args.handle in
    let old = c.args.rows.now in
    let between = c.cut_interface-interface.new.rows in
    let new = c.cut_name-name.new.rows in
    let interface = c.cut_interface-interface.result in
    let name = c.cut_name-name.result in
    let first = all_cut_by limit handle c.args.guid old between sound interface c.cut_interface-interface.ensures.cut in
    let cuts = c.cut_name-name.ensures.cut in
    rw c.if-not-goes.false
    (two_cuts limit handle c.args.guid interface name (cut handle c.args.guid (is_meant None None ALL_BITS)) (swept handle) old between new
    first (name_cut_by limit handle between new first.sound name cuts)
    (interface_known limit handle c.args.guid old between sound true interface c.cut_interface-interface.ensures.cut) (name_known limit handle between new first.sound name cuts)
    c.cut_interface-interface.ensures.keys c.cut_name-name.ensures.keys)
