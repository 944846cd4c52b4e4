use Rattle.std.proofs.Common.{◌-◌, length, take, false}
use Rattle.record_rows.specs.Rows.{counted_at}
use Rattle.record_log.specs.TakingBack.{closed_each}
use Rattle.record_log.proofs.LineChanges.{keys_of_lines}
use Rattle.record_log.proofs.RecordMarks.{name_stays}
use Rattle.record_log.proofs.row_changes.take_back.Goals as goal

pub restore_name-requires : goal.restore_name-requires
restore_name-requires c =
    let known = rw c.in-Cut.is at c.requires in
    name_stays c.args.rows.now c.restore_interface.new.rows c.restore_interface.ensures.keys c.in-Cut.handle c.in-Cut.name known.1

pub returns-in-Made-clause-keys : goal.returns-in-Made-clause-keys
returns-in-Made-clause-keys c = keys_of_lines c.args.rows.now c.pop.new.self (take (length c.args.rows.now.lines - 1) c.args.rows.now.lines) c.pop.ensures

pub returns-in-Counted-clause-keys : goal.returns-in-Counted-clause-keys
returns-in-Counted-clause-keys c = keys_of_lines c.args.rows.now c.set_count.new.self (counted_at c.in-Counted.place c.in-Counted.before c.args.rows.now.lines) c.set_count.ensures

pub returns-in-Closed-clause-keys : goal.returns-in-Closed-clause-keys
returns-in-Closed-clause-keys c = keys_of_lines c.args.rows.now c.open_each.new.rows (closed_each c.as_slice.result.now false c.args.rows.now.lines) c.open_each.ensures
