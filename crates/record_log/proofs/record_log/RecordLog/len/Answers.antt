use Rattle.std.proofs.Common.{length, ap, sym, ◌∙◌, arith}
use Rattle.record_rows.specs.Inside.{rows_of}
use Rattle.record_log.specs.MarkedRecords.{MarkedRecords}
use Rattle.record_rows.specs.Rows.{shown}
use Rattle.record_rows.proofs.InOrder.{length_in_order}
use Rattle.record_log.proofs.record_log.RecordLog.len.Goals as goal

pub overflow_cast-result : goal.overflow_cast-result
overflow_cast-result c = omega (arith, c.count_of.ensures, length_in_order (shown (rows_of c.self.inside.rows)), c.self.invariant.now.table.few)

pub returns : goal.returns
returns c = c.count_of.ensures ∙ sym (length_in_order (shown (rows_of c.self.inside.rows))) ∙ ap (λ (v : MarkedRecords). length v.now.entries) c.self.view_is
