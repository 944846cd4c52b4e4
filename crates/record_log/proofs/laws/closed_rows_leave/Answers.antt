use Rattle.std.proofs.Common.{not, ap, ◌∙◌}
use Rattle.open_records.specs.declared.open_record.KeyedRecord.{KeyedRecord}
use Rattle.record_rows.specs.Rows.{in_order, shown}
use Rattle.record_rows.proofs.InOrder.{in_order-filter}
use Rattle.record_log.proofs.LineChanges.{closed_shown}
use Rattle.record_log.proofs.laws.closed_rows_leave.Goals as goal

pub returns : goal.returns
returns c limit test places rows sound are = ap in_order (closed_shown limit test places rows sound are) ∙ in_order-filter (λ (one : KeyedRecord). not (test one)) (shown rows)
