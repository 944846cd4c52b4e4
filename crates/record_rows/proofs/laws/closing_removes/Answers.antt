use Rattle.std.proofs.Common.{not, ap, ◌∙◌}
use Rattle.open_records.specs.declared.open_record.KeyedRecord.{KeyedRecord}
use Rattle.record_rows.specs.Rows.{in_order, shown}
use Rattle.record_rows.proofs.InOrder.{in_order-filter}
use Rattle.record_rows.proofs.Shown.{shown-closed}
use Rattle.record_rows.proofs.laws.closing_removes.Goals as goal

pub returns : goal.returns
returns c rows place test only = ap in_order (shown-closed rows.cuts 0 place test rows.lines only) ∙ in_order-filter (λ (one : KeyedRecord). not (test one)) (shown rows)
