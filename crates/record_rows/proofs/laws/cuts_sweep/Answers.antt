use Rattle.std.proofs.Common.{not, ap, ◌∙◌}
use Rattle.open_records.specs.Records.{is_named}
use Rattle.open_records.specs.declared.open_record.KeyedRecord.{KeyedRecord}
use Rattle.record_rows.specs.Rows.{in_order, shown}
use Rattle.record_rows.proofs.InOrder.{in_order-filter}
use Rattle.record_rows.proofs.Shown.{shown-swept}
use Rattle.record_rows.proofs.laws.cuts_sweep.Goals as goal

pub returns : goal.returns
returns c rows name = ap in_order (shown-swept rows name) ∙ in_order-filter (λ (one : KeyedRecord). not (is_named name one.rec)) (shown rows)
