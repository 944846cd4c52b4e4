use Rattle.std.proofs.Common.{ap, ◌∙◌}
use Rattle.record_rows.specs.Rows.{in_order, shown}
use Rattle.record_rows.proofs.InOrder.{in_order-pushed}
use Rattle.record_rows.proofs.Shown.{shown-pushed}
use Rattle.record_rows.proofs.laws.rows_enter.Goals as goal

pub returns : goal.returns
returns c rows one within = ap in_order (shown-pushed rows one within) ∙ in_order-pushed (shown rows) one
