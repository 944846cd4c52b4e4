use Rattle.std.proofs.Common.{ap}
use Rattle.record_rows.specs.Rows.{in_order}
use Rattle.record_log.proofs.Fresh.{shown_fresh}
use Rattle.record_log.proofs.laws.fresh_rows_give_the_same.Goals as goal

pub returns : goal.returns
returns c rows = ap in_order (shown_fresh rows)
