use Rattle.record_rows.proofs.InOrder.{rise_in_order}
use Rattle.record_rows.proofs.laws.orders_rise.Goals as goal

pub returns : goal.returns
returns c = rise_in_order
