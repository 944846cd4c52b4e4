use Rattle.record_rows.proofs.Undone.{closed_back}
use Rattle.record_rows.proofs.laws.closings_are_undone.Goals as goal

pub returns : goal.returns
returns c = closed_back
