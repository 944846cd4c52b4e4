use Rattle.record_rows.proofs.Undone.{counted_back}
use Rattle.record_rows.proofs.laws.counts_are_undone.Goals as goal

pub returns : goal.returns
returns c = counted_back
