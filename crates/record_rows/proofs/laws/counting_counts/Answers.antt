use Rattle.record_rows.proofs.Shown.{shown-counted}
use Rattle.record_rows.proofs.laws.counting_counts.Goals as goal

pub returns : goal.returns
returns c rows place count test only = shown-counted rows.cuts 0 place count test rows.lines only
