use Rattle.record_rows.proofs.Undone.{name_cut_back, other_cut_back, weak_cut_back}
use Rattle.record_rows.proofs.laws.cuts_are_undone.Goals as goal

pub returns-clause-name : goal.returns-clause-name
returns-clause-name c = name_cut_back

pub returns-clause-weak : goal.returns-clause-weak
returns-clause-weak c = weak_cut_back

pub returns-clause-other : goal.returns-clause-other
returns-clause-other c = other_cut_back
