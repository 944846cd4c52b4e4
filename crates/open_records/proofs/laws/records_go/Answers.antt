use Rattle.open_records.proofs.LawProofs.{all_cut, none_named}
use Rattle.open_records.proofs.laws.records_go.Goals as goal

pub returns : goal.returns
returns c = record { cut = all_cut; swept = none_named }
