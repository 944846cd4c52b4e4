use Rattle.open_records.proofs.LawProofs.{added_here, added_not_elsewhere, cut_here, cut_not_elsewhere, cut_on_here, cut_on_not_elsewhere, swept_everywhere}
use Rattle.open_records.proofs.laws.interfaces_change.Goals as goal

pub returns : goal.returns
returns c = record {
  added = added_here;
  added_not_elsewhere = added_not_elsewhere;
  cut = cut_here;
  cut_not_elsewhere = cut_not_elsewhere;
  cut_on = cut_on_here;
  cut_on_not_elsewhere = cut_on_not_elsewhere;
  swept = swept_everywhere;
}
