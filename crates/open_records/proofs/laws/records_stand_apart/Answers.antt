use Rattle.open_records.proofs.LawProofs.{no_equal_records, one_holder}
use Rattle.open_records.proofs.laws.records_stand_apart.Goals as goal

pub returns : goal.returns
returns c = record { holder = one_holder; equal = no_equal_records }
