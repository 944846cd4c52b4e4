use Rattle.open_records.proofs.LawProofs.{adding_keeps, cutting_keeps, cutting_on_keeps, sweeping_keeps}
use Rattle.open_records.proofs.laws.changes_keep.Goals as goal

pub returns : goal.returns
returns c = record { adding = adding_keeps; cutting = cutting_keeps; cutting_on = cutting_on_keeps; sweeping = sweeping_keeps }
