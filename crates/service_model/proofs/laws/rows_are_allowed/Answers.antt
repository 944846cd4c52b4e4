use Rattle.service_model.proofs.AllowedRows.{rows-allowed}
use Rattle.service_model.proofs.laws.rows_are_allowed.Goals as goal

pub returns : goal.returns
returns c = rows-allowed
