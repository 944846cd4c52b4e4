use Rattle.service_model.proofs.PutBytes.{puts-writable}
use Rattle.service_model.proofs.laws.puts_leave_writable.Goals as goal

pub returns : goal.returns
returns c = puts-writable
