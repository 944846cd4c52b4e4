use Rattle.service_thunks.proofs.AddressLemmas.{one_address}
use Rattle.service_thunks.proofs.laws.one_address.Goals as goal

pub returns : goal.returns
returns c = one_address
