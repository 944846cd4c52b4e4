use Rattle.service_thunks.proofs.AddressLemmas.{service_addresses}
use Rattle.service_thunks.proofs.laws.service_addresses.Goals as goal

pub returns : goal.returns
returns c = service_addresses
