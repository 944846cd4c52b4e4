use Rattle.std.proofs.Common.{◌∙◌}
use Rattle.service_thunks.proofs.AddressLemmas.{service_first, service_second}
use Rattle.service_thunks.proofs.addresses.service_at.Goals as goal

-- a boot service
pub returns-in-Some : goal.returns-in-Some
returns-in-Some c = service_first c.args.at c.in-Some.service c.in-Some.ensures

-- or what PCI I/O has there
pub returns-in-None : goal.returns-in-None
returns-in-None c = c.placed_at-in-None.ensures ∙ service_second c.args.at c.in-None.ensures
