use Rattle.pci_model.proofs.LocationLaws.{found_at_location, is_where_found}
use Rattle.pci_model.proofs.laws.locations_are_numbers.Goals as goal

pub returns-clause-found : goal.returns-clause-found
returns-clause-found c lines number location ok at = found_at_location lines number location ok at

pub returns-clause-there : goal.returns-clause-there
returns-clause-there c lines number location found = is_where_found lines number location found
