use Rattle.pci_model.proofs.LocationLaws.{among_its_bus, only_of_bus}
use Rattle.pci_model.proofs.laws.buses_are_whole.Goals as goal

pub returns-clause-all : goal.returns-clause-all
returns-clause-all c lines number location ok at = among_its_bus lines number location ok at

pub returns-clause-only : goal.returns-clause-only
returns-clause-only c lines number bus found = only_of_bus lines number bus found
