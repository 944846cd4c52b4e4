use Rattle.device_path.proofs.NodesLemmas.{path_in-with_pci}
use Rattle.device_path.proofs.laws.pci_node_is_last.Goals as goal

pub returns : goal.returns
returns c bytes child device function due = path_in-with_pci bytes child device function due
