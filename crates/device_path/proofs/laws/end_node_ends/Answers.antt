use Rattle.device_path.proofs.NodesLemmas.{path_in-append}
use Rattle.device_path.proofs.laws.end_node_ends.Goals as goal

pub returns : goal.returns
returns c bytes more ended = path_in-append bytes more ended
