use Rattle.device_path.proofs.NodesLemmas.{IsPath-path_in, path_in-path}
use Rattle.device_path.proofs.laws.paths_are_nodes.Goals as goal

pub returns-clause-some : goal.returns-clause-some
returns-clause-some c bytes = IsPath-path_in bytes

pub returns-clause-only : goal.returns-clause-only
returns-clause-only c bytes path is = path_in-path bytes path is
