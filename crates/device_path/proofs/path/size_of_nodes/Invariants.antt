use Rattle.std.proofs.Common.{length}
use Rattle.device_path.proofs.PathLemmas.{IsRest}
use Rattle.device_path.proofs.path.size_of_nodes.Given as goal

-- what is left is the path without the nodes so far
abbrev pub invariant-nodes : goal.invariant-nodes
invariant-nodes l = IsRest l.path l.rest

abbrev pub decreases-nodes : goal.decreases-nodes
decreases-nodes l = length l.rest
