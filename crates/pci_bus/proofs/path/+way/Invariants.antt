use Rattle.std.proofs.Common.{◌+◌, ◌*◌}
use Rattle.pci_bus.proofs.path.+way.Given as goal

-- the first function calls the second with one less, the second calls the third with the same, and the third calls the
-- first with the same
abbrev pub decreases-way_nodes : goal.decreases-way_nodes
decreases-way_nodes l = 3 * l.most

abbrev pub decreases-longer_way : goal.decreases-longer_way
decreases-longer_way l = 3 * l.less + 2

abbrev pub decreases-bridge_nodes : goal.decreases-bridge_nodes
decreases-bridge_nodes l = 3 * l.most + 1
