use Rattle.device_path.proofs.RootPath.{path_in-root, text_of-root}
use Rattle.device_path.proofs.laws.root_path_is_one_node.Goals as goal

pub returns : goal.returns
returns c = record { nodes = path_in-root; text = text_of-root }
