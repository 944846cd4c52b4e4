-- Device paths by their nodes.
use Rattle.std.specs.Prelude.{◌≡◌, ◌++◌, List, ℕ, length, nat_eq, codes, All, true, false, Option, Some, None, Ok, Err, if◌then◌else◌}
use Rattle.std.specs.List.{concat}
use Rattle.device_path.specs.DevicePath.{Path, is_end, header_of, node_at}
use Rattle.device_path.specs.declared.refusal.PathRefusal.{PathRefusal}

-- these bytes are one node, all of it, and not the End node
pub record IsInnerNode (node : List ℕ) : Type 0 where
  pub is_node : node_at node ≡ Ok (header_of node)
  pub all : (header_of node).length ≡ length node
  pub inner : is_end node ≡ false

-- the bytes after the nodes begin with the End node, or with a node that is bad in this way
abbrev pub EndsAs : Option PathRefusal → List ℕ → Type 0
EndsAs None rest = (node_at rest ≡ Ok (header_of rest)) × (is_end rest ≡ true)
EndsAs (Some refusal) rest = node_at rest ≡ Err refusal

-- bytes are the nodes of a path one after the other, and then its end
pub record IsPath (bytes : List ℕ) (path : Path) : Type 0 where
  pub rest : List ℕ
  pub whole : bytes ≡ concat path.nodes ++ rest
  pub nodes : All IsInnerNode path.nodes
  pub ends : EndsAs path.fault rest

-- a text with the text of one more node, after a slash if there is a text before it
abbrev pub with_node : List ℕ → List ℕ → List ℕ
with_node text node = if nat_eq (length text) 0 then node else text ++ codes "/" ++ node
