-- A path node by node, as the code goes through it, and what the calls answer.
use Rattle.std.specs.Prelude.{◌≡◌, ◌≤◌, ℕ, List, length, take, Bool, true, false, Option, Some, None, Result, Ok, Err, string_bytes}
use Rattle.std.specs.List.{concat}
use Rattle.std.specs.declared.vec.Vec.{Vec}
use Rattle.std.specs.declared.string.String.{String}
use Rattle.std.specs.declared.alloc.Global.{Global}
use Rattle.device_path.specs.DevicePath.{is_end, node_at, path_in}
use Rattle.device_path.specs.declared.node.Node.{Node}
use Rattle.device_path.specs.declared.refusal.PathRefusal.{PathRefusal}
use Rattle.device_path.specs.declared.refusal.PathRefusal.TheVariants.{Short, BadLength, Unknown, OutOfMemory}

-- ---- the first node

-- how many bytes a node has; none if it is the End node
abbrev pub size_from : Result Node PathRefusal → Bool → Result (Option ℕ) PathRefusal
size_from (Err refusal) last = Err refusal
size_from (Ok node) true = Ok None
size_from (Ok node) false = Ok (Some node.length)

-- how many bytes the first node of a path has; none at its end
abbrev pub first_size : List ℕ → Result (Option ℕ) PathRefusal
first_size bytes = size_from (node_at bytes) (is_end bytes)

-- the nodes of a path have so many bytes, or the path is bad
abbrev pub AreNodesOf : Result ℕ PathRefusal → List ℕ → Type 0
AreNodesOf (Ok size) bytes =
    ((path_in bytes).fault ≡ None) × (concat (path_in bytes).nodes ≡ take size bytes) × (size ≤ length bytes)
AreNodesOf (Err refusal) bytes = (path_in bytes).fault ≡ Some refusal

-- ---- answers

-- a refusal is the one that is due, unless memory ran out
abbrev pub RefusesAs : PathRefusal → Result (List ℕ) PathRefusal → Type 0
RefusesAs Short answer = answer ≡ Err Short
RefusesAs BadLength answer = answer ≡ Err BadLength
RefusesAs Unknown answer = answer ≡ Err Unknown
RefusesAs OutOfMemory answer = Unit {0}

-- a call gives the bytes that are due, or such a refusal
abbrev pub GivesBytes : Result (Vec ℕ Global) PathRefusal → Result (List ℕ) PathRefusal → Type 0
GivesBytes (Ok bytes) answer = answer ≡ Ok bytes.items
GivesBytes (Err refusal) answer = RefusesAs refusal answer

-- a call gives the text that is due, or such a refusal
abbrev pub GivesText : Result (String Global) PathRefusal → Result (List ℕ) PathRefusal → Type 0
GivesText (Ok text) answer = answer ≡ Ok (string_bytes text)
GivesText (Err refusal) answer = RefusesAs refusal answer
