-- Device paths (UEFI 2.8, 10.3: Device Path Nodes).
use Rattle.std.specs.Prelude.{ℕ, zero, suc, List, [], ◌∷◌, ◌++◌, length, take, drop, slice_index, Bool, nat_eq, nat_lt, Option, Some, None, Result, Ok, Err, if◌then◌else◌}
use Rattle.std.specs.List.{concat, starts_with}
use Rattle.byteorder.specs.Endian.{little_bytes}
use Rattle.fw_types.specs.Layout.{uint16_at}
use Rattle.device_path.specs.declared.node.Node.{Node}
use Rattle.device_path.specs.declared.refusal.PathRefusal.{PathRefusal}
use Rattle.device_path.specs.declared.refusal.PathRefusal.TheVariants.{Short, BadLength}

-- ---- nodes

-- the header of a node: its type, its sub-type, and its length in bytes, low byte first
abbrev pub header_of : List ℕ → Node
header_of bytes = record {
  kind = slice_index bytes 0;
  sub = slice_index bytes 1;
  length = uint16_at 2 bytes;
}

-- The node at the front of bytes: its header is there, and the length in it is at least that of the header,
-- and at most the number of bytes that there are.
abbrev pub node_at : List ℕ → Result Node PathRefusal
node_at bytes =
    if nat_lt (length bytes) 4 then Err Short
    else if nat_lt (header_of bytes).length 4 then Err BadLength
    else if nat_lt (length bytes) (header_of bytes).length then Err Short
    else Ok (header_of bytes)

-- the type and the sub-type of a node that ends a whole path
abbrev pub is_end : List ℕ → Bool
is_end bytes = starts_with nat_eq bytes (0x7F ∷ 0xFF ∷ [])

-- ---- paths

-- A path: its nodes up to its end, each with all its bytes, and what is wrong with the node after them;
-- nothing, if that is the End node.
pub record Path : Type 0 where
  pub nodes : List (List ℕ)
  pub fault : Option PathRefusal

-- a path with one more node in front
abbrev pub onto : List ℕ → Path → Path
onto node path = record { nodes = node ∷ path.nodes; fault = path.fault }

-- the path in bytes by the node at their front, if `more` is the path in the bytes after it
abbrev pub path_from : Result Node PathRefusal → List ℕ → Path → Path
path_from (Err refusal) bytes more = record { nodes = []; fault = Some refusal }
path_from (Ok node) bytes more =
    if is_end bytes then record { nodes = []; fault = None } else onto (take node.length bytes) more

-- the path in bytes of which there are at most so many: each node has some
unfoldable pub path_within : ℕ → List ℕ → Path
path_within zero bytes = record { nodes = []; fault = Some Short }
path_within (suc most) bytes =
    path_from (node_at bytes) bytes (path_within most (drop (header_of bytes).length bytes))

-- bytes as a path
unfoldable pub path_in : List ℕ → Path
path_in bytes = path_within (length bytes) bytes

-- ---- the path of a root bridge

-- how the ACPI node of a PCI root bridge begins: its type, its sub-type, its length, and its _HID, which is
-- PNP0A03 (10.3.3: ACPI Device Path)
abbrev pub root_header : List ℕ
root_header = 0x02 ∷ 0x01 ∷ 0x0C ∷ 0x00 ∷ 0xD0 ∷ 0x41 ∷ 0x03 ∷ 0x0A ∷ []

-- the node of the root bridge with a _UID
abbrev pub root_node : ℕ → List ℕ
root_node uid = root_header ++ little_bytes 4 uid

-- ---- one more node

-- a PCI node (10.3.2.1: PCI Device Path)
abbrev pub pci_node : ℕ → ℕ → List ℕ
pci_node device function = 0x01 ∷ 0x01 ∷ 0x06 ∷ 0x00 ∷ function ∷ device ∷ []

-- the End node (10.3.1)
abbrev pub end_node : List ℕ
end_node = 0x7F ∷ 0xFF ∷ 0x04 ∷ 0x00 ∷ []

-- the path of a root bridge: its node, and the end
abbrev pub root_path : ℕ → List ℕ
root_path uid = root_node uid ++ end_node

-- bytes, unless a path is bad
abbrev pub ok_unless : Option PathRefusal → List ℕ → Result (List ℕ) PathRefusal
ok_unless None bytes = Ok bytes
ok_unless (Some refusal) bytes = Err refusal

-- the nodes of a path, then a PCI node, and the end
abbrev pub with_pci : Path → ℕ → ℕ → Result (List ℕ) PathRefusal
with_pci path device function = ok_unless path.fault (concat path.nodes ++ pci_node device function ++ end_node)
