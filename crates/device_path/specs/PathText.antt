-- The text of a device path (UEFI 2.8, 'EFI Device Path Display Format Overview').
use Rattle.std.specs.Prelude.{ℕ, List, [], ◌∷◌, ◌++◌, codes, slice_index, length, Bool, true, ◌&&◌, nat_eq, Option, Some, None, is_none, Result, Err, option_map, if◌then◌else◌}
use Rattle.std.specs.List.{filter_map, join_with_byte, list_any, starts_with}
use Rattle.std.specs.Fmt.{digits}
use Rattle.fw_types.specs.Layout.{uint32_at}
use Rattle.device_path.specs.DevicePath.{Path, ok_unless, root_header}
use Rattle.device_path.specs.declared.refusal.PathRefusal.{PathRefusal}
use Rattle.device_path.specs.declared.refusal.PathRefusal.TheVariants.{Unknown}
use Rattle.device_path.specs.declared.known.KnownNode.{KnownNode}
use Rattle.device_path.specs.declared.known.KnownNode.TheVariants.{PciRoot, Pci}

-- ---- nodes that have a text

-- the ACPI node of a PCI root bridge, whose _HID is PNP0A03 (10.3.3: ACPI Device Path)
abbrev pub is_pci_root : List ℕ → Bool
is_pci_root node =
    nat_eq (length node) 12 && starts_with nat_eq node root_header

-- a PCI node (10.3.2.1: PCI Device Path)
abbrev pub is_pci : List ℕ → Bool
is_pci node = nat_eq (length node) 6 && starts_with nat_eq node (0x01 ∷ 0x01 ∷ 0x06 ∷ 0x00 ∷ [])

-- what a node says: a root bridge by its _UID, a function by its device and function numbers
abbrev pub known_node : List ℕ → Option KnownNode
known_node node =
    if is_pci_root node then Some (PciRoot (uint32_at 8 node))
    else if is_pci node then Some (Pci (slice_index node 5) (slice_index node 4))
    else None

-- upper-case hexadecimal digits without leading zeros
abbrev pub hex : ℕ → List ℕ
hex number = codes "0x" ++ digits 16 true number

abbrev pub known_text : KnownNode → List ℕ
known_text (PciRoot uid) = codes "PciRoot(" ++ hex uid ++ codes ")"
known_text (Pci device function) = codes "Pci(" ++ hex device ++ codes "," ++ hex function ++ codes ")"

-- the text of a node, if it has one
abbrev pub node_text : List ℕ → Option (List ℕ)
node_text node = option_map known_text (known_node node)

-- ---- paths

abbrev pub is_unknown : List ℕ → Bool
is_unknown node = is_none (node_text node)

-- the texts of nodes with a slash between each two
abbrev pub text_of_nodes : List (List ℕ) → List ℕ
text_of_nodes nodes = join_with_byte 47 (filter_map node_text nodes)

-- the text of a path, if each of its nodes has one and its end comes after them
abbrev pub text_of : Path → Result (List ℕ) PathRefusal
text_of path = if list_any is_unknown path.nodes then Err Unknown else ok_unless path.fault (text_of_nodes path.nodes)
