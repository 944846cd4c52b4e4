-- The device path nodes of a way, one after the other.
use Rattle.std.proofs.Common.{◌≡◌, ℕ, ◌-◌, ◌<◌, suc, List, [], ◌∷◌, ◌++◌, ap, ◌∙◌, arith}
use Rattle.std.proofs.lemmas.Grind.{flat_map-append}
use Rattle.std.proofs.lemmas.List.{append-nil}
use Rattle.device_path.specs.DevicePath.{pci_node}
use Rattle.pci_model.specs.BoardLines.{Location}
use Rattle.world_model.specs.NewChild.{nodes_of}

pub one_less : (most : ℕ) → 0 < most → suc (most - 1) ≡ most
one_less most some = omega arith

-- one more location is one more node
pub nodes_more : (locations : List Location) (location : Location) → nodes_of (locations ++ location ∷ []) ≡ nodes_of locations ++ pci_node location.1 location.2
nodes_more locations location =
    flat_map-append (λ (at : Location). pci_node at.1 at.2) locations (location ∷ []) ∙ ap (λ (node : List ℕ). nodes_of locations ++ node) (append-nil (pci_node location.1 location.2))
