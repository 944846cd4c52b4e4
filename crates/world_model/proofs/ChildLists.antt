-- Children of the bus, as interfaces are installed and removed.
use Rattle.std.proofs.Common.{◌≡◌, ℕ, Bool, true, false, not, nat_eq, bytes_eq, List, [], ◌∷◌, length, filter, Option, refl}
use Rattle.std.specs.Prelude.{if◌then◌else◌}
use Rattle.std.specs.List.{list_any}
use Rattle.std.proofs.lemmas.Bool.{and_left, and_parts, and_right, not-true, or_parts}
use Rattle.fw_types.specs.Guid.{known_guid}
use Rattle.fw_types.specs.declared.guid.Known.TheVariants.{PciIo}
use Rattle.handle_db.specs.declared.handle_entry.Interface.{Interface}
use Rattle.handle_db.specs.Installing.{installed}
use Rattle.handle_db.specs.Removing.{removed}
use Rattle.world_model.specs.declared.bus_child.BusChild.{BusChild}
use Rattle.world_model.specs.World.{Soft}
use Rattle.world_model.specs.BusChildren.{children_left, is_child}
use Rattle.world_model.specs.Interfaces.{firmware}
use Rattle.world_model.specs.Kept.{AreChildrenKept, are_apart, is_child_there, is_on_board}
use Rattle.world_model.proofs.Segments.{list_all-filter, list_all-filter_both, list_all-mono}
use Rattle.world_model.proofs.Databases.{bytes-swap, has-installed, has-removed}

-- an install leaves them
pub children-installed : (who : Option ℕ) (new : Interface) (soft : Soft) → AreChildrenKept soft.database soft.bus_children soft.bus_lists
    → AreChildrenKept (installed who new soft.database) soft.bus_children soft.bus_lists
children-installed who new soft kept = record {
  installed =
      list_all-mono (is_child_there soft.database) (is_child_there (installed who new soft.database)) soft.bus_children
      (λ child has. has-installed soft.database who new child.handle (known_guid PciIo) child.pci_io firmware has) kept.installed;
  functions = kept.functions;
  apart = kept.apart;
}

-- so does the removal of an interface of another protocol
pub children-other : (handle : ℕ) (guid : List ℕ) (soft : Soft) → bytes_eq (known_guid PciIo) guid ≡ false → AreChildrenKept soft.database soft.bus_children soft.bus_lists
    → AreChildrenKept (removed handle guid soft.database) soft.bus_children soft.bus_lists
children-other handle guid soft other kept = record {
  installed =
      list_all-mono (is_child_there soft.database) (is_child_there (removed handle guid soft.database)) soft.bus_children
      (λ child has. has-removed soft.database handle guid child.handle (known_guid PciIo) child.pci_io firmware (and_left (bytes_eq (known_guid PciIo) guid) (nat_eq child.handle handle) other) has)
      kept.installed;
  functions = kept.functions;
  apart = kept.apart;
}

-- the children that are left still differ from each other
none-filter : (P Q : BusChild → Bool) (children : List BusChild) → list_any P children ≡ false → list_any P (filter Q children) ≡ false
none-filter P Q [] none = refl
none-filter P Q (child ∷ children) none =
    let parts = or_parts (P child) (list_any P children) none in
    elim (Q child) as (λ b. list_any P (if b then child ∷ filter Q children else filter Q children) ≡ false) [
      | true ↦ rw (parts.0, none-filter P Q children parts.1) refl
      | false ↦ none-filter P Q children parts.1
    ]

apart-filter : (Q : BusChild → Bool) (children : List BusChild) → are_apart children ≡ true → are_apart (filter Q children) ≡ true
apart-filter Q [] apart = refl
apart-filter Q (child ∷ children) apart =
    let parts = and_parts (not (list_any (is_child child.handle) children)) (are_apart children) apart in
    let none = none-filter (is_child child.handle) Q children (not-true (list_any (is_child child.handle) children) parts.0) in
    elim (Q child) as (λ b. are_apart (if b then child ∷ filter Q children else filter Q children) ≡ true) [
      | true ↦ rw (none, apart-filter Q children parts.1) refl
      | false ↦ apart-filter Q children parts.1
    ]

-- a handle whose PCI I/O is removed is none of them any more
pub children-removed : (handle : ℕ) (guid : List ℕ) (soft : Soft) → AreChildrenKept soft.database soft.bus_children soft.bus_lists
    → AreChildrenKept (removed handle guid soft.database) (children_left handle guid soft.bus_children) soft.bus_lists
children-removed handle guid soft kept = by_guid (bytes_eq guid (known_guid PciIo)) refl
  where
    others : BusChild → Bool
    others child = not (is_child handle child)

    by_guid : (is : Bool) → bytes_eq guid (known_guid PciIo) ≡ is
        → AreChildrenKept (removed handle guid soft.database) (if is then filter (λ child. not (is_child handle child)) soft.bus_children else soft.bus_children) soft.bus_lists
    by_guid true is = record {
      installed =
          list_all-filter_both (is_child_there soft.database) others (is_child_there (removed handle guid soft.database)) soft.bus_children
          (λ child has other. has-removed soft.database handle guid child.handle (known_guid PciIo) child.pci_io firmware
          (and_right (bytes_eq (known_guid PciIo) guid) (nat_eq child.handle handle) (not-true (nat_eq child.handle handle) other)) has)
          kept.installed;
      functions = list_all-filter (is_on_board (length soft.bus_lists)) others soft.bus_children kept.functions;
      apart = apart-filter others soft.bus_children kept.apart;
    }
    by_guid false is = children-other handle guid soft (bytes-swap guid (known_guid PciIo) false is) kept
