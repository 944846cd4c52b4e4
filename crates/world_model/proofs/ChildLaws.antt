-- What is known of children of the bus.
use Rattle.std.proofs.Common.{◌≡◌, ℕ, Bool, true, false, not, nat_eq, List, [], ◌∷◌, length, filter, find, Option, Some, None, refl, ap, ◌∙◌, subst, arith}
use Rattle.std.specs.Prelude.{is_some, option_map, slice_get, slice_set, unwrap_or, if◌then◌else◌}
use Rattle.std.specs.List.{fold, list_all, list_any}
use Rattle.std.proofs.lemmas.Bool.{and_parts, not-true, or_parts}
use Rattle.std.proofs.lemmas.Bool.Decides.{nat_tests}
use Rattle.std.proofs.lemmas.List.{get_or-set_same, length-replicate}
use Rattle.std.proofs.lemmas.Option.{unwrap_or-slice_get}
use Rattle.fw_types.specs.Guid.{known_guid}
use Rattle.fw_types.specs.declared.guid.Known.TheVariants.{PciIo}
use Rattle.handle_db.specs.Database.{interface_of}
use Rattle.pci_model.specs.BoardLines.{roots}
use Rattle.world_model.specs.declared.bus_child.BusChild.{BusChild}
use Rattle.world_model.specs.World.{Soft}
use Rattle.world_model.specs.BusChildren.{is_child, is_pci_io}
use Rattle.world_model.specs.ChildLaws.{BusListIsSet, FunctionIsOfChild, IsChild, OpeningHasBusLists, PciIoIsOfChild, RemovingForgets}
use Rattle.world_model.specs.Interfaces.{firmware}
use Rattle.world_model.specs.Kept.{IsKept, are_apart, is_address, is_child_there, is_on_board}
use Rattle.world_model.specs.Opening.{firmware_soft}
use Rattle.world_model.proofs.RootBridges.{step}

-- a child that is found passes the test, and also a test that all pass
found_child : (P Q : BusChild → Bool) (children : List BusChild) (child : BusChild) → find P children ≡ Some child → list_all Q children ≡ true → (P child ≡ true) × (Q child ≡ true)
found_child P Q [] child found all = absurd cc
found_child P Q (first ∷ children) child found all =
    let parts = and_parts (Q first) (list_all Q children) all in
    by_head (P first) refl parts.0 (λ later. found_child P Q children child later parts.1) found
  where
    by_head : (here : Bool) → P first ≡ here → Q first ≡ true → (find P children ≡ Some child → (P child ≡ true) × (Q child ≡ true)) → (if here then Some first else find P children) ≡ Some child
        → (P child ≡ true) × (Q child ≡ true)
    by_head true is passes later same = let one : first ≡ child = cc in (subst (λ c. P c ≡ true) one is, subst (λ c. Q c ≡ true) one passes)
    by_head false is passes later same = later same

-- a child that is found is not the one that all others differ from
apart_from : (P : BusChild → Bool) (first : BusChild) (children : List BusChild) (child : BusChild) → list_any (is_child first.handle) children ≡ false → find P children ≡ Some child → is_child child.handle first ≡ false
apart_from P first [] child alone found = absurd cc
apart_from P first (second ∷ children) child alone found =
    let parts = or_parts (is_child first.handle second) (list_any (is_child first.handle) children) alone in
    by_second (P second) parts.0 (λ later. apart_from P first children child parts.1 later) found
  where
    by_second : (here : Bool) → is_child first.handle second ≡ false → (find P children ≡ Some child → is_child child.handle first ≡ false) → (if here then Some second else find P children) ≡ Some child → is_child child.handle first ≡ false
    by_second true other later same =
        let one : second ≡ child = cc in
        subst (λ (c : BusChild). is_child c.handle first ≡ false) one (grind (arith, nat_tests, other))
    by_second false other later same = later same

-- it is what is found by its handle
found_by_handle : (P : BusChild → Bool) (children : List BusChild) (child : BusChild) → are_apart children ≡ true → find P children ≡ Some child → find (is_child child.handle) children ≡ Some child
found_by_handle P [] child apart found = absurd cc
found_by_handle P (first ∷ children) child apart found =
    let parts = and_parts (not (list_any (is_child first.handle) children)) (are_apart children) apart in
    by_head (P first) (not-true (list_any (is_child first.handle) children) parts.0) (λ later. found_by_handle P children child parts.1 later) found
  where
    by_head : (here : Bool) → list_any (is_child first.handle) children ≡ false → (find P children ≡ Some child → find (is_child child.handle) children ≡ Some child) → (if here then Some first else find P children) ≡ Some child
        → find (is_child child.handle) (first ∷ children) ≡ Some child
    by_head true alone later same =
        let one : first ≡ child = cc in
        let here : is_child first.handle first ≡ true = grind (arith, nat_tests) in
        subst (λ (c : BusChild). find (is_child c.handle) (first ∷ children) ≡ Some c) one (rw here refl)
    by_head false alone later same =
        let other : is_child child.handle first ≡ false = apart_from P first children child alone same in
        rw other (later same)

-- an address and an owner that are tested are those of the interface
address_is : (address owner : ℕ) (found : Option (ℕ × ℕ)) → is_address address owner found ≡ true → found ≡ Some (address, owner)
address_is address owner None is = absurd cc
address_is address owner (Some one) is =
    let parts = and_parts (nat_eq one.0 address) (nat_eq one.1 owner) is in
    let at : one.0 ≡ address = grind (arith, nat_tests, parts.0) in
    let by : one.1 ≡ owner = grind (arith, nat_tests, parts.1) in
    ap (λ (a : ℕ). Some (a, one.1)) at ∙ ap (λ (o : ℕ). Some (address, o)) by

-- what is known of a child that a test finds
is_child_of : (soft : Soft) (child : BusChild) (P : BusChild → Bool) → IsKept soft → find P soft.bus_children ≡ Some child → IsChild child.handle child.pci_io child.function soft
is_child_of soft child P kept found =
    let there = (found_child P (is_child_there soft.database) soft.bus_children child found kept.children.installed).1 in
    let on_board = (found_child P (is_on_board (length soft.bus_lists)) soft.bus_children child found kept.children.functions).1 in
    record {
      function_is = ap (option_map (λ (c : BusChild). c.function)) (found_by_handle P soft.bus_children child kept.children.apart found);
      pci_io = address_is child.pci_io firmware (interface_of child.handle (known_guid PciIo) soft.database) there;
      on_board = grind (arith, nat_tests, on_board);
    }

pub function_is_of_child : FunctionIsOfChild
function_is_of_child soft handle function kept is = by_found (find (is_child handle) soft.bus_children) refl is
  where
    by_found : (found : Option BusChild) → find (is_child handle) soft.bus_children ≡ found → option_map (λ (c : BusChild). c.function) found ≡ Some function → (this : ℕ) × IsChild handle this function soft
    by_found None found is = absurd cc
    by_found (Some child) found is =
        let here = (found_child (is_child handle) (is_child_there soft.database) soft.bus_children child found kept.children.installed).0 in
        let same : child.handle ≡ handle = grind (arith, nat_tests, here) in
        let number : child.function ≡ function = cc in (
          child.pci_io,
          subst (λ (f : ℕ). IsChild handle child.pci_io f soft) number
              (subst (λ (h : ℕ). IsChild h child.pci_io child.function soft) same (is_child_of soft child (is_child handle) kept found)),
        )

pub pci_io_is_of_child : PciIoIsOfChild
pci_io_is_of_child soft this function kept is = by_found (find (is_pci_io this) soft.bus_children) refl is
  where
    by_found : (found : Option BusChild) → find (is_pci_io this) soft.bus_children ≡ found → option_map (λ (c : BusChild). c.function) found ≡ Some function → (handle : ℕ) × IsChild handle this function soft
    by_found None found is = absurd cc
    by_found (Some child) found is =
        let here = (found_child (is_pci_io this) (is_child_there soft.database) soft.bus_children child found kept.children.installed).0 in
        let same : child.pci_io ≡ this = grind (arith, nat_tests, here) in
        let number : child.function ≡ function = cc in (
          child.handle,
          subst (λ (f : ℕ). IsChild child.handle this f soft) number
              (subst (λ (a : ℕ). IsChild child.handle a child.function soft) same (is_child_of soft child (is_pci_io this) kept found)),
        )

gone : (handle : ℕ) (children : List BusChild) → find (is_child handle) (filter (λ (c : BusChild). not (is_child handle c)) children) ≡ None
gone handle [] = refl
gone handle (child ∷ children) = by_head (is_child handle child) refl (gone handle children)
  where
    by_head : (here : Bool) → is_child handle child ≡ here → find (is_child handle) (filter (λ (c : BusChild). not (is_child handle c)) children) ≡ None
        → find (is_child handle) (if not here then child ∷ filter (λ (c : BusChild). not (is_child handle c)) children else filter (λ (c : BusChild). not (is_child handle c)) children) ≡ None
    by_head true is later = later
    by_head false is later = rw is later

pub removing_forgets : RemovingForgets
removing_forgets soft handle = ap (option_map (λ (c : BusChild). c.function)) (gone handle soft.bus_children)

pub bus_list_is_set : BusListIsSet
bus_list_is_set soft function images less =
    let none : Option (List ℕ) = None in
    let is : unwrap_or (slice_get (slice_set soft.bus_lists function (Some images)) function) none ≡ Some images =
    unwrap_or-slice_get (slice_set soft.bus_lists function (Some images)) function none ∙ get_or-set_same soft.bus_lists function (Some images) none less in
    (ap (λ (list : Option (List ℕ)). unwrap_or list []) is, ap is_some is)

pub opening_has_bus_lists : OpeningHasBusLists
opening_has_bus_lists board roms same =
    let none : Option (List ℕ) = None in
    ap (length {A = Option (List ℕ)}) (lists-stay (roots board.lines) (firmware_soft (length roms))) ∙ length-replicate (length roms) none ∙ same
  where
    lists-stay : (bridges : List (ℕ × ℕ)) (soft : Soft) → (fold step soft bridges).bus_lists ≡ soft.bus_lists
    lists-stay [] soft = refl
    lists-stay (bridge ∷ bridges) soft = lists-stay bridges (step soft bridge)
