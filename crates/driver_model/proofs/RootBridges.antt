-- A root bridge is still one after a child below it is made.
use Rattle.std.proofs.Common.{◌≡◌, ℕ, Bool, true, false, nat_eq, nat_lt, List, length, Option, Some, None, refl, ap, ◌∙◌, arith}
use Rattle.std.specs.Prelude.{is_some, option_map, if◌then◌else◌}
use Rattle.std.specs.Option.{option_map_or}
use Rattle.std.proofs.lemmas.Bool.{and_from, and_parts}
use Rattle.std.proofs.lemmas.Bool.Decides.{nat_tests}
use Rattle.fw_types.specs.Guid.{known_guid}
use Rattle.fw_types.specs.declared.guid.Known.TheVariants.{BusOverride, DevicePath, PciIo, RootBridgeIo}
use Rattle.handle_db.specs.Database.{Database, interface_of}
use Rattle.pci_model.specs.BoardLines.{roots}
use Rattle.world_model.specs.World.{Soft, State}
use Rattle.world_model.specs.Boards.{has_root_bridge_io, root_at, root_bus}
use Rattle.world_model.specs.BusChildren.{child_noted}
use Rattle.world_model.specs.Interfaces.{firmware, interface}
use Rattle.world_model.specs.Kept.{has_interface, is_address}
use Rattle.world_model.specs.NewChild.{has_rom, path_below, with_interfaces, with_path, with_pci_io}
use Rattle.world_model.proofs.Databases.{has-installed}
use Rattle.driver_model.specs.BusChildren.{bus_child_made}
use Rattle.driver_model.proofs.Keeping.{choose_by}

abbrev root_io : List ℕ
root_io = known_guid RootBridgeIo

-- root bridge I/O of the firmware is an interface
by_owner : (found : Option (ℕ × ℕ)) → option_map_or (λ (one : ℕ × ℕ). nat_eq one.1 firmware) found false ≡ true → is_some found ≡ true
by_owner None io = absurd cc
by_owner (Some found) io = refl

pub has_root : (handle : ℕ) (db : Database) → has_root_bridge_io handle db ≡ true → is_some (interface_of handle root_io db) ≡ true
has_root handle db io = by_owner (interface_of handle root_io db) io

-- at an address, which stays when an interface is added
abbrev address_of : Option (ℕ × ℕ) → ℕ
address_of found = option_map_or (λ (one : ℕ × ℕ). one.0) found 0

at_address : (found : Option (ℕ × ℕ)) → option_map_or (λ (one : ℕ × ℕ). nat_eq one.1 firmware) found false ≡ true → is_address (address_of found) firmware found ≡ true
at_address None io = absurd cc
at_address (Some found) io =
    let same : nat_eq found.0 found.0 ≡ true = grind (arith, nat_tests) in
    and_from (nat_eq found.0 found.0) (nat_eq found.1 firmware) same io

by_address : (address : ℕ) (found : Option (ℕ × ℕ)) → is_address address firmware found ≡ true → option_map_or (λ (one : ℕ × ℕ). nat_eq one.1 firmware) found false ≡ true
by_address address None is = absurd cc
by_address address (Some found) is = (and_parts (nat_eq found.0 address) (nat_eq found.1 firmware) is).1

-- a child's interfaces leave it
pub root_io_after : (handle : ℕ) (path : List ℕ) (rom : Bool) (soft : Soft) → has_root_bridge_io handle soft.database ≡ true
    → has_root_bridge_io handle (with_interfaces path rom soft).database ≡ true
root_io_after handle path rom soft io = by_rom rom
  where
    address : ℕ
    address = address_of (interface_of handle root_io soft.database)

    before : has_interface soft.database handle root_io address firmware ≡ true
    before = at_address (interface_of handle root_io soft.database) io

    one : has_interface (with_path path soft).database handle root_io address firmware ≡ true
    one = has-installed soft.database None (interface (known_guid DevicePath) soft.next_block firmware) handle root_io address firmware before

    two : has_interface (with_pci_io path soft).database handle root_io address firmware ≡ true
    two = has-installed (with_path path soft).database (Some soft.database.next) (interface (known_guid PciIo) (with_path path soft).next_block firmware) handle root_io address firmware one

    by_rom : (rom : Bool) → has_root_bridge_io handle (with_interfaces path rom soft).database ≡ true
    by_rom false = by_address address (interface_of handle root_io (with_pci_io path soft).database) two
    by_rom true =
        by_address address (interface_of handle root_io (with_interfaces path true soft).database)
        (has-installed (with_pci_io path soft).database (Some soft.database.next) (interface (known_guid BusOverride) (with_pci_io path soft).next_block firmware) handle root_io address firmware two)

-- and so does a function that is noted
pub noted_database : (handle function : ℕ) (soft : Soft) → (child_noted handle function soft).database ≡ soft.database
noted_database handle function soft =
    choose_by (λ (s : Soft). s.database ≡ soft.database) (nat_lt function (length soft.bus_lists)) _ _ (λ is. refl) (λ is. refl)

-- ---- the bus of a root bridge

by_io : (io : Bool) (bus : Option ℕ) → is_some (if io then bus else None) ≡ true → io ≡ true
by_io true bus is = refl
by_io false bus is = absurd cc

pub is_root_io : (controller : ℕ) (w : State) → is_some (root_bus controller w) ≡ true → has_root_bridge_io controller w.soft.database ≡ true
is_root_io controller w root =
    by_io (has_root_bridge_io controller w.soft.database) (option_map (λ (bridge : ℕ × ℕ). bridge.1) (root_at controller (roots w.hard.board.lines))) root

same_bus : (one two : Bool) (bus : Option ℕ) → one ≡ true → two ≡ true → is_some (if one then bus else None) ≡ true → is_some (if two then bus else None) ≡ true
same_bus true true bus is is' root = root
same_bus true false bus is is' root = absurd cc
same_bus false two bus is is' root = absurd cc

pub root_stays : (controller function : ℕ) (w : State) → is_some (root_bus controller w) ≡ true → is_some (root_bus controller (bus_child_made controller function w)) ≡ true
root_stays controller function w root =
    let path : List ℕ = path_below controller function w in
    let rom : Bool = has_rom function w in
    let io : has_root_bridge_io controller w.soft.database ≡ true = is_root_io controller w root in
    let whole : Soft = with_interfaces path rom w.soft in
    let after : has_root_bridge_io controller (child_noted w.soft.database.next function whole).database ≡ true =
    ap (has_root_bridge_io controller) (noted_database w.soft.database.next function whole) ∙ root_io_after controller path rom w.soft io in
    same_bus (has_root_bridge_io controller w.soft.database) (has_root_bridge_io controller (child_noted w.soft.database.next function whole).database)
    (option_map (λ (bridge : ℕ × ℕ). bridge.1) (root_at controller (roots w.hard.board.lines))) io after root
