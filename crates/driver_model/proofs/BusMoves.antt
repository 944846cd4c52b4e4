-- What the moves of the PCI bus driver leave: what holds of every world, all stacks, and the bytes that no code may write.
use Rattle.std.proofs.Common.{◌≡◌, ℕ, Bool, true, false, ◌&&◌, ◌||◌, not, nat_eq, nat_le, nat_lt, List, length, Option, Some, None, refl, ap, ◌∙◌, arith}
use Rattle.std.specs.Prelude.{Result, Ok, Err, find, is_ok, is_some, option_map, if◌then◌else◌}
use Rattle.std.specs.List.{list_any}
use Rattle.std.proofs.lemmas.Bool.{and_parts, not-true, or_parts, or_right}
use Rattle.std.proofs.lemmas.Bool.Decides.{nat_tests}
use Rattle.fw_types.specs.Attr.{is_legal}
use Rattle.fw_types.specs.Guid.{known_guid}
use Rattle.fw_types.specs.declared.attr.TheConstants.Attr.{BY_CHILD_CONTROLLER, BY_DRIVER}
use Rattle.fw_types.specs.declared.guid.Known.TheVariants.{BusOverride, DevicePath, DriverBinding, PciIo, RootBridgeIo}
use Rattle.guest_memory.specs.declared.address_map.TheConstants.{BUS_BINDING}
use Rattle.guest_memory.specs.declared.segment.Segment.{Segment}
use Rattle.guest_memory.specs.declared.segment.SegKind.TheVariants.{Firmware}
use Rattle.handle_db.specs.Database.{Database, interface_of, is_live}
use Rattle.open_records.specs.Adding.{is_full}
use Rattle.open_records.specs.OpenRecords.{is_equal, records_of}
use Rattle.open_records.specs.Verdicts.{judge, may_enter}
use Rattle.open_records.specs.declared.verdict.Verdict.TheVariants.{Add, Count}
use Rattle.world_model.specs.declared.bus_child.BusChild.{BusChild}
use Rattle.world_model.specs.declared.fault.WorldFault.{WorldFault}
use Rattle.world_model.specs.declared.fault.WorldFault.TheVariants.{Full}
use Rattle.world_model.specs.World.{Soft, State}
use Rattle.world_model.specs.Blocks.{block_added, block_freed, block_segment, free_answer, is_block_full}
use Rattle.world_model.specs.Boards.{has_root_bridge_io, root_bus}
use Rattle.world_model.specs.BusChildren.{child_function, child_noted, is_child, pci_io_of, with_bus_list}
use Rattle.world_model.specs.Interfaces.{bus_driver, firmware, install_answer, interface}
use Rattle.world_model.specs.Kept.{IsKept, has_interface, is_address}
use Rattle.world_model.specs.NewChild.{IsChildPossible, block_interface_added, child_added, child_answer, has_rom, is_child_full, override_block, path_below, pci_io_block, with_interfaces, with_path, with_pci_io}
use Rattle.world_model.proofs.KeepingBlocks.{allotting, freeing}
use Rattle.world_model.proofs.KeepingChildren.{bus_list_set, noting}
use Rattle.world_model.proofs.KeepingInterfaces.{installing}
use Rattle.world_model.proofs.KeepingRecords.{entering}
use Rattle.world_model.proofs.NewChild.{blocks_have_sizes, child_is_possible}
use Rattle.world_model.proofs.RecordParties.{has_from}
use Rattle.world_model.proofs.StackLaws.{allotting as allotting_stacks, freeing as freeing_stacks}
use Rattle.world_model.proofs.Segments.{list_all-unmapped}
use Rattle.driver_model.specs.Moves.{adds_child, changed, opens_root}
use Rattle.driver_model.specs.Allowed.{is_allowed}
use Rattle.driver_model.specs.BusChildren.{firmware_block_freed, is_bus_child_full, is_root_full, is_root_record_full, root_entered, root_opened}
use Rattle.driver_model.specs.BusLaws.{CanBeOpened}
use Rattle.driver_model.specs.BusSupport.{root_verdict}
use Rattle.driver_model.specs.Staying.{KeepsBytes, Stays, if_fixed, is_later_block}
use Rattle.driver_model.proofs.Changes.{beside_memory, joined_stays, same_stays}
use Rattle.driver_model.proofs.FixedBytes.{bytes_by_tests, pass_later, pass_mapped}
use Rattle.driver_model.proofs.Keeping.{choose_by}
use Rattle.driver_model.proofs.RootBridges.{has_root, is_root_io, noted_database, root_io_after}
use Rattle.driver_model.proofs.WhatSweepsLeave.{live_with}

-- ---- root bridge I/O is opened

-- an interface that is there, with its address and owner
some_interface : (handle : ℕ) (guid : List ℕ) (address owner : ℕ) (db : Database) → has_interface db handle guid address owner ≡ true → is_some (interface_of handle guid db) ≡ true
some_interface handle guid address owner db has = by_found (interface_of handle guid db) has
  where
    by_found : (found : Option (ℕ × ℕ)) → is_address address owner found ≡ true → is_some found ≡ true
    by_found None has = absurd cc
    by_found (Some found) has = refl

pub bus_driver_live : (soft : Soft) → IsKept soft → is_live bus_driver soft.database ≡ true
bus_driver_live soft kept =
    live_with bus_driver (known_guid DriverBinding) soft.database
    (some_interface bus_driver (known_guid DriverBinding) BUS_BINDING firmware soft.database kept.database.bus_driver_there)

entered_kept : (controller child attr : ℕ) (soft : Soft) → IsKept soft → has_root_bridge_io controller soft.database ≡ true → is_live child soft.database ≡ true
    → may_enter (judge (records_of soft.records.entries controller (known_guid RootBridgeIo)) bus_driver child attr) ≡ true → is_legal attr ≡ true
    → is_root_record_full controller child attr soft ≡ false → IsKept (root_entered controller child attr soft)
entered_kept controller child attr soft kept io live may legal room =
    entering soft controller (known_guid RootBridgeIo) bus_driver child attr kept
    (has_from controller (known_guid RootBridgeIo) soft.database (has_root controller soft.database io)) (bus_driver_live soft kept)
    (or_right (nat_eq child 0) (is_live child soft.database) live) may legal room

pub root_live : (controller : ℕ) (db : Database) → has_root_bridge_io controller db ≡ true → is_live controller db ≡ true
root_live controller db io = live_with controller (known_guid RootBridgeIo) db (has_root controller db io)

pub opened_stays : (controller : ℕ) (w : State) → is_allowed (opens_root controller) w ≡ true → IsKept w.soft → Stays w.soft (root_opened controller w.soft)
opened_stays controller w can kept =
    let one = and_parts (is_some (root_bus controller w)) (may_enter (root_verdict controller w.soft) && not (is_root_full controller w.soft)) can in
    let two = and_parts (may_enter (root_verdict controller w.soft)) (not (is_root_full controller w.soft)) one.1 in
    let io : has_root_bridge_io controller w.soft.database ≡ true = is_root_io controller w one.0 in
    beside_memory w.soft (root_opened controller w.soft) refl refl
    (entered_kept controller controller BY_DRIVER w.soft kept io (root_live controller w.soft.database io) two.0 refl (not-true (is_root_full controller w.soft) two.1))

-- ---- a child is made

firmware_bytes : (soft : Soft) (bytes : List ℕ) → KeepsBytes soft (block_added bytes Firmware soft)
firmware_bytes soft bytes test all =
    let wide = λ (segment : Segment). test segment || is_later_block soft segment in
    let new : Segment = block_segment bytes Firmware soft in
    let same : nat_le soft.next_block soft.next_block ≡ true = grind (arith, nat_tests) in
    let later : wide new ≡ true = or_right (test new) (is_later_block soft new) (rw same refl) in
    pass_mapped wide new soft.memory later (pass_later soft test soft.memory all)

block_interface_stays : (handle : Option ℕ) (guid bytes : List ℕ) (soft : Soft) → IsKept soft → is_block_full (length bytes) soft ≡ false
    → is_ok (install_answer handle guid soft) ≡ true → Stays soft (block_interface_added handle guid bytes soft)
block_interface_stays handle guid bytes soft kept room fine =
    let added : Soft = block_added bytes Firmware soft in
    let with_block : Stays soft added = record {
      kept = allotting soft bytes Firmware kept refl room;
      stacks = allotting_stacks soft bytes Firmware refl;
      later = omega arith;
      bytes = firmware_bytes soft bytes;
    } in
    joined_stays soft added (block_interface_added handle guid bytes soft) with_block
    (beside_memory added (block_interface_added handle guid bytes soft) refl refl
    (installing added handle (interface guid soft.next_block firmware) with_block.kept fine))

module _ (path : List ℕ) (soft : Soft) (kept : IsKept soft) where
  path_stays : (has_rom : Bool) → IsChildPossible path has_rom soft → Stays soft (with_path path soft)
  path_stays has_rom can = block_interface_stays None (known_guid DevicePath) path soft kept can.path_room can.path_accepted

  pci_io_stays : (has_rom : Bool) → IsChildPossible path has_rom soft → Stays soft (with_pci_io path soft)
  pci_io_stays has_rom can =
      let before : Stays soft (with_path path soft) = path_stays has_rom can in
      let room : is_block_full (length pci_io_block) (with_path path soft) ≡ false =
      ap (λ (n : ℕ). is_block_full n (with_path path soft)) blocks_have_sizes.0 ∙ can.pci_io_room in
      joined_stays soft (with_path path soft) (with_pci_io path soft) before
      (block_interface_stays (Some soft.database.next) (known_guid PciIo) pci_io_block (with_path path soft) before.kept room can.pci_io_accepted)

  interfaces_stay : (has_rom : Bool) → IsChildPossible path has_rom soft → Stays soft (with_interfaces path has_rom soft)
  interfaces_stay false can = pci_io_stays false can
  interfaces_stay true can =
      let before : Stays soft (with_pci_io path soft) = pci_io_stays true can in
      let room : is_block_full (length override_block) (with_pci_io path soft) ≡ false =
      ap (λ (n : ℕ). is_block_full n (with_pci_io path soft)) blocks_have_sizes.1 ∙ can.override_room refl in
      joined_stays soft (with_pci_io path soft) (with_interfaces path true soft) before
      (block_interface_stays (Some soft.database.next) (known_guid BusOverride) override_block (with_pci_io path soft) before.kept room can.override_accepted)

-- a function that is noted changes nothing but the children
noted_memory : (handle function : ℕ) (soft : Soft) → (child_noted handle function soft).memory ≡ soft.memory
noted_memory handle function soft = choose_by (λ (s : Soft). s.memory ≡ soft.memory) (nat_lt function (length soft.bus_lists)) _ _ (λ is. refl) (λ is. refl)

noted_block : (handle function : ℕ) (soft : Soft) → (child_noted handle function soft).next_block ≡ soft.next_block
noted_block handle function soft = choose_by (λ (s : Soft). s.next_block ≡ soft.next_block) (nat_lt function (length soft.bus_lists)) _ _ (λ is. refl) (λ is. refl)

noted_records : (handle function : ℕ) (soft : Soft) → (child_noted handle function soft).records ≡ soft.records
noted_records handle function soft = choose_by (λ (s : Soft). s.records ≡ soft.records) (nat_lt function (length soft.bus_lists)) _ _ (λ is. refl) (λ is. refl)

-- any open for a child may be entered
may_for_child : (controller child : ℕ) (soft : Soft) → may_enter (judge (records_of soft.records.entries controller (known_guid RootBridgeIo)) bus_driver child BY_CHILD_CONTROLLER) ≡ true
may_for_child controller child soft =
    by_count (list_any (is_equal bus_driver child BY_CHILD_CONTROLLER) (records_of soft.records.entries controller (known_guid RootBridgeIo)))
  where
    by_count : (again : Bool) → may_enter (if again then Count else Add) ≡ true
    by_count true = refl
    by_count false = refl

-- what the interfaces leave, whether the override is among them or not
same_records : (path : List ℕ) (rom : Bool) (soft : Soft) → (with_interfaces path rom soft).records ≡ soft.records
same_records path true soft = refl
same_records path false soft = refl

same_children : (path : List ℕ) (rom : Bool) (soft : Soft) → (with_interfaces path rom soft).bus_children ≡ soft.bus_children
same_children path true soft = refl
same_children path false soft = refl

-- a new child stays, and root bridge I/O can be opened for it
pub record ChildIsNew (controller function : ℕ) (path : List ℕ) (rom : Bool) (soft : Soft) : Type 0 where
  pub stays : Stays soft (child_added path rom function soft)
  pub io : has_root_bridge_io controller (child_added path rom function soft).database ≡ true
  pub can : CanBeOpened controller soft.database.next BY_CHILD_CONTROLLER (child_added path rom function soft)
  pub room : is_root_record_full controller soft.database.next BY_CHILD_CONTROLLER (child_added path rom function soft) ≡ false

child_is_new : (controller function : ℕ) (path : List ℕ) (rom : Bool) (soft : Soft) → IsKept soft → is_child_full (length path) rom soft ≡ false
    → has_root_bridge_io controller soft.database ≡ true → is_root_record_full controller soft.database.next BY_CHILD_CONTROLLER soft ≡ false
    → ChildIsNew controller function path rom soft
child_is_new controller function path rom soft kept room io few =
    let next : ℕ = soft.database.next in
    let can : IsChildPossible path rom soft = child_is_possible soft path rom kept room in
    let whole : Soft = with_interfaces path rom soft in
    let before : Stays soft whole = interfaces_stay path soft kept rom can in
    let none : child_function next whole ≡ None =
    ap (λ (children : List BusChild). option_map (λ (child : BusChild). child.function) (find (is_child next) children)) (same_children path rom soft) ∙ can.handle_new in
    let noted : Soft = child_noted next function whole in
    let noted_kept : IsKept noted = noting whole next function before.kept can.pci_io_there none in
    let second : Stays whole noted = beside_memory whole noted (noted_memory next function whole) (noted_block next function whole) noted_kept in
    let database : noted.database ≡ whole.database = noted_database next function whole in
    let records : noted.records ≡ soft.records = noted_records next function whole ∙ same_records path rom soft in
    let io_there : has_root_bridge_io controller noted.database ≡ true = ap (has_root_bridge_io controller) database ∙ root_io_after controller path rom soft io in
    let some : is_some (interface_of next (known_guid PciIo) whole.database) ≡ true =
    some_interface next (known_guid PciIo) (pci_io_of next whole.database) firmware whole.database can.pci_io_there in
    let live : is_live next noted.database ≡ true = ap (is_live next) database ∙ live_with next (known_guid PciIo) whole.database some in
    let one_more : is_root_record_full controller next BY_CHILD_CONTROLLER noted ≡ false =
    ap (is_full controller (known_guid RootBridgeIo) bus_driver next BY_CHILD_CONTROLLER) records ∙ few in
    record {
      stays = joined_stays soft whole noted before second;
      io = io_there;
      can = record {
        there = has_root controller noted.database io_there;
        agent = bus_driver_live noted noted_kept;
        live = live;
        may = may_for_child controller next noted;
      };
      room = one_more;
    }

new_child_stays : (controller function : ℕ) (path : List ℕ) (rom : Bool) (soft : Soft) → IsKept soft → is_child_full (length path) rom soft ≡ false
    → has_root_bridge_io controller soft.database ≡ true → is_root_record_full controller soft.database.next BY_CHILD_CONTROLLER soft ≡ false
    → Stays soft (root_entered controller soft.database.next BY_CHILD_CONTROLLER (child_added path rom function soft))
new_child_stays controller function path rom soft kept room io few =
    let next : ℕ = soft.database.next in
    let noted : Soft = child_added path rom function soft in
    let new : ChildIsNew controller function path rom soft = child_is_new controller function path rom soft kept room io few in
    joined_stays soft noted _ new.stays
    (beside_memory noted (root_entered controller next BY_CHILD_CONTROLLER noted) refl refl
    (entered_kept controller next BY_CHILD_CONTROLLER noted new.stays.kept new.io new.can.live new.can.may refl new.room))

-- an answer without a refusal says that there is room
room_of : (full : Bool) (handle : ℕ) → not (is_ok {T = ℕ} {E = WorldFault} (if full then Err Full else Ok handle)) ≡ false → full ≡ false
room_of true handle is = absurd cc
room_of false handle is = refl

module _ (controller function : ℕ) (w : State) (room : is_bus_child_full controller function w ≡ false) where
  no_limit : (not (is_ok (child_answer controller function w)) ≡ false) × (is_root_record_full controller w.soft.database.next BY_CHILD_CONTROLLER w.soft ≡ false)
  no_limit = or_parts (not (is_ok (child_answer controller function w))) (is_root_record_full controller w.soft.database.next BY_CHILD_CONTROLLER w.soft) room

  no_child_limit : is_child_full (length (path_below controller function w)) (has_rom function w) w.soft ≡ false
  no_child_limit = room_of (is_child_full (length (path_below controller function w)) (has_rom function w) w.soft) w.soft.database.next no_limit.0

pub child_stays : (controller function : ℕ) (w : State) → is_allowed (adds_child controller function) w ≡ true → IsKept w.soft → Stays w.soft (changed (adds_child controller function) w).soft
child_stays controller function w can kept =
    let one = and_parts (is_some (root_bus controller w)) (not (is_bus_child_full controller function w)) can in
    let room = not-true (is_bus_child_full controller function w) one.1 in
    new_child_stays controller function (path_below controller function w) (has_rom function w) w.soft kept (no_child_limit controller function w room) (is_root_io controller w one.0) (no_limit controller function w room).1

pub new_child : (controller function : ℕ) (w : State) → IsKept w.soft → is_some (root_bus controller w) ≡ true → is_bus_child_full controller function w ≡ false
    → ChildIsNew controller function (path_below controller function w) (has_rom function w) w.soft
new_child controller function w kept root room =
    child_is_new controller function (path_below controller function w) (has_rom function w) w.soft kept (no_child_limit controller function w room) (is_root_io controller w root) (no_limit controller function w room).1

-- ---- bus lists, and blocks that are freed

pub listed_stays : (function : ℕ) (images : List ℕ) (soft : Soft) → IsKept soft → Stays soft (with_bus_list function images soft)
listed_stays function images soft kept = beside_memory soft (with_bus_list function images soft) refl refl (bus_list_set soft function images kept)

block_freed_stays : (at : ℕ) (soft : Soft) → IsKept soft → free_answer at Firmware soft ≡ Ok tt → Stays soft (block_freed at soft)
block_freed_stays at soft kept done = record {
  kept = freeing soft at Firmware kept refl done;
  stacks = freeing_stacks soft at Firmware kept refl done;
  later = omega arith;
  bytes = bytes_by_tests soft (block_freed at soft) (λ test all. list_all-unmapped (if_fixed test) at soft.memory all);
}

answered_well : (answer : Result (Unit {0}) WorldFault) → is_ok answer ≡ true → answer ≡ Ok tt
answered_well (Ok done) is = refl
answered_well (Err fault) is = absurd cc

pub freed_stays : (at : ℕ) (soft : Soft) → IsKept soft → Stays soft (firmware_block_freed at soft)
freed_stays at soft kept =
    choose_by (λ (s : Soft). Stays soft s) (is_ok (free_answer at Firmware soft)) (block_freed at soft) soft
    (λ is. block_freed_stays at soft kept (answered_well (free_answer at Firmware soft) is)) (λ is. same_stays soft kept)
