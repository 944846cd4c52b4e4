-- The root bridges of the opening state: their handles, paths and buses, and what is not there.
use Rattle.std.proofs.Common.{◌≡◌, ◌≤◌, ℕ, zero, suc, ◌+◌, ◌-◌, ◌*◌, true, false, ◌&&◌, nat_eq, nat_le, nat_lt, List, [], ◌∷◌, ◌++◌, length, find, Option, Some, None, refl, sym, ap, ◌∙◌, arith}
use Rattle.std.specs.Prelude.{slice_get}
use Rattle.std.specs.List.{fold, list_all, range_with_len}
use Rattle.std.specs.Option.{option_or}
use Rattle.std.proofs.lemmas.Bool.{and_from}
use Rattle.std.proofs.lemmas.Bool.Decides.{nat_tests}
use Rattle.std.proofs.lemmas.List.Folds.{find-append, list_all-append}
use Rattle.pci_model.specs.BoardLines.{roots}
use Rattle.device_path.specs.DevicePath.{root_path}
use Rattle.guest_memory.specs.declared.segment.Segment.{Segment}
use Rattle.guest_memory.specs.declared.address_map.TheConstants.{BOOT_TABLE, BUS_BINDING, FIRMWARE_IMAGE, FIRST_BLOCK, SYSTEM_TABLE, TABLES_END}
use Rattle.guest_memory.specs.Segment.{has_bytes}
use Rattle.guest_memory.specs.GuestMemory.{bytes_in, holder}
use Rattle.guest_memory.specs.declared.segment.SegKind.TheVariants.{Firmware}
use Rattle.handle_db.specs.declared.handle_entry.HandleEntry.{HandleEntry}
use Rattle.handle_db.specs.Database.{interfaces_in, interfaces_of, is_handle, numbers}
use Rattle.world_model.specs.World.{Soft}
use Rattle.world_model.specs.Boards.{OpeningHandles, RollbackLeavesBoard, RootsAreThere, RootsHaveBuses, first_root}
use Rattle.world_model.specs.CommandPath.{OpeningHasNoPath, has_no_path, is_beside_path}
use Rattle.world_model.specs.Levels.{OpeningIsAtRest}
use Rattle.world_model.specs.Marks.{put_back, stacks}
use Rattle.world_model.specs.Opening.{firmware_soft, opening_soft}
use Rattle.service_thunks.specs.Tables.{boot_table_size}
use Rattle.world_model.specs.Images.{block_size}
use Rattle.world_model.specs.Tables.{binding_size, firmware_contents, tables}
use Rattle.world_model.proofs.RootBridges.{IsGrownBy, bridge_interface, grown, path_interface, root_entries, root_entry, root_segment, root_segments, step}
use Rattle.world_model.proofs.StackLaws.{allotting}
use Rattle.world_model.proofs.Structures.{length-block, length-boot_table, length-bus_binding, length-system_table}

all_grown : (functions : ℕ) (bridges : List (ℕ × ℕ)) → IsGrownBy bridges (firmware_soft functions) (opening_soft functions bridges)
all_grown functions bridges = grown bridges (firmware_soft functions) (record { handles = refl; segments = refl })

-- ---- handles

numbers-of_roots : (handle path : ℕ) (bridges : List (ℕ × ℕ)) → numbers (root_entries handle path bridges) ≡ range_with_len handle (length bridges)
numbers-of_roots handle path [] = refl
numbers-of_roots handle path (bridge ∷ bridges) = ap (λ (rest : List ℕ). handle ∷ rest) (numbers-of_roots (handle + 1) (path + 16) bridges)

pub opening_handles : OpeningHandles
opening_handles functions bridges =
    let two_more : suc (suc (length bridges)) ≡ 2 + length bridges = omega arith in
    ap numbers (all_grown functions bridges).handles
    ∙ ap (λ (rest : List ℕ). 1 ∷ 2 ∷ rest) (numbers-of_roots 3 FIRST_BLOCK bridges)
    ∙ ap (range_with_len 1) two_more

find-root : (handle path : ℕ) (bridges : List (ℕ × ℕ)) (place : ℕ) (bridge : ℕ × ℕ) → slice_get bridges place ≡ Some bridge
    → find (is_handle (handle + place)) (root_entries handle path bridges) ≡ Some (root_entry (handle + place) (path + 16 * place))
find-root handle path [] place bridge is = absurd cc
find-root handle path (first ∷ bridges) zero bridge is =
    let here : nat_eq handle (handle + 0) ≡ true = grind (arith, nat_tests) in
    let same : handle ≡ handle + 0 = omega arith in
    let at : path ≡ path + 16 * 0 = omega arith in
    rw here (ap (λ (h : ℕ). Some (root_entry h path)) same ∙ ap (λ (p : ℕ). Some (root_entry (handle + 0) p)) at)
find-root handle path (first ∷ bridges) (suc place) bridge is =
    let other : nat_eq handle (handle + suc place) ≡ false = grind (arith, nat_tests) in
    let same : handle + 1 + place ≡ handle + suc place = omega arith in
    let at : path + 16 + 16 * place ≡ path + 16 * suc place = omega arith in
    rw other (
    ap (λ (h : ℕ). find (is_handle h) (root_entries (handle + 1) (path + 16) bridges)) (sym same)
    ∙ find-root (handle + 1) (path + 16) bridges place bridge is
    ∙ ap (λ (h : ℕ). Some (root_entry h (path + 16 + 16 * place))) same
    ∙ ap (λ (p : ℕ). Some (root_entry (handle + suc place) p)) at
    )

interfaces-of_root : (functions : ℕ) (bridges : List (ℕ × ℕ)) (place : ℕ) (bridge : ℕ × ℕ) → slice_get bridges place ≡ Some bridge
    → interfaces_of (first_root + place) (opening_soft functions bridges).database ≡ path_interface (FIRST_BLOCK + 16 * place) ∷ bridge_interface ∷ []
interfaces-of_root functions bridges place bridge is =
    let no_firmware : nat_eq 1 (3 + place) ≡ false = grind (arith, nat_tests) in
    let no_driver : nat_eq 2 (3 + place) ≡ false = grind (arith, nat_tests) in
    let found : find (is_handle (3 + place)) ((firmware_soft functions).database.handles ++ root_entries 3 FIRST_BLOCK bridges) ≡ Some (root_entry (3 + place) (FIRST_BLOCK + 16 * place)) =
    rw (no_firmware, no_driver) (find-root 3 FIRST_BLOCK bridges place bridge is) in
    ap (λ (handles : List HandleEntry). interfaces_in (find (is_handle (3 + place)) handles)) (all_grown functions bridges).handles ∙ ap interfaces_in found

-- ---- paths

-- the path of a root bridge is in the segment that begins there
find-path : (path : ℕ) (bridges : List (ℕ × ℕ)) (place : ℕ) (bridge : ℕ × ℕ) → slice_get bridges place ≡ Some bridge
    → holder (root_segments path bridges) (path + 16 * place) 16 ≡ Some (root_segment (path + 16 * place) bridge.0)
find-path path [] place bridge is = absurd cc
find-path path (first ∷ bridges) zero bridge is =
    let here : (nat_le path (path + 16 * 0) && nat_le (path + 16 * 0 + 16) (path + 16)) ≡ true = grind (arith, nat_tests) in
    let at : path ≡ path + 16 * 0 = omega arith in
    let same : first ≡ bridge = cc in
    rw here (ap (λ (p : ℕ). Some (root_segment p first.0)) at ∙ ap (λ (b : ℕ × ℕ). Some (root_segment (path + 16 * 0) b.0)) same)
find-path path (first ∷ bridges) (suc place) bridge is =
    let other : (nat_le path (path + 16 * suc place) && nat_le (path + 16 * suc place + 16) (path + 16)) ≡ false = grind (arith, nat_tests) in
    let at : path + 16 + 16 * place ≡ path + 16 * suc place = omega arith in
    rw other (
    ap (λ (p : ℕ). holder (root_segments (path + 16) bridges) p 16) (sym at)
    ∙ find-path (path + 16) bridges place bridge is
    ∙ ap (λ (p : ℕ). Some (root_segment p bridge.0)) at
    )

-- no table has it
no_table : (place : ℕ) → holder tables (FIRST_BLOCK + 16 * place) 16 ≡ None
no_table place =
    let system = past SYSTEM_TABLE 128 place (omega arith) in
    let boot = past BOOT_TABLE boot_table_size place (omega arith) in
    let binding = past BUS_BINDING binding_size place (omega arith) in
    let firmware = past FIRMWARE_IMAGE block_size place (omega arith) in
    rw (length-system_table, length-boot_table, length-bus_binding, length-block firmware_contents, system, boot, binding, firmware) refl
  where
    past : (base size place : ℕ) → base + size ≤ FIRST_BLOCK → (nat_le base (FIRST_BLOCK + 16 * place) && nat_le (FIRST_BLOCK + 16 * place + 16) (base + size)) ≡ false
    past base size place low = grind (arith, nat_tests)

pub roots_are_there : RootsAreThere
roots_are_there functions bridges place bridge is =
    let at = FIRST_BLOCK + 16 * place in
    let found : holder (opening_soft functions bridges).memory at 16 ≡ Some (root_segment at bridge.0) =
    ap (λ (memory : List Segment). holder memory at 16) (all_grown functions bridges).memory
    ∙ find-append (λ (s : Segment). has_bytes s at 16) tables (root_segments FIRST_BLOCK bridges)
    ∙ ap (λ (first : Option Segment). option_or first (holder (root_segments FIRST_BLOCK bridges) at 16)) (no_table place)
    ∙ find-path FIRST_BLOCK bridges place bridge is in
    let front : at - at ≡ 0 = omega arith in
    record {
      interfaces = rw (interfaces-of_root functions bridges place bridge is) refl;
      bytes = ap (λ (s : Option Segment). bytes_in s at 16) found ∙ rw front refl;
    }

-- ---- buses

pub roots_have_buses : RootsHaveBuses
roots_have_buses board roms place bridge is =
    let low : nat_lt (3 + place) 3 ≡ false = grind (arith, nat_tests) in
    let back : 3 + place - 3 ≡ place = omega arith in
    rw (interfaces-of_root (length roms) (roots board.lines) place bridge is, low, back, is) refl

-- ---- what is not there

stacks-stay : (bridges : List (ℕ × ℕ)) (soft : Soft) → stacks (fold step soft bridges) ≡ stacks soft
stacks-stay [] soft = refl
stacks-stay (bridge ∷ bridges) soft = stacks-stay bridges (step soft bridge) ∙ allotting soft (root_path bridge.0) Firmware refl

pub opening_is_at_rest : OpeningIsAtRest
opening_is_at_rest board roms = record { no_stack = stacks-stay (roots board.lines) (firmware_soft (length roms)); no_mark = refl }

paths-beside : (path : ℕ) (bridges : List (ℕ × ℕ)) → TABLES_END ≤ path → list_all is_beside_path (root_segments path bridges) ≡ true
paths-beside path [] high = refl
paths-beside path (bridge ∷ bridges) high =
    and_from (is_beside_path (root_segment path bridge.0)) (list_all is_beside_path (root_segments (path + 16) bridges)) (grind (arith, nat_tests)) (paths-beside (path + 16) bridges (omega arith))

pub opening_has_none : OpeningHasNoPath
opening_has_none functions bridges =
    let beside_tables : has_no_path tables ≡ true = rw (length-system_table, length-boot_table, length-bus_binding, length-block firmware_contents) refl in
    ap has_no_path (all_grown functions bridges).memory
    ∙ list_all-append is_beside_path tables (root_segments FIRST_BLOCK bridges)
    ∙ and_from (has_no_path tables) (list_all is_beside_path (root_segments FIRST_BLOCK bridges)) beside_tables (paths-beside FIRST_BLOCK bridges (omega arith))

-- ---- undo

pub rollback_leaves_board : RollbackLeavesBoard
rollback_leaves_board w = by_marks w.marks
  where
    by_marks : (marks : List Soft) → ((put_back marks w.now).hard.board ≡ w.now.hard.board) × ((put_back marks w.now).hard.roms ≡ w.now.hard.roms)
    by_marks [] = (refl, refl)
    by_marks (soft ∷ marks) = (refl, refl)
