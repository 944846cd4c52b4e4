-- A child of the bus that passes no limit is made, with its interfaces and its function.
use Rattle.std.proofs.Common.{◌≡◌, ◌≤◌, ℕ, ◌+◌, Bool, true, false, ◌||◌, cond, nat_eq, nat_le, nat_lt, List, [], ◌∷◌, ◌++◌, length, map, sum, find, Some, None, refl, sym, ap, subst, ◌∙◌, arith}
use Rattle.std.specs.Prelude.{is_ok, option_map, if◌then◌else◌}
use Rattle.std.specs.List.{list_all, list_any}
use Rattle.std.proofs.lemmas.Bool.{and_parts, both_ways, or_parts, or_right}
use Rattle.std.proofs.lemmas.Bool.Decides.{nat_tests}
use Rattle.std.proofs.lemmas.List.Folds.{find-append, list_any-append}
use Rattle.std.proofs.lemmas.List.Sums.{sum_by-cons}
use Rattle.fw_types.specs.Guid.{known_guid}
use Rattle.fw_types.specs.declared.guid.Known.TheVariants.{BusOverride, DevicePath, PciIo}
use Rattle.fw_types.specs.declared.limits.TheConstants.{MOST_BLOCKS, MOST_BYTES}
use Rattle.guest_memory.specs.declared.segment.Segment.{Segment}
use Rattle.guest_memory.specs.declared.segment.SegKind.TheVariants.{Firmware, Pool}
use Rattle.guest_memory.specs.declared.address_map.TheConstants.{BLOCK_END}
use Rattle.guest_memory.specs.GuestMemory.{block_count, total_of}
use Rattle.handle_db.specs.declared.handle_entry.HandleEntry.{HandleEntry}
use Rattle.handle_db.specs.declared.handle_entry.Interface.{Interface}
use Rattle.fw_types.specs.declared.limits.TheConstants.{MOST_INTERFACES}
use Rattle.guest_memory.specs.Segment.{is_block}
use Rattle.handle_db.specs.Database.{Database, has_guid, is_below, is_handle, is_live, protocols_of}
use Rattle.handle_db.specs.Installing.{appended, install_answer, is_full, new_entry, with_interface}
use Rattle.world_model.specs.declared.bus_child.BusChild.{BusChild}
use Rattle.world_model.specs.World.{Soft}
use Rattle.world_model.specs.Blocks.{are_blocks_full, block_added, block_room, block_segment, is_block_full}
use Rattle.world_model.specs.BusChildren.{child_function, child_noted, is_child, pci_io_of}
use Rattle.world_model.specs.Interfaces.{firmware, interface}
use Rattle.world_model.specs.Kept.{IsKept, has_interface, has_pci_io, is_child_there}
use Rattle.world_model.specs.NewChild.{BlocksHaveSizes, ChildHasFunction, ChildHasInterfaces, ChildIsPossible, ChildKeepsStacks, child_added, child_protocols, child_sizes, is_child_full, override_block, override_size, pci_io_block, pci_io_size, with_interfaces, with_path, with_pci_io}
use Rattle.world_model.proofs.Segments.{list_any-none}
use Rattle.world_model.proofs.KeepingImages.{none_next}
use Rattle.world_model.specs.Marks.{stacks}
use Rattle.world_model.proofs.StackLaws.{allotting as keeps_stacks}
use Rattle.world_model.proofs.OpeningState.{count-mapped}
use Rattle.world_model.proofs.Totals.{total-mapped, total-other}

-- ---- sizes

size-pci_io : length pci_io_block ≡ pci_io_size
unfolding pci_io_block
size-pci_io = refl

size-override : length override_block ≡ override_size
unfolding override_block
size-override = refl

pub blocks_have_sizes : BlocksHaveSizes
blocks_have_sizes = (size-pci_io, size-override)

-- ---- the new handle, after all others

-- it is found there
find-last : (entries : List HandleEntry) (last : HandleEntry) → list_all (is_below last.handle) entries ≡ true → find (is_handle last.handle) (entries ++ last ∷ []) ≡ Some last
find-last entries last below =
    let here : is_handle last.handle last ≡ true = grind (arith, nat_tests) in
    find-append (is_handle last.handle) entries (last ∷ []) ∙ rw (none_next last.handle entries below, here) refl

live-last : (entries : List HandleEntry) (last : HandleEntry) → list_any (is_handle last.handle) (entries ++ last ∷ []) ≡ true
live-last entries last =
    let here : is_handle last.handle last ≡ true = grind (arith, nat_tests) in
    list_any-append (is_handle last.handle) entries (last ∷ []) ∙ or_right (list_any (is_handle last.handle) entries) (list_any (is_handle last.handle) (last ∷ [])) (rw here refl)

-- and gets one more interface there
appended-last : (new : Interface) (entries : List HandleEntry) (last : HandleEntry) → list_all (is_below last.handle) entries ≡ true
    → with_interface last.handle new (entries ++ last ∷ []) ≡ entries ++ appended new last ∷ []
appended-last new [] last below = let here : is_handle last.handle last ≡ true = grind (arith, nat_tests) in rw here refl
appended-last new (entry ∷ entries) last below =
    let parts = and_parts (is_below last.handle entry) (list_all (is_below last.handle) entries) below in
    let other : is_handle last.handle entry ≡ false = grind (arith, nat_tests, parts.0) in
    rw other (ap (λ (rest : List HandleEntry). entry ∷ rest) (appended-last new entries last parts.1))

-- ---- its interfaces, one after the other

abbrev path_at : ℕ → Interface
path_at at = interface (known_guid DevicePath) at firmware

abbrev pci_io_at : ℕ → Interface
pci_io_at at = interface (known_guid PciIo) at firmware

abbrev override_at : ℕ → Interface
override_at at = interface (known_guid BusOverride) at firmware

abbrev one : (soft : Soft) → HandleEntry
one soft = new_entry soft.database.next (path_at soft.next_block)

abbrev two : (path : List ℕ) (soft : Soft) → HandleEntry
two path soft = appended (pci_io_at (with_path path soft).next_block) (one soft)

abbrev three : (path : List ℕ) (soft : Soft) → HandleEntry
three path soft = appended (override_at (with_pci_io path soft).next_block) (two path soft)

-- the handles of the others, which are below
abbrev others : Soft → List HandleEntry
others soft = soft.database.handles

handles-two : (path : List ℕ) (soft : Soft) → IsKept soft → (with_pci_io path soft).database.handles ≡ others soft ++ two path soft ∷ []
handles-two path soft kept = appended-last (pci_io_at (with_path path soft).next_block) (others soft) (one soft) kept.database.sound.below

handles-three : (path : List ℕ) (soft : Soft) → IsKept soft → (with_interfaces path true soft).database.handles ≡ others soft ++ three path soft ∷ []
handles-three path soft kept =
    ap (with_interface soft.database.next (override_at (with_pci_io path soft).next_block)) (handles-two path soft kept)
    ∙ appended-last (override_at (with_pci_io path soft).next_block) (others soft) (two path soft) kept.database.sound.below

-- the last entry of all is what the child has
abbrev last : (path : List ℕ) (has_rom : Bool) (soft : Soft) → HandleEntry
last path has_rom soft = if has_rom then three path soft else two path soft

found : (path : List ℕ) (has_rom : Bool) (soft : Soft) → IsKept soft → find (is_handle soft.database.next) (with_interfaces path has_rom soft).database.handles ≡ Some (last path has_rom soft)
found path false soft kept = ap (find (is_handle soft.database.next)) (handles-two path soft kept) ∙ find-last (others soft) (two path soft) kept.database.sound.below
found path true soft kept = ap (find (is_handle soft.database.next)) (handles-three path soft kept) ∙ find-last (others soft) (three path soft) kept.database.sound.below

-- such a handle accepts one more interface of a protocol that it does not have
accepted-last : (guid : List ℕ) (entry : HandleEntry) (db : Database) (entries : List HandleEntry) → db.handles ≡ entries ++ entry ∷ [] → list_all (is_below entry.handle) entries ≡ true
    → has_guid guid entry ≡ false → nat_le MOST_INTERFACES (length entry.interfaces) ≡ false → is_ok (install_answer (Some entry.handle) guid db) ≡ true
accepted-last guid entry db entries same below other few =
    let live : is_live entry.handle db ≡ true = ap (list_any (is_handle entry.handle)) same ∙ live-last entries entry in
    let there : find (is_handle entry.handle) db.handles ≡ Some entry = ap (find (is_handle entry.handle)) same ∙ find-last entries entry below in
    rw (live, there, other, few) refl

-- ---- room

-- there is room for so many blocks, with so many bytes in all, at so many addresses
record Room (bytes count addresses : ℕ) (memory : List Segment) (next_block : ℕ) : Type 0 where
  bytes_fit : total_of memory Pool + total_of memory Firmware + bytes ≤ MOST_BYTES
  count_fits : block_count memory + count ≤ MOST_BLOCKS
  addresses_fit : next_block + addresses ≤ BLOCK_END

-- what the blocks after the path take
abbrev bytes_after : Bool → ℕ
bytes_after has_rom = if has_rom then 168 else 160

abbrev count_after : Bool → ℕ
count_after has_rom = if has_rom then 2 else 1

abbrev addresses_after : Bool → ℕ
addresses_after has_rom = if has_rom then 176 else 160

-- no limit is passed, in numbers
in_numbers : (most_bytes most_blocks end bytes blocks next : ℕ) → ((nat_lt most_bytes bytes || nat_lt most_blocks blocks) || nat_lt end next) ≡ false
    → (bytes ≤ most_bytes) × ((blocks ≤ most_blocks) × (next ≤ end))
in_numbers most_bytes most_blocks end bytes blocks next room =
    let parts = or_parts (nat_lt most_bytes bytes || nat_lt most_blocks blocks) (nat_lt end next) room in
    let two = or_parts (nat_lt most_bytes bytes) (nat_lt most_blocks blocks) parts.0 in
    (grind (arith, nat_tests, two.0), (grind (arith, nat_tests, two.1), grind (arith, nat_tests, parts.1)))

room_for : (size : ℕ) (has_rom : Bool) (soft : Soft) → are_blocks_full (child_sizes size has_rom) soft ≡ false
    → Room (size + bytes_after has_rom) (1 + count_after has_rom) (block_room size + addresses_after has_rom) soft.memory soft.next_block
room_for size false soft room =
    let sizes = child_sizes size false in
    let are = in_numbers MOST_BYTES MOST_BLOCKS BLOCK_END (total_of soft.memory Pool + total_of soft.memory Firmware + sum sizes) (block_count soft.memory + length sizes) (soft.next_block + sum (map block_room sizes)) room in
    record { bytes_fit = omega (arith, are.0); count_fits = omega (arith, are.1.0); addresses_fit = omega (arith, are.1.1) }
room_for size true soft room =
    let sizes = child_sizes size true in
    let are = in_numbers MOST_BYTES MOST_BLOCKS BLOCK_END (total_of soft.memory Pool + total_of soft.memory Firmware + sum sizes) (block_count soft.memory + length sizes) (soft.next_block + sum (map block_room sizes)) room in
    record { bytes_fit = omega (arith, are.0); count_fits = omega (arith, are.1.0); addresses_fit = omega (arith, are.1.1) }

-- the first of them is not refused
fits : (size bytes count addresses : ℕ) (soft : Soft) → Room (size + bytes) (1 + count) (block_room size + addresses) soft.memory soft.next_block → is_block_full size soft ≡ false
fits size bytes count addresses soft room =
    numbers_fit (total_of soft.memory Pool) (total_of soft.memory Firmware) (block_count soft.memory) soft.next_block (block_room size) room.bytes_fit room.count_fits room.addresses_fit
  where
    numbers_fit : (pool firm blocks next room : ℕ) → pool + firm + (size + bytes) ≤ MOST_BYTES → blocks + (1 + count) ≤ MOST_BLOCKS → next + (room + addresses) ≤ BLOCK_END
        → ((nat_lt MOST_BYTES (pool + firm + size) || nat_le MOST_BLOCKS blocks) || nat_lt BLOCK_END (next + room)) ≡ false
    numbers_fit pool firm blocks next room one two three = grind (arith, nat_tests)

-- and leaves room for the others
after : (new : List ℕ) (bytes count addresses : ℕ) (soft : Soft) → Room (length new + bytes) (1 + count) (block_room (length new) + addresses) soft.memory soft.next_block
    → Room bytes count addresses (block_added new Firmware soft).memory (block_added new Firmware soft).next_block
after new bytes count addresses soft room =
    let segment = block_segment new Firmware soft in
    let pool = total-other Pool segment soft.memory refl in
    let firm = total-mapped Firmware segment soft.memory in
    let more = count-mapped segment soft.memory in
    let one = sum_by-cons (λ (s : Segment). cond (is_block s.kind) 1 0) segment soft.memory in
    record {
      bytes_fit = omega (arith, pool, firm, room.bytes_fit);
      count_fits = omega (arith, more, one, room.count_fits);
      addresses_fit = omega (arith, room.addresses_fit);
    }

-- of the path, of PCI I/O and of the override
room_of_path : (path : List ℕ) (has_rom : Bool) (soft : Soft) → is_child_full (length path) has_rom soft ≡ false
    → Room (length path + bytes_after has_rom) (1 + count_after has_rom) (block_room (length path) + addresses_after has_rom) soft.memory soft.next_block
room_of_path path has_rom soft room =
    room_for (length path) has_rom soft (or_parts (is_full soft.database) (are_blocks_full (child_sizes (length path) has_rom) soft) room).1

room_of_pci_io : (path : List ℕ) (has_rom : Bool) (soft : Soft) → is_child_full (length path) has_rom soft ≡ false
    → Room (bytes_after has_rom) (count_after has_rom) (addresses_after has_rom) (with_path path soft).memory (with_path path soft).next_block
room_of_pci_io path has_rom soft room = after path (bytes_after has_rom) (count_after has_rom) (addresses_after has_rom) soft (room_of_path path has_rom soft room)

room_of_override : (path : List ℕ) (soft : Soft) → is_child_full (length path) true soft ≡ false → Room 8 1 16 (with_pci_io path soft).memory (with_pci_io path soft).next_block
room_of_override path soft room =
    after pci_io_block 8 1 16 (with_path path soft)
    (subst (λ (n : ℕ). Room (n + 8) 2 (block_room n + 16) (with_path path soft).memory (with_path path soft).next_block) (sym size-pci_io) (room_of_pci_io path true soft room))

pci_io_fits : (path : List ℕ) (has_rom : Bool) (soft : Soft) → is_child_full (length path) has_rom soft ≡ false → is_block_full pci_io_size (with_path path soft) ≡ false
pci_io_fits path false soft room = fits pci_io_size 0 0 0 (with_path path soft) (room_of_pci_io path false soft room)
pci_io_fits path true soft room = fits pci_io_size 8 1 16 (with_path path soft) (room_of_pci_io path true soft room)

override_fits : (path : List ℕ) (has_rom : Bool) (soft : Soft) → is_child_full (length path) has_rom soft ≡ false → has_rom ≡ true → is_block_full override_size (with_pci_io path soft) ≡ false
override_fits path false soft room is = absurd cc
override_fits path true soft room is = fits override_size 0 0 0 (with_pci_io path soft) (room_of_override path soft room)

-- ---- the new handle is no child yet

-- a child is live, and the next handle is not
not_there : (soft : Soft) (child : BusChild) → IsKept soft → is_child_there soft.database child ≡ true → is_child soft.database.next child ≡ false
not_there soft child kept there = by_test (is_child soft.database.next child) refl
  where
    nothing : find (is_handle soft.database.next) soft.database.handles ≡ None
    nothing = none_next soft.database.next soft.database.handles kept.database.sound.below

    by_test : (here : Bool) → is_child soft.database.next child ≡ here → here ≡ false
    by_test false is = refl
    by_test true is =
        let same : child.handle ≡ soft.database.next = grind (arith, nat_tests, is) in
        let has : has_interface soft.database soft.database.next (known_guid PciIo) child.pci_io firmware ≡ true =
        subst (λ (h : ℕ). has_interface soft.database h (known_guid PciIo) child.pci_io firmware ≡ true) same there in
        let hasnt : has_interface soft.database soft.database.next (known_guid PciIo) child.pci_io firmware ≡ false = rw nothing refl in
        absurd (both_ways (has_interface soft.database soft.database.next (known_guid PciIo) child.pci_io firmware) hasnt has)

none_of : (P : BusChild → Bool) (children : List BusChild) → list_any P children ≡ false → find P children ≡ None
none_of P [] none = refl
none_of P (child ∷ children) none = let parts = or_parts (P child) (list_any P children) none in rw parts.0 (none_of P children parts.1)

none_next_child : (soft : Soft) → IsKept soft → find (is_child soft.database.next) soft.bus_children ≡ None
none_next_child soft kept =
    none_of (is_child soft.database.next) soft.bus_children
    (list_any-none (is_child_there soft.database) (is_child soft.database.next) soft.bus_children (λ child there. not_there soft child kept there) kept.children.installed)

new_handle : (soft : Soft) → IsKept soft → child_function soft.database.next soft ≡ None
new_handle soft kept = ap (option_map (λ (child : BusChild). child.function)) (none_next_child soft kept)

-- ---- all of it

pci_io_is_there : (path : List ℕ) (has_rom : Bool) (soft : Soft) → IsKept soft → has_pci_io soft.database.next (with_interfaces path has_rom soft).database ≡ true
pci_io_is_there path false soft kept =
    let at = (with_path path soft).next_block in
    let same : nat_eq at at ≡ true = grind (arith, nat_tests) in
    rw (found path false soft kept, same) refl
pci_io_is_there path true soft kept =
    let at = (with_path path soft).next_block in
    let same : nat_eq at at ≡ true = grind (arith, nat_tests) in
    rw (found path true soft kept, same) refl

pub child_is_possible : ChildIsPossible
child_is_possible soft path has_rom kept room = record {
  path_room = fits (length path) (bytes_after has_rom) (count_after has_rom) (addresses_after has_rom) soft (room_of_path path has_rom soft room);
  path_accepted = rw (or_parts (is_full soft.database) (are_blocks_full (child_sizes (length path) has_rom) soft) room).0 refl;
  pci_io_room = pci_io_fits path has_rom soft room;
  pci_io_accepted = accepted-last (known_guid PciIo) (one soft) (with_path path soft).database (others soft) refl kept.database.sound.below refl refl;
  override_room = override_fits path has_rom soft room;
  override_accepted = accepted-last (known_guid BusOverride) (two path soft) (with_pci_io path soft).database (others soft) (handles-two path soft kept) kept.database.sound.below refl refl;
  pci_io_there = pci_io_is_there path has_rom soft kept;
  handle_new = new_handle soft kept;
}

-- ---- what it has

protocols : (path : List ℕ) (has_rom : Bool) (soft : Soft) → IsKept soft → protocols_of soft.database.next (with_interfaces path has_rom soft).database ≡ child_protocols soft.next_block (length path) has_rom
protocols path false soft kept = rw (found path false soft kept) refl
protocols path true soft kept = rw (found path true soft kept, size-pci_io) refl

-- to note a function leaves the database
noted_database : (handle function : ℕ) (soft : Soft) → (child_noted handle function soft).database ≡ soft.database
noted_database handle function soft =
    elim (nat_lt function (length soft.bus_lists)) as (λ room. (if room then record soft {
      bus_children = soft.bus_children ++ record { handle = handle; pci_io = pci_io_of handle soft.database; function = function } ∷ [];
    } else soft).database ≡ soft.database) [
      | true ↦ refl
      | false ↦ refl
    ]

pub child_has_interfaces : ChildHasInterfaces
child_has_interfaces soft path has_rom function kept =
    ap (protocols_of soft.database.next) (noted_database soft.database.next function (with_interfaces path has_rom soft)) ∙ protocols path has_rom soft kept

-- the function that is noted is found
found_function : (handle function at : ℕ) (soft : Soft) → find (is_child handle) soft.bus_children ≡ None
    → option_map (λ (child : BusChild). child.function) (find (is_child handle) (soft.bus_children ++ record { handle = handle; pci_io = at; function = function } ∷ [])) ≡ Some function
found_function handle function at soft none =
    let new : BusChild = record { handle = handle; pci_io = at; function = function } in
    let here : is_child handle new ≡ true = grind (arith, nat_tests) in
    let found : find (is_child handle) (soft.bus_children ++ new ∷ []) ≡ Some new = find-append (is_child handle) soft.bus_children (new ∷ []) ∙ rw (none, here) refl in
    ap (option_map (λ (child : BusChild). child.function)) found

pub child_has_function : ChildHasFunction
child_has_function soft path has_rom function kept less = by_rom has_rom
  where
    room : nat_lt function (length soft.bus_lists) ≡ true
    room = grind (arith, nat_tests)

    nothing : find (is_child soft.database.next) soft.bus_children ≡ None
    nothing = none_next_child soft kept

    by_rom : (has_rom : Bool) → child_function soft.database.next (child_added path has_rom function soft) ≡ Some function
    by_rom false = rw room (found_function soft.database.next function (pci_io_of soft.database.next (with_interfaces path false soft).database) soft nothing)
    by_rom true = rw room (found_function soft.database.next function (pci_io_of soft.database.next (with_interfaces path true soft).database) soft nothing)

-- ---- stacks

noted_stacks : (handle function : ℕ) (soft : Soft) → stacks (child_noted handle function soft) ≡ stacks soft
noted_stacks handle function soft =
    elim (nat_lt function (length soft.bus_lists)) as (λ room. stacks (if room then record soft {
      bus_children = soft.bus_children ++ record { handle = handle; pci_io = pci_io_of handle soft.database; function = function } ∷ [];
    } else soft) ≡ stacks soft) [
      | true ↦ refl
      | false ↦ refl
    ]

pub child_keeps_stacks : ChildKeepsStacks
child_keeps_stacks soft path has_rom function = noted_stacks soft.database.next function (with_interfaces path has_rom soft) ∙ by_rom has_rom
  where
    two : stacks (with_pci_io path soft) ≡ stacks soft
    two = keeps_stacks (with_path path soft) pci_io_block Firmware refl ∙ keeps_stacks soft path Firmware refl

    by_rom : (has_rom : Bool) → stacks (with_interfaces path has_rom soft) ≡ stacks soft
    by_rom false = two
    by_rom true = keeps_stacks (with_pci_io path soft) override_block Firmware refl ∙ two
