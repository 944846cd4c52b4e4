-- What holds of every soft part holds of the opening one, whatever root bridges the board has.
use Rattle.std.proofs.Common.{◌≡◌, ◌≤◌, ◌<◌, ℕ, ◌+◌, ◌*◌, Bool, true, false, ◌||◌, cond, nat_le, nat_lt, List, [], ◌∷◌, ◌++◌, length, find, Some, None, refl, ap, subst, ◌∙◌, length-append, arith}
use Rattle.std.specs.Prelude.{Result, Ok, Err, is_ok, if◌then◌else◌}
use Rattle.std.specs.List.{fold, list_all, list_any}
use Rattle.std.proofs.lemmas.Bool.{or_right}
use Rattle.std.proofs.lemmas.Bool.Decides.{nat_tests}
use Rattle.std.proofs.lemmas.List.Folds.{find-append, list_any-append}
use Rattle.std.proofs.lemmas.List.Sums.{sum_by-cons}
use Rattle.fw_types.specs.declared.limits.TheConstants.{HANDLE_NUMBER_END, MOST_BLOCKS, MOST_BYTES, MOST_HANDLES}
use Rattle.pci_model.specs.declared.numbers.TheConstants.{MOST_ROOTS}
use Rattle.device_path.specs.DevicePath.{root_path}
use Rattle.guest_memory.specs.declared.segment.Segment.{Segment}
use Rattle.guest_memory.specs.declared.segment.SegKind.TheVariants.{Firmware, Pool}
use Rattle.guest_memory.specs.declared.address_map.TheConstants.{BLOCK_END, FIRST_BLOCK}
use Rattle.guest_memory.specs.Segment.{is_block}
use Rattle.guest_memory.specs.GuestMemory.{block_count, mapped, total_of}
use Rattle.handle_db.specs.Database.{IsSound, is_below, is_handle}
use Rattle.handle_db.specs.declared.refusal.DbRefusal.{DbRefusal}
use Rattle.handle_db.specs.declared.refusal.DbRefusal.TheVariants.{Full}
use Rattle.handle_db.specs.Installing.{is_full, new_entry}
use Rattle.world_model.specs.World.{Soft}
use Rattle.world_model.specs.Blocks.{block_added, is_block_full}
use Rattle.world_model.specs.Interfaces.{install_answer, interface_added}
use Rattle.world_model.specs.Tables.{firmware_contents}
use Rattle.world_model.specs.Opening.{firmware_database, firmware_soft, opening_soft}
use Rattle.world_model.specs.Boards.{RootsFit}
use Rattle.world_model.specs.Kept.{IsKept}
use Rattle.world_model.specs.Keeping.{OpeningIsKept}
use Rattle.world_model.proofs.KeepingBlocks.{allotting}
use Rattle.world_model.proofs.KeepingInterfaces.{installing}
use Rattle.world_model.proofs.KeepingImages.{none_next}
use Rattle.world_model.proofs.RootBridges.{bridge_interface, entry-last, path_interface, root_segment, step}
use Rattle.world_model.proofs.Structures.{length-block, length-boot_table, length-bus_binding, length-system_table}
use Rattle.world_model.proofs.Totals.{total-mapped, total-other}

-- ---- without root bridges

firmware_sound : IsSound firmware_database
firmware_sound = record { rising = refl; below = refl; kept = refl; few = omega arith; from = omega arith; end = omega arith }

pub firmware_kept : (functions : ℕ) → IsKept (firmware_soft functions)
firmware_kept functions = record {
  memory = record {
    apart = rw (length-system_table, length-boot_table, length-bus_binding, length-block firmware_contents) refl;
    placed = rw (length-system_table, length-boot_table, length-bus_binding, length-block firmware_contents) refl;
    tables = refl;
    lists = λ level to has. absurd (grind (arith, nat_tests));
  };
  images = record {
    segments = refl;
    entry_points = refl;
    blocks = refl;
    rising = refl;
  };
  database = record {
    sound = firmware_sound;
    limit = refl;
    firmware_there = refl;
    bus_driver_there = refl;
    installed = refl;
  };
  thunks = record {
    targets = refl;
    numbers = refl;
  };
  records = record {
    sound = record { rising = refl; apart = refl; kept = refl; few = omega arith };
    limit = refl;
    parties = refl;
  };
  children = record { installed = refl; functions = refl; apart = refl };
  ranges = record {
    images = omega arith;
    blocks = omega arith;
    thunks = omega arith;
  };
}

-- ---- after so many root bridges

-- what holds of the soft part, and how much of each limit is used up
record IsOpened (count : ℕ) (soft : Soft) : Type 0 where
  kept : IsKept soft
  pool : total_of soft.memory Pool ≡ 0
  firmware : total_of soft.memory Firmware ≡ 16 * count
  blocks : block_count soft.memory ≡ count
  next_block : soft.next_block ≡ FIRST_BLOCK + 16 * count
  next : soft.database.next ≡ 3 + count
  few : length soft.database.handles ≡ 2 + count

-- nothing refuses one more
block_room_left : (pool firmware blocks next_block count : ℕ) → count < MOST_ROOTS → pool ≡ 0 → firmware ≡ 16 * count → blocks ≡ count → next_block ≡ FIRST_BLOCK + 16 * count
    → ((nat_lt MOST_BYTES (pool + firmware + 16) || nat_le MOST_BLOCKS blocks) || nat_lt BLOCK_END (next_block + 16)) ≡ false
block_room_left pool firmware blocks next_block count small one two three four = grind (arith, nat_tests)

handle_room_left : (limit handles next count : ℕ) → count < MOST_ROOTS → limit ≡ MOST_HANDLES → handles ≡ 2 + count → next ≡ 3 + count → (nat_le limit handles || nat_le HANDLE_NUMBER_END next) ≡ false
handle_room_left limit handles next count small one two three = grind (arith, nat_tests)

-- one more block
pub count-mapped : (new : Segment) (segments : List Segment) → block_count (mapped new segments) ≡ block_count (new ∷ segments)
count-mapped new [] = refl
count-mapped new (s ∷ rest) =
    elim (nat_lt s.base new.base) as (λ b. block_count (cond b (s ∷ mapped new rest) (new ∷ s ∷ rest)) ≡ block_count (new ∷ s ∷ rest)) [
      | true ↦ omega (arith, one s (mapped new rest), count-mapped new rest, one new rest, one new (s ∷ rest), one s rest)
      | false ↦ refl
    ]
  where
    one : (first : Segment) (others : List Segment) → block_count (first ∷ others) ≡ cond (is_block first.kind) 1 0 + block_count others
    one first others = sum_by-cons (λ (s : Segment). cond (is_block s.kind) 1 0) first others

-- root bridge I/O follows the path on the new handle
pub bridge_accepted : (soft : Soft) (address : ℕ) → list_all (is_below soft.database.next) soft.database.handles ≡ true
    → is_ok (install_answer (Some soft.database.next) bridge_interface.guid (interface_added None (path_interface address) soft)) ≡ true
bridge_accepted soft address below =
    let next = soft.database.next in
    let handles = soft.database.handles in
    let entry = new_entry next (path_interface address) in
    let here : is_handle next entry ≡ true = grind (arith, nat_tests) in
    let found : find (is_handle next) (handles ++ entry ∷ []) ≡ Some entry = find-append (is_handle next) handles (entry ∷ []) ∙ rw (none_next next handles below, here) refl in
    let live : list_any (is_handle next) (handles ++ entry ∷ []) ≡ true =
    list_any-append (is_handle next) handles (entry ∷ []) ∙ or_right (list_any (is_handle next) handles) (list_any (is_handle next) (entry ∷ [])) (rw here refl) in
    rw (live, found) refl

-- a new handle is the next one
pub new_is_next : (soft : Soft) (guid : List ℕ) (handle : ℕ) → install_answer None guid soft ≡ Ok handle → handle ≡ soft.database.next
new_is_next soft guid handle is = by_room (is_full soft.database) is
  where
    by_room : (full : Bool) → ◌≡◌ {A = Result ℕ DbRefusal} (if full then Err Full else Ok soft.database.next) (Ok handle) → handle ≡ soft.database.next
    by_room true is = absurd cc
    by_room false is = cc

opened_more : (count : ℕ) (soft : Soft) (bridge : ℕ × ℕ) → count < MOST_ROOTS → IsOpened count soft → IsOpened (count + 1) (step soft bridge)
opened_more count soft bridge small opened =
    let uid = bridge.0 in
    let memory = soft.memory in
    let next = soft.database.next in
    let handles = soft.database.handles in
    let path = path_interface soft.next_block in
    let segment = root_segment soft.next_block uid in
    let room : is_block_full (length (root_path uid)) soft ≡ false =
    block_room_left (total_of memory Pool) (total_of memory Firmware) (block_count memory) soft.next_block count small opened.pool opened.firmware opened.blocks opened.next_block in
    let one : Soft = block_added (root_path uid) Firmware soft in
    let one_kept : IsKept one = allotting soft (root_path uid) Firmware opened.kept refl room in
    let free : is_full one.database ≡ false = handle_room_left soft.database.limit (length handles) next count small opened.kept.database.limit opened.few opened.next in
    let accepted : is_ok (install_answer None path.guid one) ≡ true = rw free refl in
    let two : Soft = interface_added None path one in
    let two_kept : IsKept two = installing one None path one_kept accepted in
    let also : is_ok (install_answer (Some next) bridge_interface.guid two) ≡ true = bridge_accepted one soft.next_block opened.kept.database.sound.below in
    record {
      kept = installing two (Some next) bridge_interface two_kept also;
      pool = total-other Pool segment memory refl ∙ opened.pool;
      firmware = omega (arith, total-mapped Firmware segment memory, opened.firmware);
      blocks = omega (arith, count-mapped segment memory, sum_by-cons (λ (s : Segment). cond (is_block s.kind) 1 0) segment memory, opened.blocks);
      next_block = omega (arith, opened.next_block);
      next = omega (arith, opened.next);
      few =
          omega (
            arith,
            ap length (entry-last next path bridge_interface handles opened.kept.database.sound.below),
            length-append handles (record { handle = next; interfaces = path ∷ bridge_interface ∷ [] } ∷ []),
            opened.few,
          );
    }

opened : (bridges : List (ℕ × ℕ)) (count : ℕ) (soft : Soft) → count + length bridges ≤ MOST_ROOTS → IsOpened count soft → IsOpened (count + length bridges) (fold step soft bridges)
opened [] count soft few now = let same : count ≡ count + length {A = ℕ × ℕ} [] = omega arith in subst (λ (n : ℕ). IsOpened n soft) same now
opened (bridge ∷ bridges) count soft few now =
    let more : count + 1 + length bridges ≡ count + length (bridge ∷ bridges) = omega arith in
    subst (λ (n : ℕ). IsOpened n (fold step soft (bridge ∷ bridges))) more
    (opened bridges (count + 1) (step soft bridge) (omega arith) (opened_more count soft bridge (omega arith) now))

-- the opening state
all_opened : (functions : ℕ) (bridges : List (ℕ × ℕ)) → length bridges ≤ MOST_ROOTS → IsOpened (0 + length bridges) (opening_soft functions bridges)
all_opened functions bridges few =
    opened bridges 0 (firmware_soft functions) (omega arith) (record { kept = firmware_kept functions; pool = refl; firmware = refl; blocks = refl; next_block = refl; next = refl; few = refl })

pub opening_kept : OpeningIsKept
opening_kept functions bridges few = (all_opened functions bridges few).kept

pub roots_fit : RootsFit
roots_fit functions bridges uid small =
    let soft : Soft = opening_soft functions bridges in
    let count = 0 + length bridges in
    let now : IsOpened count soft = all_opened functions bridges (omega arith) in
    let less : count < MOST_ROOTS = omega arith in
    let room : is_block_full (length (root_path uid)) soft ≡ false =
    block_room_left (total_of soft.memory Pool) (total_of soft.memory Firmware) (block_count soft.memory) soft.next_block count less now.pool now.firmware now.blocks now.next_block in
    let free : is_full soft.database ≡ false = handle_room_left soft.database.limit (length soft.database.handles) soft.database.next count less now.kept.database.limit now.few now.next in
    rw (room, free) refl
