-- Adding and dropping images leave what holds of every soft part.
use Rattle.std.proofs.Common.{◌≡◌, ◌≤◌, ◌<◌, inr, ℕ, ◌+◌, Bool, true, false, not, ◌&&◌, ◌||◌, nat_eq, nat_lt, bytes_eq, List, [], ◌∷◌, ◌++◌, length, filter, find, Option, Some, None, refl, sym, ap, ◌∙◌, subst, arith}
use Rattle.std.specs.Prelude.{Ok}
use Rattle.std.specs.List.{list_all, list_any}
use Rattle.std.proofs.lemmas.Bool.{and_from, and_parts, and_right, not-true, or_left, or_parts, or_right}
use Rattle.std.proofs.lemmas.Bool.Decides.{nat_tests}
use Rattle.std.proofs.lemmas.List.Folds.{list_all-append}
use Rattle.fw_types.specs.Guid.{known_guid}
use Rattle.fw_types.specs.declared.guid.Known.TheVariants.{LoadedImage as LoadedImageProtocol, DriverBinding}
use Rattle.guest_memory.specs.declared.segment.Segment.{Segment}
use Rattle.guest_memory.specs.declared.segment.SegKind.TheVariants as kind
use Rattle.guest_memory.specs.Segment.{has_bytes}
use Rattle.fw_types.specs.declared.limits.TheConstants.{MOST_BYTES}
use Rattle.guest_memory.specs.GuestMemory.{beginning_at, is_full, is_of, map_answer, mapped, unmapped}
use Rattle.guest_memory.proofs.SegmentLemmas.{lie_from-mapped_apart, lie_from-unmapped}
use Rattle.handle_db.specs.declared.handle_entry.HandleEntry.{HandleEntry}
use Rattle.handle_db.specs.declared.handle_entry.Interface.{Interface}
use Rattle.handle_db.specs.Database.{is_below, is_handle}
use Rattle.handle_db.specs.Installing.{installed, is_full as is_database_full}
use Rattle.handle_db.specs.Removing.{removed}
use Rattle.handle_db.proofs.Keeping.{installing as installing_sound, removing as removing_sound}
use Rattle.guest_memory.specs.declared.address_map.TheConstants.{BLOCK_END, BUS_BINDING, FIRMWARE_IMAGE, FIRST_BLOCK, FIRST_IMAGE, IMAGE_END}
use Rattle.world_model.specs.declared.image.LoadedImage.{LoadedImage}
use Rattle.world_model.specs.World.{Soft}
use Rattle.world_model.specs.Blocks.{block_added, is_block_full, block_room}
use Rattle.world_model.specs.Images.{BlockContents, block_bytes, block_size, image_of, image_segment, is_image_full, next_loaded, next_step, block_contents, image_block_segment, without_image, without_loaded}
use Rattle.world_model.specs.Interfaces.{bus_driver, firmware, interface}
use Rattle.world_model.specs.Thunks.{without_thunks}
use Rattle.world_model.specs.Kept.{IsKept, bases_of, has_block, has_entry, is_installed, is_placed}
use Rattle.world_model.specs.Keeping.{AddingKeeps, DroppingKeeps, ImageFits, ImageBlockFits}
use Rattle.world_model.proofs.Segments.{list_all-both, list_all-filter, list_all-filter_both, list_all-mapped, list_all-mono, list_all-unmapped, list_any-mapped}
use Rattle.world_model.proofs.Totals.{total-other}
use Rattle.world_model.proofs.MapAnswers.{free-overlap, image-fits}
use Rattle.world_model.proofs.FirmwareTables.{tables-mapped, tables-unmapped}
use Rattle.world_model.proofs.Bases.{bases-mapped_image, bases-unmapped, bases-unmapped_other, no_image}
use Rattle.world_model.proofs.Databases.{has-installed, has-new, has-removed}
use Rattle.world_model.proofs.RecordParties.{records-installed, records-removed}
use Rattle.world_model.proofs.ImageLists.{all_between, all_same_or_other, bases-without, found_passes, is_between, is_same_or_other, images_rise-filter, images_rise-push}
use Rattle.world_model.proofs.ImageSegments.{blocks-mapped, blocks-unmapped, entry_points-mapped, entry_points-unmapped, lists-mapped_other, lists-unmapped_other}
use Rattle.world_model.proofs.Structures.{length-block}
use Rattle.world_model.proofs.KeepingBlocks.{allotting, fitting as fitting_block, placed-later, ranges}
use Rattle.world_model.proofs.ChildLists.{children-installed, children-other}
use Rattle.world_model.proofs.KeepingInterfaces.{installed-more}
use Rattle.world_model.proofs.ThunkTargets.{targets-mapped, targets-unmapped_other, targets-without, numbers-without}

-- ---- what room there is

pub record Room (size : ℕ) (soft : Soft) : Type 0 where
  pub database : is_database_full soft.database ≡ false
  pub images : is_full soft.memory kind.Image size ≡ false
  pub range : soft.next_image + size ≤ IMAGE_END
  pub block : is_block_full block_size soft ≡ false

pub room_of : (size : ℕ) (soft : Soft) → is_image_full size soft ≡ false → Room size soft
room_of size soft room =
    let three = or_parts (is_database_full soft.database || is_full soft.memory kind.Image size || nat_lt IMAGE_END (soft.next_image + size)) (is_block_full block_size soft) room in
    let two = or_parts (is_database_full soft.database || is_full soft.memory kind.Image size) (nat_lt IMAGE_END (soft.next_image + size)) three.0 in
    let one = or_parts (is_database_full soft.database) (is_full soft.memory kind.Image size) two.0 in
    record { database = one.0; images = one.1; range = grind (arith, nat_tests, two.1); block = three.1 }

-- ---- adding

-- with the loaded image block
abbrev with_image_block : BlockContents → Soft → Soft
with_image_block contents soft = block_added (block_bytes contents) kind.Pool soft

image_block_kept : (contents : BlockContents) (soft : Soft) → IsKept soft → is_block_full block_size soft ≡ false → IsKept (with_image_block contents soft)
image_block_kept contents soft kept room =
    allotting soft (block_bytes contents) kind.Pool kept refl (ap (λ size. is_block_full size soft) (length-block contents) ∙ room)

pub fitting_image_block : ImageBlockFits
fitting_image_block soft size contents kept full =
    fitting_block soft (block_bytes contents) kind.Pool kept refl (ap (λ size. is_block_full size soft) (length-block contents) ∙ (room_of size soft full).block)

pub fitting : ImageFits
fitting soft bytes contents kept some full =
    let room = room_of (length bytes) soft full in
    let after = image_block_kept contents soft kept room.block in
    let range = ranges soft kept in
    let same : is_full (mapped (image_block_segment contents soft) soft.memory) kind.Image (length bytes) ≡ is_full soft.memory kind.Image (length bytes) =
    ap (λ total. nat_lt MOST_BYTES (total + length bytes)) (total-other kind.Image (image_block_segment contents soft) soft.memory refl) in
    image-fits soft.next_image (with_image_block contents soft).next_block (mapped (image_block_segment contents soft) soft.memory) bytes after.memory.placed range.image_from some room.range (same ∙ room.images)

-- the next handle is not live
pub none_next : (next : ℕ) (entries : List HandleEntry) → list_all (is_below next) entries ≡ true → find (is_handle next) entries ≡ None
none_next next [] below = refl
none_next next (entry ∷ entries) below =
    let parts = and_parts (is_below next entry) (list_all (is_below next) entries) below in
    let other : is_handle next entry ≡ false = grind (arith, nat_tests, parts.0) in
    rw other (none_next next entries parts.1)

bases-append : (images : List LoadedImage) (new : LoadedImage) → bases_of (images ++ new ∷ []) ≡ bases_of images ++ new.base ∷ []
bases-append [] new = refl
bases-append (image ∷ images) new = ap (λ bases. image.base ∷ bases) (bases-append images new)

all-push : (P : LoadedImage → Bool) (images : List LoadedImage) (new : LoadedImage) → list_all P images ≡ true → P new ≡ true → list_all P (images ++ new ∷ []) ≡ true
all-push P images new all one = list_all-append P images (new ∷ []) ∙ and_from (list_all P images) (list_all P (new ∷ [])) all (and_from (P new) true one refl)

pub adding : AddingKeeps
adding soft bytes entry subsystem device kept inside full =
    let contents = block_contents bytes subsystem device soft in
    let room = room_of (length bytes) soft full in
    let after = image_block_kept contents soft kept room.block in
    let memory = mapped (image_block_segment contents soft) soft.memory in
    let image = image_segment bytes soft in
    let new = next_loaded entry soft in
    let db = soft.database in
    let one : Interface = interface (known_guid LoadedImageProtocol) soft.next_block firmware in
    let some : 0 < length bytes = omega arith in
    let fits : map_answer memory image ≡ Ok tt = fitting soft bytes contents kept some full in
    let range = ranges soft kept in
    let from : FIRST_IMAGE ≤ soft.next_image = range.image_from in
    let to : soft.next_image + length bytes ≤ IMAGE_END = room.range in
    let next = next_step (soft.next_image + length bytes) in
    let block = soft.next_block + block_room block_size in
    let same : (with_image_block contents soft).next_block ≡ block = ap (λ size. soft.next_block + block_room size) (length-block contents) in
    let behind : soft.next_image + length bytes ≤ next = omega arith in
    let placed : list_all (is_placed soft.next_image block) memory ≡ true = subst (λ b. list_all (is_placed soft.next_image b) memory ≡ true) same after.memory.placed in
    let right : is_placed next block image ≡ true = grind (arith, nat_tests) in
    let entry_test = λ (s : Segment). nat_eq s.base new.base && is_of kind.Image s && has_bytes s new.entry 1 in
    let block_test = λ (s : Segment). nat_eq s.base new.block && is_of kind.Pool s && nat_eq (length s.bytes) block_size in
    let entry_here : entry_test image ≡ true = grind (arith, nat_tests) in
    let size = length-block contents in
    let block_here : block_test (image_block_segment contents soft) ≡ true = grind (arith, nat_tests) in
    record {
      memory = record {
        apart = lie_from-mapped_apart image memory after.memory.apart (free-overlap memory image fits);
        placed =
            list_all-mapped (is_placed next block) image memory
            ∙ and_from (is_placed next block image) (list_all (is_placed next block) memory) right (placed-later soft.next_image block next block memory (omega arith) (omega arith) placed);
        tables = tables-mapped memory image after.memory.tables (omega arith);
        lists = lists-mapped_other image memory refl after.memory.lists;
      };
      images = record {
        segments =
            bases-mapped_image soft.next_image block 0 image memory placed after.memory.apart refl refl
            ∙ ap (λ others. others ++ soft.next_image ∷ []) after.images.segments ∙ sym (bases-append soft.images new);
        entry_points =
            all-push (has_entry (mapped image memory)) soft.images new (entry_points-mapped image memory soft.images after.images.entry_points)
            (list_any-mapped entry_test image memory ∙ or_left (entry_test image) (list_any entry_test memory) entry_here);
        blocks =
            all-push (has_block (mapped image memory)) soft.images new (blocks-mapped image memory soft.images after.images.blocks)
            (list_any-mapped block_test image memory
            ∙ or_right (block_test image) (list_any block_test memory)
            (list_any-mapped block_test (image_block_segment contents soft) soft.memory ∙ or_left (block_test (image_block_segment contents soft)) (list_any block_test soft.memory) block_here));
        rising =
            images_rise-push 3 FIRST_IMAGE FIRST_BLOCK soft.images new (db.next + 1) next block kept.images.rising
            (record { handles = omega arith; bases = omega arith; blocks = omega arith });
      };
      database = record {
        sound = installing_sound None one db kept.database.sound (rw room.database refl);
        limit = kept.database.limit;
        firmware_there = has-installed db None one firmware (known_guid LoadedImageProtocol) FIRMWARE_IMAGE firmware kept.database.firmware_there;
        bus_driver_there = has-installed db None one bus_driver (known_guid DriverBinding) BUS_BINDING firmware kept.database.bus_driver_there;
        installed =
            all-push (is_installed (installed None one db)) soft.images new (installed-more db None one soft.images kept.database.installed)
            (has-new db one (none_next db.next db.handles kept.database.sound.below));
      };
      thunks = record {
        targets = targets-mapped image memory soft.thunks after.thunks.targets;
        numbers = kept.thunks.numbers;
      };
      records = records-installed None one db soft.records kept.records;
      children = children-installed None one soft kept.children;
      ranges = record {
        images = omega arith;
        blocks = subst (λ b. b ≤ BLOCK_END) same after.ranges.blocks;
        thunks = kept.ranges.thunks;
      };
    }

-- ---- dropping

dropping_one : (soft : Soft) (number : ℕ) (one : LoadedImage) → IsKept soft → image_of number soft.images ≡ Some one → IsKept (without_loaded (Some one) soft)
dropping_one soft number one kept found =
    let memory = soft.memory in
    let db = soft.database in
    let images = without_image one.handle soft.images in
    let without = unmapped memory one.base in
    let guid = known_guid LoadedImageProtocol in
    let between_all = all_between 3 FIRST_IMAGE FIRST_BLOCK soft.images db.next soft.next_image soft.next_block kept.images.rising in
    let here : is_between 3 FIRST_IMAGE FIRST_BLOCK db.next soft.next_image soft.next_block one ≡ true =
    found_passes (λ (i : LoadedImage). nat_eq i.handle number) (is_between 3 FIRST_IMAGE FIRST_BLOCK db.next soft.next_image soft.next_block) soft.images one found between_all in
    let high : 3 ≤ one.handle = grind (arith, nat_tests) in
    let base_from : FIRST_IMAGE ≤ one.base = grind (arith, nat_tests) in
    let base_to : one.base < soft.next_image = grind (arith, nat_tests) in
    let block_from : FIRST_BLOCK ≤ one.block = grind (arith, nat_tests) in
    let low : soft.next_image ≤ IMAGE_END = kept.ranges.images in
    let same_or_other = all_same_or_other number one 3 FIRST_IMAGE FIRST_BLOCK soft.images db.next soft.next_image soft.next_block kept.images.rising found in
    let between = list_all-filter (is_between 3 FIRST_IMAGE FIRST_BLOCK db.next soft.next_image soft.next_block) (λ (i : LoadedImage). not (nat_eq i.handle one.handle)) soft.images between_all in
    let bases_base : list_all (λ (i : LoadedImage). not (nat_eq i.base one.base)) images ≡ true =
    list_all-filter_both (is_same_or_other one) (λ (i : LoadedImage). not (nat_eq i.handle one.handle)) (λ (i : LoadedImage). not (nat_eq i.base one.base)) soft.images (λ i same other. grind (arith, nat_tests)) same_or_other in
    let blocks_block : list_all (λ (i : LoadedImage). not (nat_eq i.block one.block)) images ≡ true =
    list_all-filter_both (is_same_or_other one) (λ (i : LoadedImage). not (nat_eq i.handle one.handle)) (λ (i : LoadedImage). not (nat_eq i.block one.block)) soft.images (λ i same other. grind (arith, nat_tests)) same_or_other in
    let handles : list_all (λ (i : LoadedImage). not (nat_eq i.handle one.handle)) images ≡ true =
    list_all-filter_both (is_same_or_other one) (λ (i : LoadedImage). not (nat_eq i.handle one.handle)) (λ (i : LoadedImage). not (nat_eq i.handle one.handle)) soft.images (λ i same other. other) same_or_other in
    let bases_block : list_all (λ (i : LoadedImage). not (nat_eq i.base one.block)) images ≡ true =
    list_all-mono (is_between 3 FIRST_IMAGE FIRST_BLOCK db.next soft.next_image soft.next_block) (λ (i : LoadedImage). not (nat_eq i.base one.block)) images (λ i within. grind (arith, nat_tests)) between in
    let blocks_base : list_all (λ (i : LoadedImage). not (nat_eq i.block one.base)) images ≡ true =
    list_all-mono (is_between 3 FIRST_IMAGE FIRST_BLOCK db.next soft.next_image soft.next_block) (λ (i : LoadedImage). not (nat_eq i.block one.base)) images (λ i within. grind (arith, nat_tests)) between in
    let placed = list_all-unmapped (is_placed soft.next_image soft.next_block) one.base memory kept.memory.placed in
    let opens = records-removed one.handle guid db soft.records kept.database.sound kept.records in
    record {
      memory = record {
        apart = lie_from-unmapped 0 without one.block (lie_from-unmapped 0 memory one.base kept.memory.apart);
        placed = list_all-unmapped (is_placed soft.next_image soft.next_block) one.block without placed;
        tables = tables-unmapped without one.block (tables-unmapped memory one.base kept.memory.tables (omega arith)) (omega arith);
        lists = lists-unmapped_other one.block without (λ level to. grind (arith, nat_tests)) (lists-unmapped_other one.base memory (λ level to. grind (arith, nat_tests)) kept.memory.lists);
      };
      images = record {
        segments =
            bases-unmapped_other kind.Image one.block without (no_image soft.next_image soft.next_block one.block without placed (inr (omega arith)))
            ∙ bases-unmapped kind.Image one.base 0 memory kept.memory.apart
            ∙ ap (filter (λ (b : ℕ). not (nat_eq b one.base))) kept.images.segments
            ∙ sym (bases-without one soft.images same_or_other);
        entry_points =
            entry_points-unmapped one.block without images bases_block
            (entry_points-unmapped one.base memory images bases_base (list_all-filter (has_entry memory) (λ (i : LoadedImage). not (nat_eq i.handle one.handle)) soft.images kept.images.entry_points));
        blocks =
            blocks-unmapped one.block without images blocks_block
            (blocks-unmapped one.base memory images blocks_base (list_all-filter (has_block memory) (λ (i : LoadedImage). not (nat_eq i.handle one.handle)) soft.images kept.images.blocks));
        rising = images_rise-filter (λ (i : LoadedImage). not (nat_eq i.handle one.handle)) 3 FIRST_IMAGE FIRST_BLOCK soft.images db.next soft.next_image soft.next_block kept.images.rising;
      };
      database = record {
        sound = removing_sound one.handle guid db kept.database.sound;
        limit = kept.database.limit;
        firmware_there = has-removed db one.handle guid firmware guid FIRMWARE_IMAGE firmware (and_right (bytes_eq guid guid) (nat_eq firmware one.handle) (grind (arith, nat_tests))) kept.database.firmware_there;
        bus_driver_there =
            has-removed db one.handle guid bus_driver (known_guid DriverBinding) BUS_BINDING firmware
            (and_right (bytes_eq (known_guid DriverBinding) guid) (nat_eq bus_driver one.handle) (grind (arith, nat_tests))) kept.database.bus_driver_there;
        installed =
            list_all-both (λ (i : LoadedImage). not (nat_eq i.handle one.handle)) (is_installed db) (is_installed (removed one.handle guid db)) images
            (λ i other has. has-removed db one.handle guid i.handle guid i.block firmware (and_right (bytes_eq guid guid) (nat_eq i.handle one.handle) (not-true (nat_eq i.handle one.handle) other)) has)
            handles (list_all-filter (is_installed db) (λ (i : LoadedImage). not (nat_eq i.handle one.handle)) soft.images kept.database.installed);
      };
      thunks = record {
        targets =
            targets-unmapped_other one.block without (without_thunks (beginning_at memory one.base) soft.thunks)
            (no_image soft.next_image soft.next_block one.block without placed (inr (omega arith)))
            (targets-without one.base memory soft.thunks kept.thunks.targets);
        numbers = numbers-without (beginning_at memory one.base) 0 soft.thunks soft.next_thunk kept.thunks.numbers;
      };
      records = opens;
      children = children-other one.handle guid soft refl kept.children;
      ranges = kept.ranges;
    }

pub dropping : DroppingKeeps
dropping soft handle kept = by_image (image_of handle soft.images) refl
  where
    by_image : (found : Option LoadedImage) → image_of handle soft.images ≡ found → IsKept (without_loaded found soft)
    by_image None is = kept
    by_image (Some one) is = dropping_one soft handle one kept is
