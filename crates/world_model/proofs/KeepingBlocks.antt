-- Writes, the task priority level and blocks leave what holds of every soft part.
use Rattle.std.proofs.Common.{◌≡◌, ◌≤◌, inr, ℕ, ◌+◌, Bool, true, false, not, ◌&&◌, nat_eq, nat_lt, List, length, refl, ap, ◌∙◌, arith}
use Rattle.std.specs.Prelude.{Result, Ok, Err, if◌then◌else◌}
use Rattle.std.specs.List.{list_all}
use Rattle.std.proofs.lemmas.Bool.{and_from, or_parts}
use Rattle.std.proofs.lemmas.Bool.Decides.{nat_tests}
use Rattle.guest_memory.specs.declared.segment.Segment.{Segment}
use Rattle.guest_memory.specs.declared.segment.SegKind.{SegKind}
use Rattle.guest_memory.specs.declared.segment.SegKind.TheVariants as kind
use Rattle.guest_memory.specs.Segment.{is_block}
use Rattle.guest_memory.specs.GuestMemory.{begins, is_full, is_of, is_pool_full}
use Rattle.guest_memory.proofs.SegmentLemmas.{lie_from-mapped_apart, lie_from-unmapped, lie_from-written}
use Rattle.guest_memory.proofs.PutLemmas.{lie_from-put_bytes, list_all-put_bytes}
use Rattle.guest_memory.specs.declared.address_map.TheConstants.{BLOCK_END, FIRST_BLOCK, FIRST_IMAGE, IMAGE_END}
use Rattle.world_model.specs.declared.fault.WorldFault.{WorldFault}
use Rattle.world_model.specs.declared.fault.WorldFault.TheVariants.{NotThere}
use Rattle.world_model.specs.declared.image.LoadedImage.{LoadedImage}
use Rattle.world_model.specs.World.{Soft}
use Rattle.world_model.specs.Blocks.{block_segment, is_image_block, block_room}
use Rattle.world_model.specs.Kept.{IsKept, is_placed, is_in_region}
use Rattle.world_model.specs.Keeping.{AllottingKeeps, BlockFits, FreeingKeeps, PuttingKeeps, TplKeeps, WritingKeeps}
use Rattle.world_model.proofs.Segments.{list_all-mapped, list_all-mono, list_all-not, list_all-unmapped, list_all-written}
use Rattle.world_model.proofs.MapAnswers.{block-fits, free-overlap}
use Rattle.world_model.proofs.FirmwareTables.{tables-mapped, tables-put, tables-unmapped, tables-written}
use Rattle.world_model.proofs.Bases.{bases-mapped_other, bases-put, bases-unmapped_other, bases-written, no_image}
use Rattle.world_model.proofs.ImageLists.{all_between, is_between, images_rise-later, images_rise_range}
use Rattle.world_model.proofs.ImageSegments.{block_from, blocks-mapped, blocks-put, blocks-unmapped, blocks-written, entry_points-mapped, entry_points-put, entry_points-unmapped, entry_points-written, lists-mapped_other, lists-put, lists-unmapped_other, lists-written}
use Rattle.world_model.proofs.ThunkTargets.{targets-mapped, targets-put, targets-unmapped_other, targets-written}

-- ---- writing

pub writing : WritingKeeps
writing soft at n value kept done =
    let memory = soft.memory in
    record {
      memory = record {
        apart = lie_from-written 0 memory at n value ∙ kept.memory.apart;
        placed = list_all-written (is_placed soft.next_image soft.next_block) memory at n value (λ s bytes same. ap (is_in_region soft.next_image soft.next_block s.kind s.base) same) ∙ kept.memory.placed;
        tables = tables-written memory at n value kept.memory.tables done;
        lists = lists-written memory at n value kept.memory.lists;
      };
      images = record {
        segments = bases-written kind.Image memory at n value ∙ kept.images.segments;
        entry_points = entry_points-written memory at n value soft.images kept.images.entry_points;
        blocks = blocks-written memory at n value soft.images kept.images.blocks;
        rising = kept.images.rising;
      };
      database = kept.database;
      thunks = record {
        targets = targets-written memory at n value soft.thunks kept.thunks.targets;
        numbers = kept.thunks.numbers;
      };
      records = kept.records;
      children = kept.children;
      ranges = kept.ranges;
    }

pub putting : PuttingKeeps
putting soft at bytes kept can =
    let memory = soft.memory in
    record {
      memory = record {
        apart = lie_from-put_bytes 0 memory at bytes ∙ kept.memory.apart;
        placed = list_all-put_bytes (is_placed soft.next_image soft.next_block) memory at bytes (λ s others same. ap (is_in_region soft.next_image soft.next_block s.kind s.base) same) ∙ kept.memory.placed;
        tables = tables-put memory at bytes kept.memory.tables can;
        lists = lists-put memory at bytes kept.memory.lists;
      };
      images = record {
        segments = bases-put kind.Image memory at bytes ∙ kept.images.segments;
        entry_points = entry_points-put memory at bytes soft.images kept.images.entry_points;
        blocks = blocks-put memory at bytes soft.images kept.images.blocks;
        rising = kept.images.rising;
      };
      database = kept.database;
      thunks = record {
        targets = targets-put memory at bytes soft.thunks kept.thunks.targets;
        numbers = kept.thunks.numbers;
      };
      records = kept.records;
      children = kept.children;
      ranges = kept.ranges;
    }

pub tpl_set : TplKeeps
tpl_set soft tpl kept = record {
  memory = kept.memory;
  images = kept.images;
  database = kept.database;
  thunks = kept.thunks;
  records = kept.records;
  children = kept.children;
  ranges = kept.ranges;
}

-- ---- the next addresses

-- the next image and the next block are in their ranges
pub record Ranges (soft : Soft) : Type 0 where
  pub image_from : FIRST_IMAGE ≤ soft.next_image
  pub image_to : soft.next_image ≤ IMAGE_END
  pub block_from : FIRST_BLOCK ≤ soft.next_block
  pub block_to : soft.next_block ≤ BLOCK_END

pub ranges : (soft : Soft) → IsKept soft → Ranges soft
ranges soft kept =
    let range = images_rise_range 3 FIRST_IMAGE FIRST_BLOCK soft.images soft.database.next soft.next_image soft.next_block kept.images.rising in
    record { image_from = range.bases; image_to = kept.ranges.images; block_from = range.blocks; block_to = kept.ranges.blocks }

-- a segment that lies in its region still does if the next addresses are later
pub in_region-later : (image block more_images more_blocks : ℕ) (of : SegKind) (base size : ℕ) → image ≤ more_images → block ≤ more_blocks → is_in_region image block of base size ≡ true → is_in_region more_images more_blocks of base size ≡ true
in_region-later image block more_images more_blocks kind.Image base size images blocks right = grind (arith, nat_tests)
in_region-later image block more_images more_blocks kind.Pool base size images blocks right = grind (arith, nat_tests)
in_region-later image block more_images more_blocks kind.Firmware base size images blocks right = grind (arith, nat_tests)
in_region-later image block more_images more_blocks kind.Stack base size images blocks right = right
in_region-later image block more_images more_blocks kind.Table base size images blocks right = right

pub placed-later : (image block more_images more_blocks : ℕ) (memory : List Segment) → image ≤ more_images → block ≤ more_blocks → list_all (is_placed image block) memory ≡ true → list_all (is_placed more_images more_blocks) memory ≡ true
placed-later image block more_images more_blocks memory images blocks all =
    list_all-mono (is_placed image block) (is_placed more_images more_blocks) memory (λ s right. in_region-later image block more_images more_blocks s.kind s.base (length s.bytes) images blocks right) all

-- ---- blocks

-- a block is neither an image nor a table
pub not_image : (of : SegKind) (base : ℕ) (bytes : List ℕ) → is_block of ≡ true → is_of kind.Image (record { base = base; bytes = bytes; kind = of }) ≡ false
not_image kind.Pool base bytes is = refl
not_image kind.Firmware base bytes is = refl
not_image kind.Image base bytes is = absurd cc
not_image kind.Stack base bytes is = absurd cc
not_image kind.Table base bytes is = absurd cc

pub not_table : (of : SegKind) (base : ℕ) (bytes : List ℕ) → is_block of ≡ true → is_of kind.Table (record { base = base; bytes = bytes; kind = of }) ≡ false
not_table kind.Pool base bytes is = refl
not_table kind.Firmware base bytes is = refl
not_table kind.Image base bytes is = absurd cc
not_table kind.Stack base bytes is = absurd cc
not_table kind.Table base bytes is = absurd cc

-- it lies in its region at the next address
pub next_in_region : (image block : ℕ) (of : SegKind) (size : ℕ) → is_block of ≡ true → FIRST_BLOCK ≤ block → is_in_region image (block + block_room size) of block size ≡ true
next_in_region image block kind.Pool size is from = grind (arith, nat_tests)
next_in_region image block kind.Firmware size is from = grind (arith, nat_tests)
next_in_region image block kind.Image size is from = absurd cc
next_in_region image block kind.Stack size is from = absurd cc
next_in_region image block kind.Table size is from = absurd cc

-- the limit of a block's kind is that of the pool
full_of : (memory : List Segment) (of : SegKind) (size : ℕ) → is_block of ≡ true → is_pool_full memory size ≡ false → is_full memory of size ≡ false
full_of memory kind.Pool size is room = room
full_of memory kind.Firmware size is room = room
full_of memory kind.Image size is room = absurd cc
full_of memory kind.Stack size is room = absurd cc
full_of memory kind.Table size is room = absurd cc

pub fitting : BlockFits
fitting soft bytes of kept is room =
    let range = ranges soft kept in
    let parts = or_parts (is_pool_full soft.memory (length bytes)) (nat_lt BLOCK_END (soft.next_block + block_room (length bytes))) room in
    block-fits soft.next_image soft.next_block soft.memory bytes of kept.memory.placed range.image_to range.block_from (grind (arith, nat_tests, parts.1)) (full_of soft.memory of (length bytes) is parts.0)

pub allotting : AllottingKeeps
allotting soft bytes of kept is room =
    let memory = soft.memory in
    let new = block_segment bytes of soft in
    let range = ranges soft kept in
    let from : FIRST_BLOCK ≤ soft.next_block = range.block_from in
    let parts = or_parts (is_pool_full memory (length bytes)) (nat_lt BLOCK_END (soft.next_block + block_room (length bytes))) room in
    let end : soft.next_block + block_room (length bytes) ≤ BLOCK_END = grind (arith, nat_tests, parts.1) in
    let next = soft.next_block + block_room (length bytes) in
    record {
      memory = record {
        apart = lie_from-mapped_apart new memory kept.memory.apart (free-overlap memory new (fitting soft bytes of kept is room));
        placed =
            list_all-mapped (is_placed soft.next_image next) new memory
            ∙ and_from (is_placed soft.next_image next new) (list_all (is_placed soft.next_image next) memory) (next_in_region soft.next_image soft.next_block of (length bytes) is from)
            (placed-later soft.next_image soft.next_block soft.next_image next memory (omega arith) (omega arith) kept.memory.placed);
        tables = tables-mapped memory new kept.memory.tables (omega arith);
        lists = lists-mapped_other new memory (not_table of soft.next_block bytes is) kept.memory.lists;
      };
      images = record {
        segments = bases-mapped_other kind.Image new memory (not_image of soft.next_block bytes is) ∙ kept.images.segments;
        entry_points = entry_points-mapped new memory soft.images kept.images.entry_points;
        blocks = blocks-mapped new memory soft.images kept.images.blocks;
        rising =
            images_rise-later 3 FIRST_IMAGE FIRST_BLOCK soft.images soft.database.next soft.next_image soft.next_block soft.database.next soft.next_image next kept.images.rising
            (record { handles = omega arith; bases = omega arith; blocks = omega arith });
      };
      database = kept.database;
      thunks = record {
        targets = targets-mapped new memory soft.thunks kept.thunks.targets;
        numbers = kept.thunks.numbers;
      };
      records = kept.records;
      children = kept.children;
      ranges = record {
        images = kept.ranges.images;
        blocks = end;
        thunks = kept.ranges.thunks;
      };
    }

-- what is freed is a block of the kind, and no loaded image block
pub freed_is : (there other : Bool) → ◌≡◌ {A = Result Unit WorldFault} (if there && not other then Ok tt else Err NotThere) (Ok tt) → (there ≡ true) × (other ≡ false)
freed_is true true done = absurd cc
freed_is true false done = (refl, refl)
freed_is false other done = absurd cc

pub freeing : FreeingKeeps
freeing soft at of kept is done =
    let memory = soft.memory in
    let parts = freed_is (begins of at memory) (is_image_block at soft.images) done in
    let from : FIRST_BLOCK ≤ at = block_from soft.next_image soft.next_block of at memory is kept.memory.placed parts.0 in
    let low : soft.next_image ≤ IMAGE_END = kept.ranges.images in
    let between = all_between 3 FIRST_IMAGE FIRST_BLOCK soft.images soft.database.next soft.next_image soft.next_block kept.images.rising in
    let other_bases : list_all (λ (image : LoadedImage). not (nat_eq image.base at)) soft.images ≡ true =
    list_all-mono (is_between 3 FIRST_IMAGE FIRST_BLOCK soft.database.next soft.next_image soft.next_block) (λ (image : LoadedImage). not (nat_eq image.base at)) soft.images (λ image within. grind (arith, nat_tests)) between in
    record {
      memory = record {
        apart = lie_from-unmapped 0 memory at kept.memory.apart;
        placed = list_all-unmapped (is_placed soft.next_image soft.next_block) at memory kept.memory.placed;
        tables = tables-unmapped memory at kept.memory.tables (omega arith);
        lists = lists-unmapped_other at memory (λ level to. grind (arith, nat_tests)) kept.memory.lists;
      };
      images = record {
        segments = bases-unmapped_other kind.Image at memory (no_image soft.next_image soft.next_block at memory kept.memory.placed (inr (omega arith))) ∙ kept.images.segments;
        entry_points = entry_points-unmapped at memory soft.images other_bases kept.images.entry_points;
        blocks = blocks-unmapped at memory soft.images (list_all-not (λ (image : LoadedImage). nat_eq image.block at) soft.images parts.1) kept.images.blocks;
        rising = kept.images.rising;
      };
      database = kept.database;
      thunks = record {
        targets =
            targets-unmapped_other at memory soft.thunks (no_image soft.next_image soft.next_block at memory kept.memory.placed (inr (omega arith)))
            kept.thunks.targets;
        numbers = kept.thunks.numbers;
      };
      records = kept.records;
      children = kept.children;
      ranges = kept.ranges;
    }
