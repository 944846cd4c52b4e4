-- Blocks of the pool and of the firmware (UEFI 2.8, 7.2: AllocatePool, FreePool).
use Rattle.std.specs.Prelude.{ℕ, ◌+◌, ◌*◌, ◌/◌, max, Bool, ◌&&◌, ◌||◌, not, nat_eq, nat_lt, List, length, map, sum, Result, Ok, Err, if◌then◌else◌}
use Rattle.std.specs.List.{list_any}
use Rattle.guest_memory.specs.declared.segment.Segment.{Segment}
use Rattle.fw_types.specs.declared.limits.TheConstants.{MOST_BLOCKS, MOST_BYTES}
use Rattle.guest_memory.specs.declared.segment.SegKind.{SegKind}
use Rattle.guest_memory.specs.declared.segment.SegKind.TheVariants.{Firmware, Pool}
use Rattle.guest_memory.specs.GuestMemory.{begins, block_count, is_pool_full, total_of, mapped, unmapped}
use Rattle.guest_memory.specs.declared.address_map.TheConstants.{BLOCK_END}
use Rattle.world_model.specs.declared.fault.WorldFault.{WorldFault}
use Rattle.world_model.specs.declared.fault.WorldFault.TheVariants.{Full, NotThere}
use Rattle.world_model.specs.declared.image.LoadedImage.{LoadedImage}
use Rattle.world_model.specs.World.{Soft}

-- how many addresses a block takes: its bytes rounded up to a multiple of 16, and at least 16
abbrev pub block_room : ℕ → ℕ
block_room size = max 16 ((size + 15) / 16 * 16)

-- whether one more block of so many bytes passes a limit
abbrev pub is_block_full : ℕ → Soft → Bool
is_block_full size soft = is_pool_full soft.memory size || nat_lt BLOCK_END (soft.next_block + block_room size)

-- whether blocks of these sizes, all made together, pass a limit
abbrev pub are_blocks_full : List ℕ → Soft → Bool
are_blocks_full sizes soft =
    nat_lt MOST_BYTES (total_of soft.memory Pool + total_of soft.memory Firmware + sum sizes)
    || nat_lt MOST_BLOCKS (block_count soft.memory + length sizes)
    || nat_lt BLOCK_END (soft.next_block + sum (map block_room sizes))

-- a block is made at the next address, unless a limit is met
abbrev pub allot_answer : ℕ → Soft → Result ℕ WorldFault
allot_answer size soft = if is_block_full size soft then Err Full else Ok soft.next_block

-- the segment of the next block, of just these bytes
abbrev pub block_segment : List ℕ → SegKind → Soft → Segment
block_segment bytes kind soft = record { base = soft.next_block; bytes = bytes; kind = kind }

abbrev pub block_added : List ℕ → SegKind → Soft → Soft
block_added bytes kind soft = record soft {
  memory = mapped (block_segment bytes kind soft) soft.memory;
  next_block = soft.next_block + block_room (length bytes);
}

-- whether an address is that of an image's loaded image block
abbrev pub is_image_block : ℕ → List LoadedImage → Bool
is_image_block at images = list_any (λ (image : LoadedImage). nat_eq image.block at) images

-- a block of the kind that begins at the address is freed, except for a loaded image block
abbrev pub free_answer : ℕ → SegKind → Soft → Result Unit WorldFault
free_answer at kind soft =
    if begins kind at soft.memory && not (is_image_block at soft.images) then Ok tt else Err NotThere

abbrev pub block_freed : ℕ → Soft → Soft
block_freed at soft = record soft { memory = unmapped soft.memory at }
