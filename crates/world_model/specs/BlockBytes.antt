-- A mark that is older than a large block of the pool does not need the block's bytes. Taking back the changes since
-- the mark removes the block too, so the result is the same whether a free of the block was noted with its bytes or
-- without.
use Rattle.std.specs.Prelude.{◌≡◌, ℕ, ◌≤◌, Bool, true, ◌&&◌, nat_eq, nat_lt, List, [], length, map, Ok, if◌then◌else◌}
use Rattle.guest_memory.specs.declared.segment.Segment.{Segment}
use Rattle.guest_memory.specs.declared.segment.SegKind.{SegKind}
use Rattle.guest_memory.specs.declared.segment.SegKind.TheVariants.{Pool}
use Rattle.guest_memory.specs.Segment.{is_block}
use Rattle.guest_memory.specs.GuestMemory.{beginning_at, is_of}
use Rattle.world_model.specs.declared.change.Change.{Change}
use Rattle.world_model.specs.declared.change.Change.TheVariants.{Free}
use Rattle.world_model.specs.declared.stack_levels.StackLevels.{StackLevels}
use Rattle.world_model.specs.World.{Soft, with_memory}
use Rattle.world_model.specs.Blocks.{block_freed, free_answer}
use Rattle.world_model.specs.Images.{block_size}
use Rattle.world_model.specs.Kept.{IsKept}
use Rattle.world_model.specs.Undo.{later_levels, undone, without_stacks}
use Rattle.world_model.specs.UndoLaws.{CanUndo, IsNoted}

-- ---- a block without its bytes

-- Whether a segment is a large block at an address: a block of the pool with more bytes than a loaded image block has,
-- so it is not one of those.
abbrev pub is_large_block : (at : ℕ) → Segment → Bool
is_large_block at segment = is_of Pool segment && (nat_eq segment.base at && nat_lt block_size (length segment.bytes))

-- a segment without its bytes
abbrev pub emptied : Segment → Segment
emptied segment = record segment { bytes = [] }

-- the large block at an address without its bytes, and any other segment as it is
abbrev pub emptied_at : (at : ℕ) → Segment → Segment
emptied_at at segment = if is_large_block at segment then emptied segment else segment

-- the soft part without the bytes of the large block at an address
abbrev pub block_emptied : (at : ℕ) → Soft → Soft
block_emptied at soft = with_memory (map (emptied_at at) soft.memory) soft

-- ---- laws

-- what holds of every soft part holds without the bytes of a block
abbrev pub EmptyingKeeps : Type 0
EmptyingKeeps = (soft : Soft) (at : ℕ) → IsKept soft → IsKept (block_emptied at soft)

-- the free of a large block without its bytes is noted without bytes, and leaves the same
abbrev pub EmptyFreeIsNoted : Type 0
EmptyFreeIsNoted =
    (soft : Soft) (at : ℕ) (kind : SegKind) (segment : Segment) → IsKept soft → is_block kind ≡ true → free_answer at kind soft ≡ Ok tt → beginning_at soft.memory at ≡ Ok segment → is_large_block at segment ≡ true
    → IsNoted (Free (emptied segment)) (block_emptied at soft) (block_freed at soft)

-- the result is the same whether the block's bytes are removed first, or the stacks that are left out
abbrev pub EmptiedBesideStacks : Type 0
EmptiedBesideStacks = (soft : Soft) (at : ℕ) (levels : StackLevels) → without_stacks (later_levels levels) (block_emptied at soft) ≡ block_emptied at (without_stacks (later_levels levels) soft)

-- Changes that can be taken back can also be taken back without the bytes of a block, and leave the same, if the next
-- block lay at the block's address or before it.
abbrev pub UndoneWithoutBytes : Type 0
UndoneWithoutBytes =
    (changes : List Change) (soft : Soft) (at : ℕ) → IsKept soft → CanUndo changes soft → (undone changes soft).next_block ≤ at
    → CanUndo changes (block_emptied at soft) × (undone changes (block_emptied at soft) ≡ undone changes soft)
