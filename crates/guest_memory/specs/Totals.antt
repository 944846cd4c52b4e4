-- What the code keeps about segments, next to them: how many bytes those of each kind have, and how many blocks there
-- are.
use Rattle.std.specs.Prelude.{◌≡◌, ℕ, ◌+◌, ◌-◌, Bool, true, false, ◌||◌, nat_le, nat_lt, List}
use Rattle.fw_types.specs.declared.limits.TheConstants.{MOST_BYTES, MOST_BLOCKS}
use Rattle.guest_memory.specs.GuestMemory.{lie_from, total_of, block_count}
use Rattle.guest_memory.specs.declared.segment.Segment.{Segment}
use Rattle.guest_memory.specs.declared.segment.SegKind.{SegKind}
use Rattle.guest_memory.specs.declared.segment.SegKind.TheVariants.{Image, Pool, Firmware, Stack, Table}
use Rattle.guest_memory.specs.declared.totals.Totals.{Totals}

-- how many bytes the segments of each kind have, and how many blocks there are
abbrev pub totals_of : List Segment → Totals
totals_of segments = record {
  image = total_of segments Image;
  pool = total_of segments Pool;
  firmware = total_of segments Firmware;
  stack = total_of segments Stack;
  table = total_of segments Table;
  blocks = block_count segments;
}

-- the total of a kind
abbrev pub total_in : Totals → SegKind → ℕ
total_in totals Image = totals.image
total_in totals Pool = totals.pool
total_in totals Firmware = totals.firmware
total_in totals Stack = totals.stack
total_in totals Table = totals.table

-- the totals with one more segment of a kind, with so many bytes
abbrev pub with_segment : Totals → SegKind → ℕ → Totals
with_segment totals Image size = record totals { image = totals.image + size }
with_segment totals Pool size = record totals { pool = totals.pool + size; blocks = totals.blocks + 1 }
with_segment totals Firmware size = record totals { firmware = totals.firmware + size; blocks = totals.blocks + 1 }
with_segment totals Stack size = record totals { stack = totals.stack + size }
with_segment totals Table size = record totals { table = totals.table + size }

-- the totals without a segment of a kind, with so many bytes
abbrev pub without_segment : Totals → SegKind → ℕ → Totals
without_segment totals Image size = record totals { image = totals.image - size }
without_segment totals Pool size = record totals { pool = totals.pool - size; blocks = totals.blocks - 1 }
without_segment totals Firmware size = record totals { firmware = totals.firmware - size; blocks = totals.blocks - 1 }
without_segment totals Stack size = record totals { stack = totals.stack - size }
without_segment totals Table size = record totals { table = totals.table - size }

-- whether one more segment of a kind, with so many bytes, passes a limit
abbrev pub is_pool_full_by : Totals → ℕ → Bool
is_pool_full_by totals size = nat_lt MOST_BYTES (totals.pool + totals.firmware + size) || nat_le MOST_BLOCKS totals.blocks

abbrev pub is_full_by : Totals → SegKind → ℕ → Bool
is_full_by totals Image size = nat_lt MOST_BYTES (totals.image + size)
is_full_by totals Pool size = is_pool_full_by totals size
is_full_by totals Firmware size = is_pool_full_by totals size
is_full_by totals Stack size = false
is_full_by totals Table size = false

-- What holds of every memory: its segments lie in order and apart, and its totals are theirs.
pub record IsInOrder (segments : List Segment) (totals : Totals) : Type 0 where
  pub apart : lie_from 0 segments ≡ true
  pub sums : totals ≡ totals_of segments
