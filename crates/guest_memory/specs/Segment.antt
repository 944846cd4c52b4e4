-- One segment: bytes in a row at an address. Segments are this project's own. UEFI 2.8, chapter 22 (EFI
-- Byte Code Virtual Machine), has one flat memory; as there, a number has its lowest byte first.
use Rattle.std.specs.Prelude.{ℕ, ◌+◌, ◌-◌, max, Bool, true, false, ◌&&◌, nat_le, nat_lt, nat_eq, List, [], ◌∷◌, ◌++◌, take, drop, length}
use Rattle.std.specs.List.{list_any}
use Rattle.byteorder.specs.Endian.{little_number, little_bytes}
use Rattle.guest_memory.specs.declared.segment.SegKind.{SegKind}
use Rattle.guest_memory.specs.declared.segment.SegKind.TheVariants.{Image, Pool, Firmware, Stack, Table}
use Rattle.guest_memory.specs.declared.segment.Segment.{Segment}

-- whether a driver may read or write so many bytes at once
abbrev pub is_access : ℕ → Bool
is_access n = list_any (nat_eq n) (1 ∷ 2 ∷ 4 ∷ 8 ∷ [])

-- whether a driver may write a segment of the kind
abbrev pub is_writable : SegKind → Bool
is_writable Image = true
is_writable Pool = true
is_writable Firmware = false
is_writable Stack = true
is_writable Table = false

-- whether a driver's code may lie in a segment of the kind
abbrev pub is_image : SegKind → Bool
is_image Image = true
is_image Pool = false
is_image Firmware = false
is_image Stack = false
is_image Table = false

-- whether a segment of the kind is a block, of the pool or of the firmware
abbrev pub is_block : SegKind → Bool
is_block Image = false
is_block Pool = true
is_block Firmware = true
is_block Stack = false
is_block Table = false

-- whether a segment has all n bytes from an address on
abbrev pub has_bytes : Segment → ℕ → ℕ → Bool
has_bytes segment at n = nat_le segment.base at && nat_le (at + n) (segment.base + length segment.bytes)

-- the number in its n bytes from an address on
abbrev pub number_at : Segment → ℕ → ℕ → ℕ
number_at segment at n = little_number n (drop (at - segment.base) segment.bytes)

-- bytes with others in place of those from i on
abbrev pub replaced : List ℕ → ℕ → List ℕ → List ℕ
replaced bytes i others = take i bytes ++ others ++ drop (i + length others) bytes

-- its n bytes from an address on
abbrev pub bytes_at : Segment → ℕ → ℕ → List ℕ
bytes_at segment at n = take n (drop (at - segment.base) segment.bytes)

-- the segment with these bytes from an address on, and the others as before
abbrev pub with_bytes : Segment → ℕ → List ℕ → Segment
with_bytes segment at bytes = record segment { bytes = replaced segment.bytes (at - segment.base) bytes }

-- the segment with the lowest n bytes of a number from an address on
abbrev pub with_number : Segment → ℕ → ℕ → ℕ → Segment
with_number segment at n value = with_bytes segment at (little_bytes n value)

-- its bytes from an address on, at most 18, which is the length of the longest instruction
abbrev pub code_at : Segment → ℕ → List ℕ
code_at segment at = take 18 (drop (at - segment.base) segment.bytes)

-- How many addresses it takes: as many as it has bytes. A segment of no bytes takes one.
abbrev pub extent : Segment → ℕ
extent segment = max 1 (length segment.bytes)

-- the first address after those that it takes
abbrev pub end_of : Segment → ℕ
end_of segment = segment.base + extent segment

-- whether two segments take an address in common
abbrev pub meets : Segment → Segment → Bool
meets a b = nat_lt a.base (end_of b) && nat_lt b.base (end_of a)
