-- The memory that a driver sees: a list of segments in order of address, no two of which meet.
use Rattle.std.specs.Prelude.{◌≡◌, ℕ, ◌+◌, ◌^◌, sum_by, count_by, find, Bool, ◌&&◌, ◌||◌, false, nat_le, nat_lt, nat_eq, List, [], ◌∷◌, length, Option, Some, None, Result, Ok, Err, if◌then◌else◌}
use Rattle.std.specs.List.{list_any}
use Rattle.std.specs.Option.{is_some}
use Rattle.fw_types.specs.declared.limits.TheConstants.{MOST_BYTES, MOST_BLOCKS}
use Rattle.guest_memory.specs.Segment.{is_writable, is_image, is_block, has_bytes, number_at, bytes_at, with_bytes, with_number, code_at, end_of, meets}
use Rattle.guest_memory.specs.declared.segment.Segment.{Segment}
use Rattle.guest_memory.specs.declared.segment.SegKind.{SegKind}
use Rattle.guest_memory.specs.declared.segment.SegKind.TheVariants.{Image, Pool, Firmware, Stack, Table}
use Rattle.guest_memory.specs.declared.guest.MemRefusal.{MemRefusal}
use Rattle.guest_memory.specs.declared.guest.MemRefusal.TheVariants.{NoSegment, ReadOnly, Overlap, Full, OutOfMemory}

-- ---- reading and writing

-- the segment that has all n bytes from an address on
abbrev pub holder : List Segment → ℕ → ℕ → Option Segment
holder segments at n = find (λ segment. has_bytes segment at n) segments

-- the number in n bytes, if one segment has them all
abbrev pub number_in : Option Segment → ℕ → ℕ → Option ℕ
number_in None at n = None
number_in (Some segment) at n = Some (number_at segment at n)

abbrev pub number_of : List Segment → ℕ → ℕ → Option ℕ
number_of segments at n = number_in (holder segments at n) at n

-- what a write answers, by the segment that has the bytes
abbrev pub answer_in : Option Segment → Result Unit MemRefusal
answer_in None = Err NoSegment
answer_in (Some segment) = if is_writable segment.kind then Ok tt else Err ReadOnly

abbrev pub write_answer : List Segment → ℕ → ℕ → Result Unit MemRefusal
write_answer segments at n = answer_in (holder segments at n)

-- the segments with the lowest n bytes of a number in the one that has the bytes, and nothing else changed
abbrev pub written : List Segment → ℕ → ℕ → ℕ → List Segment
written [] at n value = []
written (segment ∷ segments) at n value =
    if has_bytes segment at n then with_number segment at n value ∷ segments
    else segment ∷ written segments at n value

-- the image that has an address
abbrev pub image_with : List Segment → ℕ → Option Segment
image_with segments at = find (λ segment. is_image segment.kind && has_bytes segment at 1) segments

-- its code from there on, at most 18 bytes
abbrev pub code_in : Option Segment → ℕ → List ℕ
code_in None at = []
code_in (Some segment) at = code_at segment at

abbrev pub image_code : List Segment → ℕ → List ℕ
image_code segments at = code_in (image_with segments at) at

-- A call gives this answer, unless memory runs out. A write gives neither Overlap nor Full.
abbrev pub Gives : Result Unit MemRefusal → Result Unit MemRefusal → Type 0
Gives (Err OutOfMemory) answer = Unit {0}
Gives (Ok done) answer = answer ≡ Ok done
Gives (Err NoSegment) answer = answer ≡ Err NoSegment
Gives (Err ReadOnly) answer = answer ≡ Err ReadOnly
Gives (Err Overlap) answer = answer ≡ Err Overlap
Gives (Err Full) answer = answer ≡ Err Full

-- ---- ranges of bytes

-- Whether n bytes from an address on can be read: one segment has them all. No bytes always can.
abbrev pub is_readable : List Segment → ℕ → ℕ → Bool
is_readable segments at n = nat_eq n 0 || is_some (holder segments at n)

-- whether there is a segment, and a driver may write it
abbrev pub is_writable_holder : Option Segment → Bool
is_writable_holder None = false
is_writable_holder (Some segment) = is_writable segment.kind

-- Whether n bytes from an address on can be written: one segment has them all, and is writable. No bytes
-- always can.
abbrev pub is_writable_range : List Segment → ℕ → ℕ → Bool
is_writable_range segments at n = nat_eq n 0 || is_writable_holder (holder segments at n)

-- the n bytes of a segment from an address on, and none if there is no segment
abbrev pub bytes_in : Option Segment → ℕ → ℕ → List ℕ
bytes_in None at n = []
bytes_in (Some segment) at n = bytes_at segment at n

-- the n bytes from an address on, and none if no one segment has them all
abbrev pub bytes_of : List Segment → ℕ → ℕ → List ℕ
bytes_of segments at n = bytes_in (holder segments at n) at n

-- the segments with these bytes put from an address on, in the segment that has all of them, and nothing
-- else changed
abbrev pub put_bytes : List Segment → ℕ → List ℕ → List Segment
put_bytes [] at bytes = []
put_bytes (segment ∷ segments) at bytes =
    if has_bytes segment at (length bytes) then with_bytes segment at bytes ∷ segments
    else segment ∷ put_bytes segments at bytes

-- ---- mapping

-- whether segments lie one after another from an address on, and end by 2^63
abbrev pub lie_from : ℕ → List Segment → Bool
lie_from at [] = nat_le at (2 ^ 63)
lie_from at (segment ∷ segments) = nat_le at segment.base && lie_from (end_of segment) segments

-- whether one more segment passes 2^63 or meets another
abbrev pub overlaps : List Segment → Segment → Bool
overlaps segments new = nat_lt (2 ^ 63) (end_of new) || list_any (λ other. meets new other) segments

-- kinds by number
abbrev pub kind_number : SegKind → ℕ
kind_number Image = 0
kind_number Pool = 1
kind_number Firmware = 2
kind_number Stack = 3
kind_number Table = 4

-- whether a segment is of a kind
abbrev pub is_of : SegKind → Segment → Bool
is_of kind segment = nat_eq (kind_number segment.kind) (kind_number kind)

-- how many bytes the segments of a kind have
abbrev pub total_of : List Segment → SegKind → ℕ
total_of segments kind =
    sum_by (λ segment. if nat_eq (kind_number segment.kind) (kind_number kind) then length segment.bytes else 0) segments

-- how many blocks there are, of the pool and of the firmware
abbrev pub block_count : List Segment → ℕ
block_count segments = count_by (λ segment. is_block segment.kind) segments

-- whether so many more bytes, or one more block, are too many for all blocks together
abbrev pub is_pool_full : List Segment → ℕ → Bool
is_pool_full segments size =
    nat_lt MOST_BYTES (total_of segments Pool + total_of segments Firmware + size) || nat_le MOST_BLOCKS (block_count segments)

-- whether one more segment of a kind, with so many bytes, passes a limit
abbrev pub is_full : List Segment → SegKind → ℕ → Bool
is_full segments Image size = nat_lt MOST_BYTES (total_of segments Image + size)
is_full segments Pool size = is_pool_full segments size
is_full segments Firmware size = is_pool_full segments size
is_full segments Stack size = false
is_full segments Table size = false

-- what mapping a segment answers
abbrev pub map_answer : List Segment → Segment → Result Unit MemRefusal
map_answer segments new =
    if overlaps segments new then Err Overlap
    else if is_full segments new.kind (length new.bytes) then Err Full
    else Ok tt

-- the segments with one more, in its place by address
abbrev pub mapped : Segment → List Segment → List Segment
mapped new [] = new ∷ []
mapped new (segment ∷ segments) =
    if nat_lt segment.base new.base then segment ∷ mapped new segments else new ∷ segment ∷ segments

-- the segment that begins at an address
abbrev pub beginning_at : List Segment → ℕ → Result Segment MemRefusal
beginning_at [] base = Err NoSegment
beginning_at (segment ∷ segments) base = if nat_eq segment.base base then Ok segment else beginning_at segments base

-- whether a segment of a kind begins at an address
abbrev pub begins : SegKind → ℕ → List Segment → Bool
begins kind base segments = list_any (λ segment. nat_eq segment.base base && is_of kind segment) segments

-- the segments without the one that begins at an address
abbrev pub unmapped : List Segment → ℕ → List Segment
unmapped [] base = []
unmapped (segment ∷ segments) base = if nat_eq segment.base base then segments else segment ∷ unmapped segments base
