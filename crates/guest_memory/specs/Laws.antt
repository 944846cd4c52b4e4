-- Laws of guest memory over its definitions. Each holds of all segments, or of all that lie in order and
-- apart, as those of a memory do.
use Rattle.std.specs.Prelude.{◌≡◌, ◌≤◌, ◌<◌, ℕ, ◌+◌, ◌%◌, ◌^◌, ◌⊎◌, count_by, true, false, List, length, map, slice_index_or, Some, Ok}
use Rattle.std.specs.Option.{is_some}
use Rattle.guest_memory.specs.Segment.{has_bytes, meets}
use Rattle.guest_memory.specs.GuestMemory.{holder, number_of, bytes_of, written, put_bytes, lie_from, mapped, unmapped, beginning_at}
use Rattle.guest_memory.specs.declared.segment.SegKind.{SegKind}
use Rattle.guest_memory.specs.declared.segment.Segment.{Segment}

-- ---- segments in order

-- No two segments meet.
abbrev pub NoTwoMeet : Type 0
NoTwoMeet = (segments : List Segment) (i j : ℕ) (d : Segment) → lie_from 0 segments ≡ true → i < j → j < length segments
    → meets (slice_index_or segments i d) (slice_index_or segments j d) ≡ false

-- At most one segment has a byte.
abbrev pub OneHasAByte : Type 0
OneHasAByte = (segments : List Segment) (at : ℕ) → lie_from 0 segments ≡ true → count_by (λ segment. has_bytes segment at 1) segments ≤ 1

-- ---- reading after a write

-- A read gives the low bytes of the number that was written to the same range, if one segment has the
-- range.
abbrev pub NumberReadsBack : Type 0
NumberReadsBack = (segments : List Segment) (at n value : ℕ) → is_some (holder segments at n) ≡ true
    → number_of (written segments at n value) at n ≡ Some (value % 256 ^ n)

-- In the same way, bytes that were put in a range are read back, if one segment has it.
abbrev pub BytesReadBack : Type 0
BytesReadBack = (segments : List Segment) (at : ℕ) (bytes : List ℕ) → is_some (holder segments at (length bytes)) ≡ true
    → bytes_of (put_bytes segments at bytes) at (length bytes) ≡ bytes

-- two ranges have no byte in common
abbrev pub AreApart : ℕ → ℕ → ℕ → ℕ → Type 0
AreApart at n other m = (at + n ≤ other) ⊎ (other + m ≤ at)

-- A write changes only its own bytes: a number in a range apart from them is as before.
abbrev pub OtherNumbersStay : Type 0
OtherNumbersStay = (segments : List Segment) (at n value other m : ℕ) → AreApart at n other m
    → number_of (written segments at n value) other m ≡ number_of segments other m

-- So are the bytes of any range apart from those that are put.
abbrev pub OtherBytesStay : Type 0
OtherBytesStay = (segments : List Segment) (at : ℕ) (bytes : List ℕ) (other m : ℕ) → AreApart at (length bytes) other m
    → bytes_of (put_bytes segments at bytes) other m ≡ bytes_of segments other m

-- where a segment lies, how many bytes it has, and its kind
abbrev pub outline_of : Segment → ℕ × ℕ × SegKind
outline_of segment = (segment.base, length segment.bytes, segment.kind)

-- A write moves no segment either, and changes the size and the kind of none.
abbrev pub SegmentsStay : Type 0
SegmentsStay = (segments : List Segment) (at n value : ℕ) → map outline_of (written segments at n value) ≡ map outline_of segments

abbrev pub SegmentsStayAsBytesArePut : Type 0
SegmentsStayAsBytesArePut = (segments : List Segment) (at : ℕ) (bytes : List ℕ) → map outline_of (put_bytes segments at bytes) ≡ map outline_of segments

-- ---- mapping

-- What unmapping takes out is the segment that was mapped, and the others are as before.
abbrev pub UnmappedTakesBackMapped : Type 0
UnmappedTakesBackMapped = (segments : List Segment) (new : Segment) → unmapped (mapped new segments) new.base ≡ segments

abbrev pub MappedBeginsThere : Type 0
MappedBeginsThere = (segments : List Segment) (new : Segment) → beginning_at (mapped new segments) new.base ≡ Ok new

-- Mapping what was unmapped gives the earlier segments, if they lie in order.
abbrev pub MappedTakesBackUnmapped : Type 0
MappedTakesBackUnmapped = (segments : List Segment) (base : ℕ) (segment : Segment) → lie_from 0 segments ≡ true → beginning_at segments base ≡ Ok segment
    → mapped segment (unmapped segments base) ≡ segments

-- ---- earlier bytes

-- What was put is taken back by putting the bytes that were there before, if one segment has the range.
abbrev pub PutTakesBackPut : Type 0
PutTakesBackPut = (segments : List Segment) (at : ℕ) (bytes : List ℕ) → is_some (holder segments at (length bytes)) ≡ true
    → put_bytes (put_bytes segments at bytes) at (bytes_of segments at (length bytes)) ≡ segments

-- So is a number that was written.
abbrev pub PutTakesBackWritten : Type 0
PutTakesBackWritten = (segments : List Segment) (at n value : ℕ) → is_some (holder segments at n) ≡ true
    → put_bytes (written segments at n value) at (bytes_of segments at n) ≡ segments
