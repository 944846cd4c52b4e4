-- Segments that no code may write: the tables, lists of children and blocks of the firmware. While one
-- is mapped its bytes stay.
use Rattle.std.specs.Prelude.{◌≡◌, ℕ, true, not, List, filter, length, Ok, if◌then◌else◌}
use Rattle.guest_memory.specs.declared.segment.Segment.{Segment}
use Rattle.guest_memory.specs.Segment.{is_writable}
use Rattle.guest_memory.specs.GuestMemory.{is_writable_range, lie_from, mapped, put_bytes, unmapped, write_answer, written}

abbrev pub fixed_segments : List Segment → List Segment
fixed_segments segments = filter (λ (segment : Segment). not (is_writable segment.kind)) segments

-- a write that is not refused leaves all of them
abbrev pub WritingKeepsFixed : Type 0
WritingKeepsFixed =
    (segments : List Segment) (at n value : ℕ) → write_answer segments at n ≡ Ok tt → fixed_segments (written segments at n value) ≡ fixed_segments segments

-- so do bytes that are put in a range that can be written
abbrev pub PuttingKeepsFixed : Type 0
PuttingKeepsFixed =
    (segments : List Segment) (at : ℕ) (bytes : List ℕ) → is_writable_range segments at (length bytes) ≡ true → fixed_segments (put_bytes segments at bytes) ≡ fixed_segments segments

-- mapping leaves them, and adds the new one if that is fixed
abbrev pub MappingKeepsFixed : Type 0
MappingKeepsFixed =
    (segments : List Segment) (new : Segment) → lie_from 0 segments ≡ true
    → fixed_segments (mapped new segments) ≡ (if is_writable new.kind then fixed_segments segments else mapped new (fixed_segments segments))

-- unmapping leaves them, except for the one that is unmapped
abbrev pub UnmappingKeepsFixed : Type 0
UnmappingKeepsFixed =
    (segments : List Segment) (base : ℕ) → lie_from 0 segments ≡ true → fixed_segments (unmapped segments base) ≡ unmapped (fixed_segments segments) base
