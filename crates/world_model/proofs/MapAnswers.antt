-- Nothing refuses to map a segment at a place that is kept free for it.
use Rattle.std.proofs.Common.{◌≡◌, ◌≤◌, ◌<◌, inl, inr, ℕ, ◌+◌, ◌-◌, ◌*◌, ◌^◌, max, Bool, true, false, ◌&&◌, nat_eq, nat_lt, List, [], ◌∷◌, ◌++◌, length, replicate, length-append, refl, arith}
use Rattle.std.specs.Prelude.{Result, Ok, Err, flat_map, if◌then◌else◌}
use Rattle.std.specs.List.{list_all, list_any}
use Rattle.std.proofs.lemmas.Bool.Decides.{nat_tests}
use Rattle.std.proofs.lemmas.List.{length-replicate}
use Rattle.byteorder.specs.Endian.{little_bytes}
use Rattle.byteorder.specs.Numbers.{length-bytes_low_first}
use Rattle.guest_memory.specs.declared.address_map.TheConstants.{EXIT}
use Rattle.guest_memory.specs.declared.guest.MemRefusal.{MemRefusal}
use Rattle.guest_memory.specs.declared.guest.MemRefusal.TheVariants.{Full, Overlap}
use Rattle.guest_memory.specs.declared.segment.Segment.{Segment}
use Rattle.guest_memory.specs.declared.segment.SegKind.{SegKind}
use Rattle.guest_memory.specs.declared.segment.SegKind.TheVariants as kind
use Rattle.guest_memory.specs.Segment.{end_of, meets}
use Rattle.guest_memory.specs.GuestMemory.{is_full, is_of, map_answer, overlaps}
use Rattle.fw_types.specs.declared.limits.TheConstants.{MOST_LEVELS, MOST_LISTED}
use Rattle.guest_memory.specs.declared.address_map.TheConstants.{BLOCK_END, FIRST_BLOCK, FIRST_IMAGE, IMAGE_END, STACK_SIZE}
use Rattle.world_model.specs.Blocks.{block_room}
use Rattle.world_model.specs.Stacks.{has_list, has_stack, list_base, list_segment, stack_base, stack_bytes, stack_segment}
use Rattle.world_model.specs.Kept.{is_placed}
use Rattle.world_model.proofs.Segments.{list_any-neither, list_any-none}
use Rattle.world_model.proofs.Regions.{around_image, around_list, around_stack, before_block, meets-apart}

-- what is mapped overlaps none
pub free-overlap : (segments : List Segment) (new : Segment) → map_answer segments new ≡ Ok tt → overlaps segments new ≡ false
free-overlap segments new fits = by_test (overlaps segments new) (is_full segments new.kind (length new.bytes)) fits
  where
    by_test : (one two : Bool) → ◌≡◌ {A = Result Unit MemRefusal} (if one then Err Overlap else if two then Err Full else Ok tt) (Ok tt) → one ≡ false
    by_test true two fits = absurd cc
    by_test false two fits = refl

-- nothing refuses what meets no other and passes no limit
pub map-fits : (segments : List Segment) (new : Segment) → end_of new ≤ 2 ^ 63 → list_any (λ (other : Segment). meets new other) segments ≡ false → is_full segments new.kind (length new.bytes) ≡ false → map_answer segments new ≡ Ok tt
map-fits segments new end apart room =
    let low : nat_lt (2 ^ 63) (end_of new) ≡ false = grind (arith, nat_tests) in
    rw (low, apart, room) refl

-- ---- blocks

pub block-apart : (image block : ℕ) (memory : List Segment) (new : Segment) → list_all (is_placed image block) memory ≡ true → image ≤ IMAGE_END → FIRST_BLOCK ≤ block → block ≤ new.base → list_any (λ (other : Segment). meets new other) memory ≡ false
block-apart image block memory new placed low from behind =
    list_any-none (is_placed image block) (λ (other : Segment). meets new other) memory
    (λ s right.
    let end : s.base + max 1 (length s.bytes) ≤ block = before_block image block s.kind s.base (length s.bytes) right low from in
    meets-apart new s (inr (omega arith)))
    placed

pub block-fits : (image block : ℕ) (memory : List Segment) (bytes : List ℕ) (kind : SegKind) → list_all (is_placed image block) memory ≡ true → image ≤ IMAGE_END → FIRST_BLOCK ≤ block
    → block + block_room (length bytes) ≤ BLOCK_END → is_full memory kind (length bytes) ≡ false → map_answer memory (record { base = block; bytes = bytes; kind = kind }) ≡ Ok tt
block-fits image block memory bytes kind placed low from end room =
    let new : Segment = record { base = block; bytes = bytes; kind = kind } in
    map-fits memory new (omega arith) (block-apart image block memory new placed low from (omega arith)) room

-- ---- images

pub image-fits : (image block : ℕ) (memory : List Segment) (bytes : List ℕ) → list_all (is_placed image block) memory ≡ true → FIRST_IMAGE ≤ image
    → 0 < length bytes → image + length bytes ≤ IMAGE_END → is_full memory kind.Image (length bytes) ≡ false → map_answer memory (record { base = image; bytes = bytes; kind = kind.Image }) ≡ Ok tt
image-fits image block memory bytes placed from some end room =
    let new : Segment = record { base = image; bytes = bytes; kind = kind.Image } in
    let apart : list_any (λ (other : Segment). meets new other) memory ≡ false =
    list_any-none (is_placed image block) (λ (other : Segment). meets new other) memory
    (λ s right. elim (around_image image block s.kind s.base (length s.bytes) right from) [
      | inl before ↦ meets-apart new s (inr before)
      | inr behind ↦ meets-apart new s (inl (omega arith))
    ])
    placed in
    map-fits memory new (omega arith) apart room

-- ---- stacks

pub length-flat_bytes : (numbers : List ℕ) → length (flat_map (little_bytes 8) numbers) ≡ 8 * length numbers
length-flat_bytes [] = refl
length-flat_bytes (number ∷ numbers) =
    omega (arith, length-append (little_bytes 8 number) (flat_map (little_bytes 8) numbers), length-bytes_low_first 0 8 number, length-flat_bytes numbers)

pub length-stack_bytes : (slots : List ℕ) → length slots ≡ 16 → length (stack_bytes slots) ≡ STACK_SIZE
unfolding stack_bytes
length-stack_bytes slots sixteen =
    let nought : ℕ = 0 in
    let size : ℕ = 0x10000 - 144 in
    let a = replicate size nought in
    let b = a ++ little_bytes 8 EXIT in
    let c = b ++ replicate 8 nought in
    omega (
      arith,
      sixteen,
      length-append c (flat_map (little_bytes 8) slots),
      length-append b (replicate 8 nought),
      length-append a (little_bytes 8 EXIT),
      length-replicate size nought,
      length-replicate 8 nought,
      length-bytes_low_first 0 8 EXIT,
      length-flat_bytes slots,
    )

pub stack-fits : (image block : ℕ) (memory : List Segment) (level : ℕ) (slots : List ℕ) → list_all (is_placed image block) memory ≡ true → 0 < level → level ≤ MOST_LEVELS → length slots ≡ 16
    → has_stack level memory ≡ false → map_answer memory (stack_segment level slots) ≡ Ok tt
stack-fits image block memory level slots placed from to sixteen none =
    let new = stack_segment level slots in
    let size : length new.bytes ≡ STACK_SIZE = length-stack_bytes slots sixteen in
    let apart : list_any (λ (other : Segment). meets new other) memory ≡ false =
    list_any-neither (is_placed image block) (λ (s : Segment). nat_eq s.base (stack_base level) && is_of kind.Stack s) (λ (other : Segment). meets new other) memory
    (λ s right other. elim (around_stack image block level s.kind s.base (length s.bytes) right from to other) [
      | inl before ↦ meets-apart new s (inr before)
      | inr behind ↦ meets-apart new s (inl (omega arith))
    ])
    placed none in
    map-fits memory new (omega arith) apart refl

pub list-fits : (image block : ℕ) (memory : List Segment) (level : ℕ) (handles : List ℕ) → list_all (is_placed image block) memory ≡ true → 0 < level → level ≤ MOST_LEVELS → length handles ≤ MOST_LISTED
    → has_list level memory ≡ false → map_answer memory (list_segment level handles) ≡ Ok tt
list-fits image block memory level handles placed from to few none =
    let new = list_segment level handles in
    let size : length new.bytes ≡ 8 * length handles = length-flat_bytes handles in
    let apart : list_any (λ (other : Segment). meets new other) memory ≡ false =
    list_any-neither (is_placed image block) (λ (s : Segment). nat_eq s.base (list_base level) && is_of kind.Table s) (λ (other : Segment). meets new other) memory
    (λ s right other. elim (around_list image block level s.kind s.base (length s.bytes) right from to other) [
      | inl before ↦ meets-apart new s (inr before)
      | inr behind ↦ meets-apart new s (inl (omega arith))
    ])
    placed none in
    map-fits memory new (omega arith) apart refl
