-- Where segments of each kind lie, and that they do not meet.
use Rattle.std.proofs.Common.{◌≡◌, ◌≤◌, ◌<◌, ◌⊎◌, inl, inr, ℕ, ◌+◌, max, true, false, ◌&&◌, nat_eq, nat_le, arith}
use Rattle.std.proofs.lemmas.Bool.{cases_order, or_cases}
use Rattle.std.proofs.lemmas.Bool.Decides.{nat_tests}
use Rattle.guest_memory.specs.declared.segment.Segment.{Segment}
use Rattle.guest_memory.specs.declared.segment.SegKind.{SegKind}
use Rattle.guest_memory.specs.declared.segment.SegKind.TheVariants.{Image, Pool, Firmware, Stack, Table}
use Rattle.guest_memory.specs.Segment.{end_of, meets}
use Rattle.guest_memory.specs.GuestMemory.{kind_number}
use Rattle.fw_types.specs.declared.limits.TheConstants.{MOST_LEVELS}
use Rattle.guest_memory.specs.declared.address_map.TheConstants.{CHILD_LISTS, FIRST_BLOCK, FIRST_IMAGE, IMAGE_END, LIST_ROOM, STACK_SIZE, SYSTEM_TABLE, TABLES_END}
use Rattle.world_model.specs.Kept.{is_of_level, is_in_region}
use Rattle.world_model.specs.Stacks.{list_base, stack_base}

-- two segments, of which one ends before the other begins
pub meets-apart : (a b : Segment) → (end_of a ≤ b.base) ⊎ (end_of b ≤ a.base) → meets a b ≡ false
meets-apart a b (inl before) = grind (arith, nat_tests)
meets-apart a b (inr behind) = grind (arith, nat_tests)

-- ---- segments in their regions, by kind

-- it ends before the next block
pub before_block : (image block : ℕ) (kind : SegKind) (base size : ℕ) → is_in_region image block kind base size ≡ true → image ≤ IMAGE_END → FIRST_BLOCK ≤ block → base + max 1 size ≤ block
before_block image block Image base size right low from = grind (arith, nat_tests)
before_block image block Pool base size right low from = grind (arith, nat_tests)
before_block image block Firmware base size right low from = grind (arith, nat_tests)
before_block image block Stack base size right low from = grind (arith, nat_tests)
before_block image block Table base size right low from = grind (arith, nat_tests)

-- it ends before the next image, or is a block
pub around_image : (image block : ℕ) (kind : SegKind) (base size : ℕ) → is_in_region image block kind base size ≡ true → FIRST_IMAGE ≤ image → (base + max 1 size ≤ image) ⊎ (FIRST_BLOCK ≤ base)
around_image image block Image base size right from = inl (grind (arith, nat_tests))
around_image image block Pool base size right from = inr (grind (arith, nat_tests))
around_image image block Firmware base size right from = inr (grind (arith, nat_tests))
around_image image block Stack base size right from = inl (grind (arith, nat_tests))
around_image image block Table base size right from = inl (grind (arith, nat_tests))

-- ---- levels

-- a segment that lies in its region and is not the stack of a level does not meet that stack
pub around_stack : (image block : ℕ) (level : ℕ) (kind : SegKind) (base size : ℕ) → is_in_region image block kind base size ≡ true → 0 < level → level ≤ MOST_LEVELS
    → (nat_eq base (stack_base level) && nat_eq (kind_number kind) (kind_number Stack)) ≡ false
    → (base + max 1 size ≤ stack_base level) ⊎ (stack_base level + STACK_SIZE ≤ base)
around_stack image block level Image base size right from to other = inr (grind (arith, nat_tests))
around_stack image block level Pool base size right from to other = inr (grind (arith, nat_tests))
around_stack image block level Firmware base size right from to other = inr (grind (arith, nat_tests))
around_stack image block level Table base size right from to other =
    elim (or_cases (nat_le SYSTEM_TABLE base && nat_le (base + max 1 size) TABLES_END) (is_of_level CHILD_LISTS LIST_ROOM base && nat_le size LIST_ROOM) right) [
      | inl table ↦ inl (grind (arith, nat_tests))
      | inr list ↦ inr (grind (arith, nat_tests))
    ]
around_stack image block level Stack base size right from to other =
    let different : base ≡ stack_base level → ⊥ = λ same. grind (arith, nat_tests) in
    elim (cases_order base (stack_base level)) [
      | inl same ↦ absurd (different same)
      | inr sides ↦ elim sides [ inl below ↦ inl (grind (arith, nat_tests)) | inr above ↦ inr (grind (arith, nat_tests)) ]
    ]

-- a segment that lies in its region and is not the list of children of a level does not meet that
-- list
pub around_list : (image block : ℕ) (level : ℕ) (kind : SegKind) (base size : ℕ) → is_in_region image block kind base size ≡ true → 0 < level → level ≤ MOST_LEVELS
    → (nat_eq base (list_base level) && nat_eq (kind_number kind) (kind_number Table)) ≡ false
    → (base + max 1 size ≤ list_base level) ⊎ (list_base level + LIST_ROOM ≤ base)
around_list image block level Image base size right from to other = inr (grind (arith, nat_tests))
around_list image block level Pool base size right from to other = inr (grind (arith, nat_tests))
around_list image block level Firmware base size right from to other = inr (grind (arith, nat_tests))
around_list image block level Stack base size right from to other = inl (grind (arith, nat_tests))
around_list image block level Table base size right from to other =
    elim (or_cases (nat_le SYSTEM_TABLE base && nat_le (base + max 1 size) TABLES_END) (is_of_level CHILD_LISTS LIST_ROOM base && nat_le size LIST_ROOM) right) [
      | inl table ↦ inl (grind (arith, nat_tests))
      | inr list ↦
          let different : base ≡ list_base level → ⊥ = λ same. grind (arith, nat_tests) in
          elim (cases_order base (list_base level)) [
            | inl same ↦ absurd (different same)
            | inr sides ↦ elim sides [ inl below ↦ inl (grind (arith, nat_tests)) | inr above ↦ inr (grind (arith, nat_tests)) ]
          ]
    ]
