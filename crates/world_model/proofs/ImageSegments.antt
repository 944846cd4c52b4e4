-- What the images and the lists of children have in memory, as mapping, unmapping and writing leave it.
use Rattle.std.proofs.Common.{◌≡◌, ◌≤◌, inl, inr, ℕ, ◌+◌, true, false, not, ◌&&◌, ◌||◌, nat_eq, nat_le, List, [], ◌∷◌, length, refl, sym, ap, ◌∙◌, subst, arith}
use Rattle.std.specs.List.{list_all, list_any}
use Rattle.std.proofs.lemmas.Bool.{and_parts, or_cases, or_right, and_right, eqb-true}
use Rattle.std.proofs.lemmas.Bool.Decides.{nat_tests}
use Rattle.guest_memory.specs.declared.segment.Segment.{Segment}
use Rattle.guest_memory.specs.declared.segment.SegKind.{SegKind}
use Rattle.guest_memory.specs.declared.segment.SegKind.TheVariants as kind
use Rattle.guest_memory.specs.Segment.{has_bytes, is_block}
use Rattle.guest_memory.specs.GuestMemory.{begins, is_of, kind_number, mapped, put_bytes, unmapped, written}
use Rattle.guest_memory.proofs.PutLemmas.{list_any-put_bytes}
use Rattle.fw_types.specs.declared.limits.TheConstants.{MOST_LEVELS}
use Rattle.guest_memory.specs.declared.address_map.TheConstants.{FIRST_BLOCK}
use Rattle.world_model.specs.declared.image.LoadedImage.{LoadedImage}
use Rattle.world_model.specs.Images.{block_size}
use Rattle.world_model.specs.Stacks.{has_list, has_stack, list_base, stack_base}
use Rattle.world_model.specs.Kept.{has_block, has_entry, is_placed, is_in_region}
use Rattle.world_model.proofs.Segments.{list_all-both, list_all-mono, list_any-mapped, list_any-unmapped, list_any-unmapped_less, list_any-written}

-- ---- kinds

pub same_kind : (a b : SegKind) → nat_eq (kind_number a) (kind_number b) ≡ true → a ≡ b
same_kind kind.Image kind.Image h = refl
same_kind kind.Pool kind.Pool h = refl
same_kind kind.Firmware kind.Firmware h = refl
same_kind kind.Stack kind.Stack h = refl
same_kind kind.Table kind.Table h = refl
same_kind a b h = absurd cc

-- the region of a segment that is there
pub region_of : (image block : ℕ) (kind : SegKind) (base : ℕ) (segments : List Segment) → list_all (is_placed image block) segments ≡ true → begins kind base segments ≡ true
    → (size : ℕ) × (is_in_region image block kind base size ≡ true)
region_of image block kind base [] placed there = absurd cc
region_of image block kind base (s ∷ rest) placed there =
    let parts = and_parts (is_placed image block s) (list_all (is_placed image block) rest) placed in
    elim (or_cases (nat_eq s.base base && is_of kind s) (begins kind base rest) there) [
      | inl here ↦
          let both = and_parts (nat_eq s.base base) (is_of kind s) here in
          let same : s.base ≡ base = eqb-true s.base base both.0 in
          let one : s.kind ≡ kind = same_kind s.kind kind both.1 in
          (length s.bytes, subst (λ at. is_in_region image block kind at (length s.bytes) ≡ true) same (subst (λ k. is_in_region image block k s.base (length s.bytes) ≡ true) one parts.0))
      | inr later ↦ region_of image block kind base rest parts.1 later
    ]

from_block : (image block : ℕ) (of : SegKind) (base size : ℕ) → is_block of ≡ true → is_in_region image block of base size ≡ true → FIRST_BLOCK ≤ base
from_block image block kind.Pool base size is right = grind (arith, nat_tests)
from_block image block kind.Firmware base size is right = grind (arith, nat_tests)
from_block image block kind.Image base size is right = absurd cc
from_block image block kind.Stack base size is right = absurd cc
from_block image block kind.Table base size is right = absurd cc

pub block_from : (image block : ℕ) (of : SegKind) (base : ℕ) (segments : List Segment) → is_block of ≡ true → list_all (is_placed image block) segments ≡ true → begins of base segments ≡ true → FIRST_BLOCK ≤ base
block_from image block of base segments is placed there =
    let found = region_of image block of base segments placed there in
    from_block image block of base found.0 is found.1

-- ---- images

pub entry_points-mapped : (new : Segment) (memory : List Segment) (images : List LoadedImage) → list_all (has_entry memory) images ≡ true → list_all (has_entry (mapped new memory)) images ≡ true
entry_points-mapped new memory images all =
    list_all-mono (has_entry memory) (has_entry (mapped new memory)) images
    (λ image has.
    let test = λ (s : Segment). nat_eq s.base image.base && is_of kind.Image s && has_bytes s image.entry 1 in
    list_any-mapped test new memory ∙ or_right (test new) (list_any test memory) has)
    all

pub blocks-mapped : (new : Segment) (memory : List Segment) (images : List LoadedImage) → list_all (has_block memory) images ≡ true → list_all (has_block (mapped new memory)) images ≡ true
blocks-mapped new memory images all =
    list_all-mono (has_block memory) (has_block (mapped new memory)) images
    (λ image has.
    let test = λ (s : Segment). nat_eq s.base image.block && is_of kind.Pool s && nat_eq (length s.bytes) block_size in
    list_any-mapped test new memory ∙ or_right (test new) (list_any test memory) has)
    all

pub entry_points-written : (memory : List Segment) (at n value : ℕ) (images : List LoadedImage) → list_all (has_entry memory) images ≡ true → list_all (has_entry (written memory at n value)) images ≡ true
entry_points-written memory at n value images all =
    list_all-mono (has_entry memory) (has_entry (written memory at n value)) images
    (λ image has.
    let test = λ (s : Segment). nat_eq s.base image.base && is_of kind.Image s && has_bytes s image.entry 1 in
    list_any-written test memory at n value
    (λ s bytes same. ap (λ (size : ℕ). nat_eq s.base image.base && is_of kind.Image s && (nat_le s.base image.entry && nat_le (image.entry + 1) (s.base + size))) same)
    ∙ has)
    all

pub blocks-written : (memory : List Segment) (at n value : ℕ) (images : List LoadedImage) → list_all (has_block memory) images ≡ true → list_all (has_block (written memory at n value)) images ≡ true
blocks-written memory at n value images all =
    list_all-mono (has_block memory) (has_block (written memory at n value)) images
    (λ image has.
    let test = λ (s : Segment). nat_eq s.base image.block && is_of kind.Pool s && nat_eq (length s.bytes) block_size in
    list_any-written test memory at n value
    (λ s bytes same. ap (λ (size : ℕ). nat_eq s.base image.block && is_of kind.Pool s && nat_eq size block_size) same)
    ∙ has)
    all

pub entry_points-put : (memory : List Segment) (at : ℕ) (bytes : List ℕ) (images : List LoadedImage) → list_all (has_entry memory) images ≡ true → list_all (has_entry (put_bytes memory at bytes)) images ≡ true
entry_points-put memory at bytes images all =
    list_all-mono (has_entry memory) (has_entry (put_bytes memory at bytes)) images
    (λ image has.
    let test = λ (s : Segment). nat_eq s.base image.base && is_of kind.Image s && has_bytes s image.entry 1 in
    list_any-put_bytes test memory at bytes
    (λ s others same. ap (λ (size : ℕ). nat_eq s.base image.base && is_of kind.Image s && (nat_le s.base image.entry && nat_le (image.entry + 1) (s.base + size))) same)
    ∙ has)
    all

pub blocks-put : (memory : List Segment) (at : ℕ) (bytes : List ℕ) (images : List LoadedImage) → list_all (has_block memory) images ≡ true → list_all (has_block (put_bytes memory at bytes)) images ≡ true
blocks-put memory at bytes images all =
    list_all-mono (has_block memory) (has_block (put_bytes memory at bytes)) images
    (λ image has.
    let test = λ (s : Segment). nat_eq s.base image.block && is_of kind.Pool s && nat_eq (length s.bytes) block_size in
    list_any-put_bytes test memory at bytes
    (λ s others same. ap (λ (size : ℕ). nat_eq s.base image.block && is_of kind.Pool s && nat_eq size block_size) same)
    ∙ has)
    all

pub entry_points-unmapped : (base : ℕ) (memory : List Segment) (images : List LoadedImage) → list_all (λ (image : LoadedImage). not (nat_eq image.base base)) images ≡ true
    → list_all (has_entry memory) images ≡ true → list_all (has_entry (unmapped memory base)) images ≡ true
entry_points-unmapped base memory images others all =
    list_all-both (λ (image : LoadedImage). not (nat_eq image.base base)) (has_entry memory) (has_entry (unmapped memory base)) images
    (λ image apart has.
    let test = λ (s : Segment). nat_eq s.base image.base && is_of kind.Image s && has_bytes s image.entry 1 in
    list_any-unmapped test base memory (λ s at. let other : nat_eq s.base image.base ≡ false = grind (arith, nat_tests) in rw other refl) ∙ has)
    others all

pub blocks-unmapped : (base : ℕ) (memory : List Segment) (images : List LoadedImage) → list_all (λ (image : LoadedImage). not (nat_eq image.block base)) images ≡ true
    → list_all (has_block memory) images ≡ true → list_all (has_block (unmapped memory base)) images ≡ true
blocks-unmapped base memory images others all =
    list_all-both (λ (image : LoadedImage). not (nat_eq image.block base)) (has_block memory) (has_block (unmapped memory base)) images
    (λ image apart has.
    let test = λ (s : Segment). nat_eq s.base image.block && is_of kind.Pool s && nat_eq (length s.bytes) block_size in
    list_any-unmapped test base memory (λ s at. let other : nat_eq s.base image.block ≡ false = grind (arith, nat_tests) in rw other refl) ∙ has)
    others all

-- ---- stacks and lists of children

-- each list has its stack
abbrev pub ListsHaveStacks : List Segment → Type 0
ListsHaveStacks memory = (level : ℕ) → level ≤ MOST_LEVELS → has_list level memory ≡ true → has_stack level memory ≡ true

pub lists-written : (memory : List Segment) (at n value : ℕ) → ListsHaveStacks memory → ListsHaveStacks (written memory at n value)
lists-written memory at n value stand level to has =
    let list = λ (s : Segment). nat_eq s.base (list_base level) && is_of kind.Table s in
    let stack = λ (s : Segment). nat_eq s.base (stack_base level) && is_of kind.Stack s in
    list_any-written stack memory at n value (λ s bytes same. refl) ∙ stand level to (sym (list_any-written list memory at n value (λ s bytes same. refl)) ∙ has)

pub lists-put : (memory : List Segment) (at : ℕ) (bytes : List ℕ) → ListsHaveStacks memory → ListsHaveStacks (put_bytes memory at bytes)
lists-put memory at bytes stand level to has =
    let list = λ (s : Segment). nat_eq s.base (list_base level) && is_of kind.Table s in
    let stack = λ (s : Segment). nat_eq s.base (stack_base level) && is_of kind.Stack s in
    list_any-put_bytes stack memory at bytes (λ s others same. refl) ∙ stand level to (sym (list_any-put_bytes list memory at bytes (λ s others same. refl)) ∙ has)

-- one more segment that is no list
pub lists-mapped_other : (new : Segment) (memory : List Segment) → is_of kind.Table new ≡ false → ListsHaveStacks memory → ListsHaveStacks (mapped new memory)
lists-mapped_other new memory other stand level to has =
    let list = λ (s : Segment). nat_eq s.base (list_base level) && is_of kind.Table s in
    let stack = λ (s : Segment). nat_eq s.base (stack_base level) && is_of kind.Stack s in
    let no_list : list new ≡ false = and_right (nat_eq new.base (list_base level)) (is_of kind.Table new) other in
    let before : has_list level memory ≡ true = ap (λ b. b || has_list level memory) (sym no_list) ∙ sym (list_any-mapped list new memory) ∙ has in
    list_any-mapped stack new memory ∙ or_right (stack new) (has_stack level memory) (stand level to before)

-- one fewer segment, which is no stack
pub lists-unmapped_other : (base : ℕ) (memory : List Segment) → ((level : ℕ) → level ≤ MOST_LEVELS → nat_eq (stack_base level) base ≡ false) → ListsHaveStacks memory → ListsHaveStacks (unmapped memory base)
lists-unmapped_other base memory other stand level to has =
    let list = λ (s : Segment). nat_eq s.base (list_base level) && is_of kind.Table s in
    let stack = λ (s : Segment). nat_eq s.base (stack_base level) && is_of kind.Stack s in
    let apart : nat_eq (stack_base level) base ≡ false = other level to in
    list_any-unmapped stack base memory (λ s at. let no : nat_eq s.base (stack_base level) ≡ false = grind (arith, nat_tests) in rw no refl)
    ∙ stand level to (list_any-unmapped_less list base memory has)
