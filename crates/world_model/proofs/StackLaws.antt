-- Which stacks are there, as each single change leaves them.
use Rattle.std.proofs.Common.{◌≡◌, ◌≤◌, ℕ, Bool, true, false, not, ◌&&◌, ◌||◌, cond, nat_eq, nat_le, nat_lt, List, [], ◌∷◌, length, filter, Option, Some, None, refl, sym, ap, ◌∙◌, arith}
use Rattle.std.specs.List.{list_all, list_any}
use Rattle.std.proofs.lemmas.Bool.{and_from, and_parts, and_right, or_from, or_parts, or_right}
use Rattle.std.proofs.lemmas.Bool.Decides.{nat_tests}
use Rattle.guest_memory.specs.declared.segment.Segment.{Segment}
use Rattle.guest_memory.specs.declared.segment.SegKind.{SegKind}
use Rattle.guest_memory.specs.declared.segment.SegKind.TheVariants as kind
use Rattle.guest_memory.specs.Segment.{end_of, is_block}
use Rattle.guest_memory.specs.GuestMemory.{begins, is_of, kind_number, lie_from, mapped, unmapped}
use Rattle.guest_memory.specs.declared.address_map.TheConstants.{FIRST_BLOCK, FIRST_IMAGE}
use Rattle.world_model.specs.declared.image.LoadedImage.{LoadedImage}
use Rattle.world_model.specs.World.{Soft, bases}
use Rattle.world_model.specs.Blocks.{is_image_block}
use Rattle.world_model.specs.Images.{image_of, image_segment, block_contents, image_block_segment, without_loaded}
use Rattle.world_model.specs.Stacks.{list_base, list_segment, stack_base, stack_segment}
use Rattle.world_model.specs.ImageSweep.{image_swept, swept_of}
use Rattle.world_model.specs.Marks.{stacks}
use Rattle.world_model.specs.Kept.{IsKept, is_placed, is_in_region}
use Rattle.world_model.specs.StackLaws.{AddingKeepsStacks, AllottingKeepsStacks, DroppingKeepsStacks, FreeingKeepsStacks, PoppingUndoesPush, PoppingTakesStack, PushedStackIsThere, PushingAddsStack, PuttingKeepsStacks, SweepingKeepsStacks, StackOfLevel, WritingKeepsStacks, inserted}
use Rattle.world_model.proofs.Segments.{list_all-unmapped}
use Rattle.world_model.proofs.Bases.{bases-cons, bases-mapped_other, bases-unmapped, bases-unmapped_other, bases-put, bases-written}
use Rattle.world_model.proofs.ImageLists.{all_between, found_passes, is_between}
use Rattle.world_model.proofs.ImageSegments.{block_from}
use Rattle.world_model.proofs.KeepingBlocks.{freed_is}

-- ---- stacks and their addresses

and_true : (b : Bool) → (b && true) ≡ b
and_true true = refl
and_true false = refl

begins_in : (of : SegKind) (base : ℕ) (segments : List Segment) → begins of base segments ≡ list_any (λ (b : ℕ). nat_eq b base) (bases of segments)
begins_in of base [] = refl
begins_in of base (s ∷ rest) = by_kind (is_of of s) refl (begins_in of base rest)
  where
    by_kind : (is : Bool) → is_of of s ≡ is → begins of base rest ≡ list_any (λ (b : ℕ). nat_eq b base) (bases of rest)
        → begins of base (s ∷ rest) ≡ list_any (λ (b : ℕ). nat_eq b base) (bases of (s ∷ rest))
    by_kind true h later = rw (bases-cons of true s rest h, h, later) (ap (λ b. b || list_any (λ (b : ℕ). nat_eq b base) (bases of rest)) (and_true (nat_eq s.base base)))
    by_kind false h later = rw (bases-cons of false s rest h, and_right (nat_eq s.base base) (is_of of s) h) later

pub stack_of_level : StackOfLevel
stack_of_level soft level = begins_in kind.Stack (stack_base level) soft.memory

-- no stack begins outside the range of stacks
no_stack : (next block base : ℕ) (segments : List Segment) → list_all (is_placed next block) segments ≡ true → FIRST_IMAGE ≤ base → begins kind.Stack base segments ≡ false
no_stack next block base [] placed away = refl
no_stack next block base (s ∷ rest) placed away =
    let parts = and_parts (is_placed next block s) (list_all (is_placed next block) rest) placed in
    or_from (nat_eq s.base base && is_of kind.Stack s) (begins kind.Stack base rest) (other next block base s.kind s.base (length s.bytes) parts.0 away) (no_stack next block base rest parts.1 away)
  where
    other : (next block at : ℕ) (of : SegKind) (base size : ℕ) → is_in_region next block of base size ≡ true → FIRST_IMAGE ≤ at → (nat_eq base at && nat_eq (kind_number of) 3) ≡ false
    other next block at kind.Stack base size right away = grind (arith, nat_tests)
    other next block at kind.Image base size right away = and_right (nat_eq base at) false refl
    other next block at kind.Pool base size right away = and_right (nat_eq base at) false refl
    other next block at kind.Firmware base size right away = and_right (nat_eq base at) false refl
    other next block at kind.Table base size right away = and_right (nat_eq base at) false refl

-- nor at the address of a list of children
no_stack_at_list : (next block level : ℕ) (segments : List Segment) → list_all (is_placed next block) segments ≡ true → begins kind.Stack (list_base level) segments ≡ false
no_stack_at_list next block level [] placed = refl
no_stack_at_list next block level (s ∷ rest) placed =
    let parts = and_parts (is_placed next block s) (list_all (is_placed next block) rest) placed in
    or_from (nat_eq s.base (list_base level) && is_of kind.Stack s) (begins kind.Stack (list_base level) rest) (other next block level s.kind s.base (length s.bytes) parts.0) (no_stack_at_list next block level rest parts.1)
  where
    other : (next block level : ℕ) (of : SegKind) (base size : ℕ) → is_in_region next block of base size ≡ true → (nat_eq base (list_base level) && nat_eq (kind_number of) 3) ≡ false
    other next block level kind.Stack base size right = grind (arith, nat_tests)
    other next block level kind.Image base size right = and_right (nat_eq base (list_base level)) false refl
    other next block level kind.Pool base size right = and_right (nat_eq base (list_base level)) false refl
    other next block level kind.Firmware base size right = and_right (nat_eq base (list_base level)) false refl
    other next block level kind.Table base size right = and_right (nat_eq base (list_base level)) false refl

-- ---- changes that leave all stacks

pub writing : WritingKeepsStacks
writing soft at n value = bases-written kind.Stack soft.memory at n value

pub putting : PuttingKeepsStacks
putting soft at bytes = bases-put kind.Stack soft.memory at bytes

-- a block is no stack
not_stack : (of : SegKind) (base : ℕ) (bytes : List ℕ) → is_block of ≡ true → is_of kind.Stack (record { base = base; bytes = bytes; kind = of }) ≡ false
not_stack kind.Pool base bytes is = refl
not_stack kind.Firmware base bytes is = refl
not_stack kind.Image base bytes is = absurd cc
not_stack kind.Stack base bytes is = absurd cc
not_stack kind.Table base bytes is = absurd cc

pub allotting : AllottingKeepsStacks
allotting soft bytes of is = bases-mapped_other kind.Stack (record { base = soft.next_block; bytes = bytes; kind = of }) soft.memory (not_stack of soft.next_block bytes is)

pub freeing : FreeingKeepsStacks
freeing soft at of kept is done =
    let parts = freed_is (begins of at soft.memory) (is_image_block at soft.images) done in
    let from : FIRST_BLOCK ≤ at = block_from soft.next_image soft.next_block of at soft.memory is kept.memory.placed parts.0 in
    bases-unmapped_other kind.Stack at soft.memory (no_stack soft.next_image soft.next_block at soft.memory kept.memory.placed (omega arith))

pub adding : AddingKeepsStacks
adding soft bytes entry subsystem device =
    let contents = block_contents bytes subsystem device soft in
    bases-mapped_other kind.Stack (image_segment bytes soft) (mapped (image_block_segment contents soft) soft.memory) refl ∙ bases-mapped_other kind.Stack (image_block_segment contents soft) soft.memory refl

dropping_one : (soft : Soft) (number : ℕ) (one : LoadedImage) → IsKept soft → image_of number soft.images ≡ Some one → stacks (without_loaded (Some one) soft) ≡ stacks soft
dropping_one soft number one kept found =
    let between = is_between 3 FIRST_IMAGE FIRST_BLOCK soft.database.next soft.next_image soft.next_block in
    let here : between one ≡ true =
    found_passes (λ (i : LoadedImage). nat_eq i.handle number) between soft.images one found (all_between 3 FIRST_IMAGE FIRST_BLOCK soft.images soft.database.next soft.next_image soft.next_block kept.images.rising) in
    let base_from : FIRST_IMAGE ≤ one.base = grind (arith, nat_tests) in
    let block_from : FIRST_IMAGE ≤ one.block = grind (arith, nat_tests) in
    let without = unmapped soft.memory one.base in
    bases-unmapped_other kind.Stack one.block without (no_stack soft.next_image soft.next_block one.block without (list_all-unmapped (is_placed soft.next_image soft.next_block) one.base soft.memory kept.memory.placed) block_from)
    ∙ bases-unmapped_other kind.Stack one.base soft.memory (no_stack soft.next_image soft.next_block one.base soft.memory kept.memory.placed base_from)

pub dropping : DroppingKeepsStacks
dropping soft handle kept = by_image (image_of handle soft.images) refl
  where
    by_image : (found : Option LoadedImage) → image_of handle soft.images ≡ found → stacks (without_loaded found soft) ≡ stacks soft
    by_image None is = refl
    by_image (Some one) is = dropping_one soft handle one kept is

-- a sweep unmaps the same as dropping the image does
pub sweeping : SweepingKeepsStacks
unfolding image_swept
sweeping soft image kept = by_image (image_of image soft.images) refl
  where
    by_image : (found : Option LoadedImage) → image_of image soft.images ≡ found → stacks (swept_of found soft) ≡ stacks soft
    by_image None is = refl
    by_image (Some one) is = dropping_one soft image one kept is

-- ---- changes of stacks

-- addresses of segments that lie from an address on
all_bases : (of : SegKind) (low from : ℕ) (segments : List Segment) → lie_from from segments ≡ true → low ≤ from → list_all (nat_le low) (bases of segments) ≡ true
all_bases of low from [] lies le = refl
all_bases of low from (s ∷ rest) lies le =
    let order = and_parts (nat_le from s.base) (lie_from (end_of s) rest) lies in
    let here : nat_le low s.base ≡ true = grind (arith, nat_tests, order.0) in
    let behind : low ≤ s.base = grind (arith, nat_tests, order.0) in
    let later = all_bases of low (end_of s) rest order.1 (omega arith) in
    ap (list_all (nat_le low)) (bases-cons of (is_of of s) s rest refl) ∙ by_kind (is_of of s) here later
  where
    by_kind : (is : Bool) → nat_le low s.base ≡ true → list_all (nat_le low) (bases of rest) ≡ true → list_all (nat_le low) (cond is (s.base ∷ bases of rest) (bases of rest)) ≡ true
    by_kind true here later = and_from (nat_le low s.base) (list_all (nat_le low) (bases of rest)) here later
    by_kind false here later = later

inserted-first : (base : ℕ) (others : List ℕ) → list_all (nat_le base) others ≡ true → inserted base others ≡ base ∷ others
inserted-first base [] all = refl
inserted-first base (other ∷ others) all =
    let parts = and_parts (nat_le base other) (list_all (nat_le base) others) all in
    let behind : nat_lt other base ≡ false = grind (arith, nat_tests, parts.0) in
    rw behind refl

bases-mapped-more : (of : SegKind) (from : ℕ) (new s : Segment) (rest : List Segment) (before is : Bool) → nat_lt s.base new.base ≡ before → is_of of s ≡ is → is_of of new ≡ true → lie_from from (s ∷ rest) ≡ true
    → bases of (mapped new rest) ≡ inserted new.base (bases of rest)
    → bases of (cond before (s ∷ mapped new rest) (new ∷ s ∷ rest)) ≡ inserted new.base (bases of (s ∷ rest))
bases-mapped-more of from new s rest true true order is one lies later =
    let step : inserted new.base (s.base ∷ bases of rest) ≡ s.base ∷ inserted new.base (bases of rest) = rw order refl in
    bases-cons of true s (mapped new rest) is ∙ ap (λ others. s.base ∷ others) later ∙ sym step ∙ sym (ap (inserted new.base) (bases-cons of true s rest is))
bases-mapped-more of from new s rest true false order is one lies later =
    bases-cons of false s (mapped new rest) is ∙ later ∙ sym (ap (inserted new.base) (bases-cons of false s rest is))
bases-mapped-more of from new s rest false is_kind order is one lies later =
    let parts = and_parts (nat_le from s.base) (lie_from (end_of s) rest) lies in
    let low : new.base ≤ s.base = grind (arith, nat_tests, order) in
    let again : lie_from s.base (s ∷ rest) ≡ true = let here : nat_le s.base s.base ≡ true = grind (arith, nat_tests) in rw (here, parts.1) refl in
    bases-cons of true new (s ∷ rest) one ∙ sym (inserted-first new.base (bases of (s ∷ rest)) (all_bases of new.base s.base (s ∷ rest) again low))

-- one more segment of the kind
bases-mapped : (of : SegKind) (from : ℕ) (new : Segment) (segments : List Segment) → is_of of new ≡ true → lie_from from segments ≡ true → bases of (mapped new segments) ≡ inserted new.base (bases of segments)
bases-mapped of from new [] one lies = bases-cons of true new [] one
bases-mapped of from new (s ∷ rest) one lies =
    let parts = and_parts (nat_le from s.base) (lie_from (end_of s) rest) lies in
    bases-mapped-more of from new s rest (nat_lt s.base new.base) (is_of of s) refl refl one lies (bases-mapped of (end_of s) new rest one parts.1)

pub pushing : PushingAddsStack
pushing soft level slots [] kept = bases-mapped kind.Stack 0 (stack_segment level slots) soft.memory refl kept.memory.apart
pushing soft level slots (handle ∷ handles) kept =
    bases-mapped_other kind.Stack (list_segment level (handle ∷ handles)) (mapped (stack_segment level slots) soft.memory) refl
    ∙ bases-mapped kind.Stack 0 (stack_segment level slots) soft.memory refl kept.memory.apart

pub popping : PoppingTakesStack
popping soft level kept to =
    let without = unmapped soft.memory (stack_base level) in
    bases-unmapped_other kind.Stack (list_base level) without (no_stack_at_list soft.next_image soft.next_block level without (list_all-unmapped (is_placed soft.next_image soft.next_block) (stack_base level) soft.memory kept.memory.placed))
    ∙ bases-unmapped kind.Stack (stack_base level) 0 soft.memory kept.memory.apart

-- what is inserted is there
inserted_there : (base : ℕ) (others : List ℕ) → list_any (λ (b : ℕ). nat_eq b base) (inserted base others) ≡ true
inserted_there base [] = let here : nat_eq base base ≡ true = grind (arith, nat_tests) in rw here refl
inserted_there base (other ∷ others) =
    elim (nat_lt other base) as (λ b. list_any (λ (b : ℕ). nat_eq b base) (cond b (other ∷ inserted base others) (base ∷ other ∷ others)) ≡ true) [
      | true ↦ or_right (nat_eq other base) (list_any (λ (b : ℕ). nat_eq b base) (inserted base others)) (inserted_there base others)
      | false ↦ let here : nat_eq base base ≡ true = grind (arith, nat_tests) in rw here refl
    ]

pub pushed_stack_is_there : PushedStackIsThere
pushed_stack_is_there level others = inserted_there (stack_base level) others

filter-others : (base : ℕ) (others : List ℕ) → list_any (λ (b : ℕ). nat_eq b base) others ≡ false → filter (λ (b : ℕ). not (nat_eq b base)) others ≡ others
filter-others base [] none = refl
filter-others base (other ∷ others) none =
    let parts = or_parts (nat_eq other base) (list_any (λ (b : ℕ). nat_eq b base) others) none in
    rw (parts.0, filter-others base others parts.1) refl

-- without it again, the others are left
inserted-without : (base : ℕ) (others : List ℕ) → list_any (λ (b : ℕ). nat_eq b base) others ≡ false → filter (λ (b : ℕ). not (nat_eq b base)) (inserted base others) ≡ others
inserted-without base [] none = let here : nat_eq base base ≡ true = grind (arith, nat_tests) in rw here refl
inserted-without base (other ∷ others) none =
    let parts = or_parts (nat_eq other base) (list_any (λ (b : ℕ). nat_eq b base) others) none in
    elim (nat_lt other base) as (λ b. filter (λ (b : ℕ). not (nat_eq b base)) (cond b (other ∷ inserted base others) (base ∷ other ∷ others)) ≡ other ∷ others) [
      | true ↦ rw (parts.0, inserted-without base others parts.1) refl
      | false ↦ let here : nat_eq base base ≡ true = grind (arith, nat_tests) in rw here (filter-others base (other ∷ others) none)
    ]

pub popping_undoes_push : PoppingUndoesPush
popping_undoes_push level others none = inserted-without (stack_base level) others none
