-- Pushing and popping stacks leave what holds of every soft part.
use Rattle.std.proofs.Common.{◌≡◌, ◌≤◌, ◌<◌, inl, inr, ℕ, ◌*◌, true, false, not, ◌&&◌, ◌||◌, nat_eq, List, [], ◌∷◌, length, refl, sym, ap, ◌∙◌, subst, arith}
use Rattle.std.specs.List.{list_all}
use Rattle.std.proofs.lemmas.Bool.{and_from, and_left, and_right, both_ways, cases_Bool, cases_eq, or_from, or_left, or_right}
use Rattle.std.proofs.lemmas.Bool.Decides.{nat_tests}
use Rattle.guest_memory.specs.declared.segment.Segment.{Segment}
use Rattle.guest_memory.specs.declared.segment.SegKind.TheVariants as kind
use Rattle.guest_memory.specs.GuestMemory.{is_of, mapped, unmapped}
use Rattle.guest_memory.proofs.SegmentLemmas.{lie_from-mapped_apart, lie_from-unmapped}
use Rattle.fw_types.specs.declared.limits.TheConstants.{MOST_LEVELS}
use Rattle.guest_memory.specs.declared.address_map.TheConstants.{FIRST_BLOCK, FIRST_IMAGE, LIST_ROOM, STACK_SIZE}
use Rattle.world_model.specs.declared.image.LoadedImage.{LoadedImage}
use Rattle.world_model.specs.World.{Soft, with_memory}
use Rattle.world_model.specs.Stacks.{has_list, has_stack, list_base, list_segment, stack_base, stack_segment}
use Rattle.world_model.specs.Kept.{IsKept, is_placed, is_in_region}
use Rattle.world_model.specs.Keeping.{ListFits, PoppingKeeps, PushingKeeps, StackFits}
use Rattle.world_model.proofs.Segments.{none-unmapped, list_all-mapped, list_all-mono, list_all-unmapped, list_any-mapped, list_any-unmapped, list_any-unmapped_less}
use Rattle.world_model.proofs.MapAnswers.{free-overlap, length-flat_bytes, length-stack_bytes, list-fits, stack-fits}
use Rattle.world_model.proofs.FirmwareTables.{tables-mapped, tables-unmapped}
use Rattle.world_model.proofs.Bases.{bases-mapped_other, bases-unmapped_other, no_image}
use Rattle.world_model.proofs.ImageLists.{all_between, is_between}
use Rattle.world_model.proofs.ImageSegments.{ListsHaveStacks, blocks-mapped, blocks-unmapped, entry_points-mapped, entry_points-unmapped, lists-mapped_other}
use Rattle.world_model.proofs.ThunkTargets.{targets-mapped, targets-unmapped_other}

-- ---- pushing

pub fitting : StackFits
fitting soft level slots kept from to sixteen none = stack-fits soft.next_image soft.next_block soft.memory level slots kept.memory.placed from to sixteen none

-- a level without a stack has no list
no_list : (soft : Soft) (level : ℕ) → IsKept soft → level ≤ MOST_LEVELS → has_stack level soft.memory ≡ false → has_list level soft.memory ≡ false
no_list soft level kept to none = elim (cases_Bool (has_list level soft.memory)) [
  | inl there ↦ absurd (both_ways (has_stack level soft.memory) none (kept.memory.lists level to there))
  | inr other ↦ other
]

-- with the stack
pushed_stack : (soft : Soft) (level : ℕ) (slots : List ℕ) → IsKept soft → 0 < level → level ≤ MOST_LEVELS → length slots ≡ 16 → has_stack level soft.memory ≡ false
    → IsKept (with_memory (mapped (stack_segment level slots) soft.memory) soft)
pushed_stack soft level slots kept from to sixteen none =
    let memory = soft.memory in
    let new = stack_segment level slots in
    let size : length new.bytes ≡ STACK_SIZE = length-stack_bytes slots sixteen in
    let right : is_placed soft.next_image soft.next_block new ≡ true = grind (arith, nat_tests) in
    record {
      memory = record {
        apart = lie_from-mapped_apart new memory kept.memory.apart (free-overlap memory new (fitting soft level slots kept from to sixteen none));
        placed =
            list_all-mapped (is_placed soft.next_image soft.next_block) new memory
            ∙ and_from (is_placed soft.next_image soft.next_block new) (list_all (is_placed soft.next_image soft.next_block) memory) right kept.memory.placed;
        tables = tables-mapped memory new kept.memory.tables (omega arith);
        lists = lists-mapped_other new memory refl kept.memory.lists;
      };
      images = record {
        segments = bases-mapped_other kind.Image new memory refl ∙ kept.images.segments;
        entry_points = entry_points-mapped new memory soft.images kept.images.entry_points;
        blocks = blocks-mapped new memory soft.images kept.images.blocks;
        rising = kept.images.rising;
      };
      database = kept.database;
      thunks = record {
        targets = targets-mapped new memory soft.thunks kept.thunks.targets;
        numbers = kept.thunks.numbers;
      };
      records = kept.records;
      children = kept.children;
      ranges = kept.ranges;
    }

-- the stack is not a list, and it is there
no_list_with_stack : (memory : List Segment) (level : ℕ) (slots : List ℕ) → has_list level memory ≡ false → has_list level (mapped (stack_segment level slots) memory) ≡ false
no_list_with_stack memory level slots none =
    let list = λ (s : Segment). nat_eq s.base (list_base level) && is_of kind.Table s in
    let other : list (stack_segment level slots) ≡ false = and_right (nat_eq (stack_base level) (list_base level)) false refl in
    list_any-mapped list (stack_segment level slots) memory ∙ or_from (list (stack_segment level slots)) (has_list level memory) other none

stack_there : (memory : List Segment) (level : ℕ) (slots : List ℕ) → has_stack level (mapped (stack_segment level slots) memory) ≡ true
stack_there memory level slots =
    let stack = λ (s : Segment). nat_eq s.base (stack_base level) && is_of kind.Stack s in
    let here : stack (stack_segment level slots) ≡ true = grind (arith, nat_tests) in
    list_any-mapped stack (stack_segment level slots) memory ∙ or_left (stack (stack_segment level slots)) (has_stack level memory) here

pub fitting_list : ListFits
fitting_list soft level slots handles kept from to sixteen none few =
    let after = pushed_stack soft level slots kept from to sixteen none in
    list-fits soft.next_image soft.next_block (mapped (stack_segment level slots) soft.memory) level handles after.memory.placed from to few
    (no_list_with_stack soft.memory level slots (no_list soft level kept to none))

-- with a list of children besides the stack
lists-mapped_list : (memory : List Segment) (level : ℕ) (handles : List ℕ) → has_stack level memory ≡ true → ListsHaveStacks memory → ListsHaveStacks (mapped (list_segment level handles) memory)
lists-mapped_list memory level handles stands stand other to has =
    let new = list_segment level handles in
    let list = λ (s : Segment). nat_eq s.base (list_base other) && is_of kind.Table s in
    let stack = λ (s : Segment). nat_eq s.base (stack_base other) && is_of kind.Stack s in
    let more : has_stack other memory ≡ true → has_stack other (mapped new memory) ≡ true = λ there. list_any-mapped stack new memory ∙ or_right (stack new) (has_stack other memory) there in
    elim (cases_eq other level) [
      | inl same ↦ more (subst (λ d. has_stack d memory ≡ true) (sym same) stands)
      | inr apart ↦
          let no : nat_eq (list_base level) (list_base other) ≡ false = grind (arith, nat_tests) in
          let not_new : list new ≡ false = and_left (nat_eq (list_base level) (list_base other)) (is_of kind.Table new) no in
          more (stand other to (ap (λ b. b || has_list other memory) (sym not_new) ∙ sym (list_any-mapped list new memory) ∙ has))
    ]

pub pushing : PushingKeeps
pushing soft level slots [] kept from to sixteen none few = pushed_stack soft level slots kept from to sixteen none
pushing soft level slots (handle ∷ handles) kept from to sixteen none few =
    let after = pushed_stack soft level slots kept from to sixteen none in
    let memory = mapped (stack_segment level slots) soft.memory in
    let new = list_segment level (handle ∷ handles) in
    let size : length new.bytes ≡ 8 * length (handle ∷ handles) = length-flat_bytes (handle ∷ handles) in
    let right : is_placed soft.next_image soft.next_block new ≡ true = list_in_region soft.next_image soft.next_block level (length new.bytes) from to (omega arith) in
    record {
      memory = record {
        apart = lie_from-mapped_apart new memory after.memory.apart (free-overlap memory new (fitting_list soft level slots (handle ∷ handles) kept from to sixteen none few));
        placed =
            list_all-mapped (is_placed soft.next_image soft.next_block) new memory
            ∙ and_from (is_placed soft.next_image soft.next_block new) (list_all (is_placed soft.next_image soft.next_block) memory) right after.memory.placed;
        tables = tables-mapped memory new after.memory.tables (omega arith);
        lists = lists-mapped_list memory level (handle ∷ handles) (stack_there soft.memory level slots) after.memory.lists;
      };
      images = record {
        segments = bases-mapped_other kind.Image new memory refl ∙ after.images.segments;
        entry_points = entry_points-mapped new memory soft.images after.images.entry_points;
        blocks = blocks-mapped new memory soft.images after.images.blocks;
        rising = kept.images.rising;
      };
      database = kept.database;
      thunks = record {
        targets = targets-mapped new memory soft.thunks after.thunks.targets;
        numbers = kept.thunks.numbers;
      };
      records = kept.records;
      children = kept.children;
      ranges = kept.ranges;
    }
  where
    list_in_region : (image block level size : ℕ) → 0 < level → level ≤ MOST_LEVELS → size ≤ LIST_ROOM → is_in_region image block kind.Table (list_base level) size ≡ true
    list_in_region image block level size from to few = grind (arith, nat_tests)

-- ---- popping

-- without a stack and its list, each other list has its stack
lists-popped : (soft : Soft) (level : ℕ) → IsKept soft → ListsHaveStacks (unmapped (unmapped soft.memory (stack_base level)) (list_base level))
lists-popped soft level kept other to has =
    let memory = soft.memory in
    let without = unmapped memory (stack_base level) in
    let list = λ (s : Segment). nat_eq s.base (list_base other) && is_of kind.Table s in
    let stack = λ (s : Segment). nat_eq s.base (stack_base other) && is_of kind.Stack s in
    elim (cases_eq other level) [
      | inl same ↦
          let no_list = none-unmapped kind.Table (list_base level) 0 without (lie_from-unmapped 0 memory (stack_base level) kept.memory.apart) in
          absurd (both_ways (has_list other (unmapped without (list_base level))) (subst (λ d. has_list d (unmapped without (list_base level)) ≡ false) (sym same) no_list) has)
      | inr apart ↦
          let before : has_list other memory ≡ true = list_any-unmapped_less list (stack_base level) memory (list_any-unmapped_less list (list_base level) without has) in
          let there : has_stack other memory ≡ true = kept.memory.lists other to before in
          list_any-unmapped stack (list_base level) without (λ s at. let no_stack : nat_eq s.base (stack_base other) ≡ false = grind (arith, nat_tests) in rw no_stack refl)
          ∙ list_any-unmapped stack (stack_base level) memory (λ s at. let no_stack : nat_eq s.base (stack_base other) ≡ false = grind (arith, nat_tests) in rw no_stack refl)
          ∙ there
    ]

pub popping : PoppingKeeps
popping soft level kept from to =
    let memory = soft.memory in
    let without = unmapped memory (stack_base level) in
    let placed = list_all-unmapped (is_placed soft.next_image soft.next_block) (stack_base level) memory kept.memory.placed in
    let between = all_between 3 FIRST_IMAGE FIRST_BLOCK soft.images soft.database.next soft.next_image soft.next_block kept.images.rising in
    let bases_stack : list_all (λ (i : LoadedImage). not (nat_eq i.base (stack_base level))) soft.images ≡ true =
    list_all-mono (is_between 3 FIRST_IMAGE FIRST_BLOCK soft.database.next soft.next_image soft.next_block) (λ (i : LoadedImage). not (nat_eq i.base (stack_base level))) soft.images (λ i within. grind (arith, nat_tests)) between in
    let bases_list : list_all (λ (i : LoadedImage). not (nat_eq i.base (list_base level))) soft.images ≡ true =
    list_all-mono (is_between 3 FIRST_IMAGE FIRST_BLOCK soft.database.next soft.next_image soft.next_block) (λ (i : LoadedImage). not (nat_eq i.base (list_base level))) soft.images (λ i within. grind (arith, nat_tests)) between in
    let blocks_stack : list_all (λ (i : LoadedImage). not (nat_eq i.block (stack_base level))) soft.images ≡ true =
    list_all-mono (is_between 3 FIRST_IMAGE FIRST_BLOCK soft.database.next soft.next_image soft.next_block) (λ (i : LoadedImage). not (nat_eq i.block (stack_base level))) soft.images (λ i within. grind (arith, nat_tests)) between in
    let blocks_list : list_all (λ (i : LoadedImage). not (nat_eq i.block (list_base level))) soft.images ≡ true =
    list_all-mono (is_between 3 FIRST_IMAGE FIRST_BLOCK soft.database.next soft.next_image soft.next_block) (λ (i : LoadedImage). not (nat_eq i.block (list_base level))) soft.images (λ i within. grind (arith, nat_tests)) between in
    record {
      memory = record {
        apart = lie_from-unmapped 0 without (list_base level) (lie_from-unmapped 0 memory (stack_base level) kept.memory.apart);
        placed = list_all-unmapped (is_placed soft.next_image soft.next_block) (list_base level) without placed;
        tables = tables-unmapped without (list_base level) (tables-unmapped memory (stack_base level) kept.memory.tables (omega arith)) (omega arith);
        lists = lists-popped soft level kept;
      };
      images = record {
        segments =
            bases-unmapped_other kind.Image (list_base level) without (no_image soft.next_image soft.next_block (list_base level) without placed (inl (omega arith)))
            ∙ bases-unmapped_other kind.Image (stack_base level) memory (no_image soft.next_image soft.next_block (stack_base level) memory kept.memory.placed (inl (omega arith)))
            ∙ kept.images.segments;
        entry_points = entry_points-unmapped (list_base level) without soft.images bases_list (entry_points-unmapped (stack_base level) memory soft.images bases_stack kept.images.entry_points);
        blocks = blocks-unmapped (list_base level) without soft.images blocks_list (blocks-unmapped (stack_base level) memory soft.images blocks_stack kept.images.blocks);
        rising = kept.images.rising;
      };
      database = kept.database;
      thunks = record {
        targets =
            targets-unmapped_other (list_base level) without soft.thunks (no_image soft.next_image soft.next_block (list_base level) without placed (inl (omega arith)))
            (targets-unmapped_other (stack_base level) memory soft.thunks (no_image soft.next_image soft.next_block (stack_base level) memory kept.memory.placed (inl (omega arith)))
            kept.thunks.targets);
        numbers = kept.thunks.numbers;
      };
      records = kept.records;
      children = kept.children;
      ranges = kept.ranges;
    }
