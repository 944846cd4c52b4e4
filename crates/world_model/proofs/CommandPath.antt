-- The path of a command is mapped at a place that nothing else uses, and setting and clearing it leave what holds of
-- every soft part.
use Rattle.std.proofs.Common.{◌≡◌, ◌≤◌, ◌<◌, inl, inr, ℕ, Bool, true, false, not, ◌&&◌, ◌||◌, cond, nat_eq, nat_le, List, [], ◌∷◌, length, refl, sym, ap, ◌∙◌, arith}
use Rattle.std.specs.List.{list_all, list_any}
use Rattle.std.proofs.lemmas.Bool.{and_from, and_left, and_parts, and_right, eqb-true, or_cases, or_from, or_left, or_right}
use Rattle.std.proofs.lemmas.Bool.Decides.{nat_tests}
use Rattle.guest_memory.specs.declared.address_map.TheConstants.{COMMAND_PATH, FIRST_BLOCK, FIRST_IMAGE, TABLES_END}
use Rattle.guest_memory.specs.declared.segment.Segment.{Segment}
use Rattle.guest_memory.specs.declared.segment.SegKind.{SegKind}
use Rattle.guest_memory.specs.declared.segment.SegKind.TheVariants as kind
use Rattle.guest_memory.specs.Segment.{end_of, meets}
use Rattle.guest_memory.specs.GuestMemory.{begins, is_of, kind_number, lie_from, mapped, unmapped}
use Rattle.guest_memory.proofs.SegmentLemmas.{lie_from-mapped_apart, lie_from-unmapped}
use Rattle.world_model.specs.declared.image.LoadedImage.{LoadedImage}
use Rattle.world_model.specs.Stacks.{has_list, has_stack, list_base, stack_base}
use Rattle.world_model.specs.Kept.{is_in_region, is_placed}
use Rattle.world_model.specs.CommandPath.{ClearingLeavesNoPath, PathClearingKeeps, PathClearingKeepsStacks, PathFits, PathSettingKeeps, PathSettingKeepsStacks, SetPathIsAlone, is_beside_path, is_path_or_beside, path_room, path_segment}
use Rattle.world_model.proofs.Segments.{list_all-mapped, list_all-mono, list_all-unmapped, list_any-mapped, list_any-none}
use Rattle.world_model.proofs.MapAnswers.{free-overlap, map-fits}
use Rattle.world_model.proofs.Regions.{meets-apart}
use Rattle.world_model.proofs.FirmwareTables.{tables-mapped, tables-unmapped}
use Rattle.world_model.proofs.Bases.{bases-mapped_other, bases-unmapped_other, no_image}
use Rattle.world_model.proofs.ImageLists.{all_between, is_between}
use Rattle.world_model.proofs.ImageSegments.{ListsHaveStacks, blocks-mapped, blocks-unmapped, entry_points-mapped, entry_points-unmapped, lists-unmapped_other}
use Rattle.world_model.proofs.ThunkTargets.{targets-mapped, targets-unmapped_other}

-- ---- setting

pub fitting : PathFits
fitting soft bytes none few =
    let new = path_segment bytes in
    let apart : list_any (λ (other : Segment). meets new other) soft.memory ≡ false =
    list_any-none is_beside_path (λ (other : Segment). meets new other) soft.memory
    (λ s beside. elim (or_cases (nat_le (end_of s) COMMAND_PATH) (nat_le TABLES_END s.base) beside) [
      | inl before ↦ let end : end_of s ≤ COMMAND_PATH = grind (arith, nat_tests, before) in meets-apart new s (inr end)
      | inr after ↦ let from : TABLES_END ≤ s.base = grind (arith, nat_tests, after) in meets-apart new s (inl (omega arith))
    ])
    none in
    map-fits soft.memory new (omega arith) apart refl

-- a path is no list of children
lists-with_path : (bytes : List ℕ) (memory : List Segment) → ListsHaveStacks memory → ListsHaveStacks (mapped (path_segment bytes) memory)
lists-with_path bytes memory stand level to has =
    let new = path_segment bytes in
    let list = λ (s : Segment). nat_eq s.base (list_base level) && is_of kind.Table s in
    let stack = λ (s : Segment). nat_eq s.base (stack_base level) && is_of kind.Stack s in
    let no : nat_eq COMMAND_PATH (list_base level) ≡ false = grind (arith, nat_tests) in
    let not_new : list new ≡ false = and_left (nat_eq COMMAND_PATH (list_base level)) (is_of kind.Table new) no in
    let there : has_stack level memory ≡ true = stand level to (ap (λ b. b || has_list level memory) (sym not_new) ∙ sym (list_any-mapped list new memory) ∙ has) in
    list_any-mapped stack new memory ∙ or_right (stack new) (has_stack level memory) there

pub setting : PathSettingKeeps
setting soft bytes kept none few =
    let memory = soft.memory in
    let new = path_segment bytes in
    let right : is_placed soft.next_image soft.next_block new ≡ true = placed soft.next_image soft.next_block (length bytes) few in
    record {
      memory = record {
        apart = lie_from-mapped_apart new memory kept.memory.apart (free-overlap memory new (fitting soft bytes none few));
        placed =
            list_all-mapped (is_placed soft.next_image soft.next_block) new memory
            ∙ and_from (is_placed soft.next_image soft.next_block new) (list_all (is_placed soft.next_image soft.next_block) memory) right kept.memory.placed;
        tables = tables-mapped memory new kept.memory.tables (omega arith);
        lists = lists-with_path bytes memory kept.memory.lists;
      };
      images = record {
        segments = bases-mapped_other kind.Image new memory refl ∙ kept.images.segments;
        entry_points = entry_points-mapped new memory soft.images kept.images.entry_points;
        blocks = blocks-mapped new memory soft.images kept.images.blocks;
        rising = kept.images.rising;
      };
      database = kept.database;
      thunks = record {
        targets = targets-mapped new memory soft.thunks kept.thunks.targets;
        numbers = kept.thunks.numbers;
      };
      records = kept.records;
      children = kept.children;
      ranges = kept.ranges;
    }
  where
    placed : (image block size : ℕ) → size ≤ path_room → is_in_region image block kind.Table COMMAND_PATH size ≡ true
    placed image block size few = grind (arith, nat_tests)

pub setting_keeps_stacks : PathSettingKeepsStacks
setting_keeps_stacks soft bytes = bases-mapped_other kind.Stack (path_segment bytes) soft.memory refl

pub set_is_alone : SetPathIsAlone
set_is_alone soft bytes none =
    let new = path_segment bytes in
    let here : is_path_or_beside new ≡ true = or_left (nat_eq COMMAND_PATH COMMAND_PATH) (is_beside_path new) refl in
    let others = list_all-mono is_beside_path is_path_or_beside soft.memory (λ s beside. or_right (nat_eq s.base COMMAND_PATH) (is_beside_path s) beside) none in
    list_all-mapped is_path_or_beside new soft.memory ∙ and_from (is_path_or_beside new) (list_all is_path_or_beside soft.memory) here others

-- ---- clearing

pub clearing : PathClearingKeeps
clearing soft kept =
    let memory = soft.memory in
    let within = is_between 3 FIRST_IMAGE FIRST_BLOCK soft.database.next soft.next_image soft.next_block in
    let between = all_between 3 FIRST_IMAGE FIRST_BLOCK soft.images soft.database.next soft.next_image soft.next_block kept.images.rising in
    let bases : list_all (λ (i : LoadedImage). not (nat_eq i.base COMMAND_PATH)) soft.images ≡ true =
    list_all-mono within (λ (i : LoadedImage). not (nat_eq i.base COMMAND_PATH)) soft.images (λ i lies. grind (arith, nat_tests)) between in
    let blocks : list_all (λ (i : LoadedImage). not (nat_eq i.block COMMAND_PATH)) soft.images ≡ true =
    list_all-mono within (λ (i : LoadedImage). not (nat_eq i.block COMMAND_PATH)) soft.images (λ i lies. grind (arith, nat_tests)) between in
    let none : begins kind.Image COMMAND_PATH memory ≡ false = no_image soft.next_image soft.next_block COMMAND_PATH memory kept.memory.placed (inl (omega arith)) in
    record {
      memory = record {
        apart = lie_from-unmapped 0 memory COMMAND_PATH kept.memory.apart;
        placed = list_all-unmapped (is_placed soft.next_image soft.next_block) COMMAND_PATH memory kept.memory.placed;
        tables = tables-unmapped memory COMMAND_PATH kept.memory.tables (omega arith);
        lists = lists-unmapped_other COMMAND_PATH memory (λ level to. no_stack_there level) kept.memory.lists;
      };
      images = record {
        segments = bases-unmapped_other kind.Image COMMAND_PATH memory none ∙ kept.images.segments;
        entry_points = entry_points-unmapped COMMAND_PATH memory soft.images bases kept.images.entry_points;
        blocks = blocks-unmapped COMMAND_PATH memory soft.images blocks kept.images.blocks;
        rising = kept.images.rising;
      };
      database = kept.database;
      thunks = record {
        targets = targets-unmapped_other COMMAND_PATH memory soft.thunks none kept.thunks.targets;
        numbers = kept.thunks.numbers;
      };
      records = kept.records;
      children = kept.children;
      ranges = kept.ranges;
    }
  where
    no_stack_there : (level : ℕ) → nat_eq (stack_base level) COMMAND_PATH ≡ false
    no_stack_there level = grind (arith, nat_tests)

-- no stack begins at the path
no_stack : (image block : ℕ) (segments : List Segment) → list_all (is_placed image block) segments ≡ true → begins kind.Stack COMMAND_PATH segments ≡ false
no_stack image block [] placed = refl
no_stack image block (s ∷ rest) placed =
    let parts = and_parts (is_placed image block s) (list_all (is_placed image block) rest) placed in
    or_from (nat_eq s.base COMMAND_PATH && is_of kind.Stack s) (begins kind.Stack COMMAND_PATH rest) (other image block s.kind s.base (length s.bytes) parts.0) (no_stack image block rest parts.1)
  where
    other : (image block : ℕ) (of : SegKind) (base size : ℕ) → is_in_region image block of base size ≡ true → (nat_eq base COMMAND_PATH && nat_eq (kind_number of) 3) ≡ false
    other image block kind.Stack base size right = grind (arith, nat_tests)
    other image block kind.Image base size right = and_right (nat_eq base COMMAND_PATH) false refl
    other image block kind.Pool base size right = and_right (nat_eq base COMMAND_PATH) false refl
    other image block kind.Firmware base size right = and_right (nat_eq base COMMAND_PATH) false refl
    other image block kind.Table base size right = and_right (nat_eq base COMMAND_PATH) false refl

pub clearing_keeps_stacks : PathClearingKeepsStacks
clearing_keeps_stacks soft kept =
    bases-unmapped_other kind.Stack COMMAND_PATH soft.memory (no_stack soft.next_image soft.next_block soft.memory kept.memory.placed)

-- segments that lie after the path's address have no path among them
beside_after : (from : ℕ) (segments : List Segment) → lie_from from segments ≡ true → COMMAND_PATH < from → list_all is_path_or_beside segments ≡ true → list_all is_beside_path segments ≡ true
beside_after from [] lies after all = refl
beside_after from (s ∷ rest) lies after all =
    let order = and_parts (nat_le from s.base) (lie_from (end_of s) rest) lies in
    let parts = and_parts (is_path_or_beside s) (list_all is_path_or_beside rest) all in
    let from_here : from ≤ s.base = grind (arith, nat_tests, order.0) in
    let other : nat_eq s.base COMMAND_PATH ≡ false = grind (arith, nat_tests) in
    let here : is_beside_path s ≡ true = ap (λ b. b || is_beside_path s) (sym other) ∙ parts.0 in
    and_from (is_beside_path s) (list_all is_beside_path rest) here (beside_after (end_of s) rest order.1 (omega arith) parts.1)

none_left : (from : ℕ) (segments : List Segment) → lie_from from segments ≡ true → list_all is_path_or_beside segments ≡ true → list_all is_beside_path (unmapped segments COMMAND_PATH) ≡ true
none_left from [] lies all = refl
none_left from (s ∷ rest) lies all =
    let order = and_parts (nat_le from s.base) (lie_from (end_of s) rest) lies in
    let parts = and_parts (is_path_or_beside s) (list_all is_path_or_beside rest) all in
    by_head (nat_eq s.base COMMAND_PATH) refl order.1 parts.0 parts.1 (none_left (end_of s) rest order.1 parts.1)
  where
    by_head : (here : Bool) → nat_eq s.base COMMAND_PATH ≡ here → lie_from (end_of s) rest ≡ true → (here || is_beside_path s) ≡ true → list_all is_path_or_beside rest ≡ true
        → list_all is_beside_path (unmapped rest COMMAND_PATH) ≡ true → list_all is_beside_path (cond here rest (s ∷ unmapped rest COMMAND_PATH)) ≡ true
    by_head true is lies one others later = let same : s.base ≡ COMMAND_PATH = eqb-true s.base COMMAND_PATH is in beside_after (end_of s) rest lies (omega arith) others
    by_head false is lies one others later = and_from (is_beside_path s) (list_all is_beside_path (unmapped rest COMMAND_PATH)) one later

pub clearing_leaves_none : ClearingLeavesNoPath
clearing_leaves_none soft kept all = none_left 0 soft.memory kept.memory.apart all
