-- A mark that is older than a large block does not need the block's bytes.
use Rattle.std.proofs.Common.{◌≡◌, ◌≤◌, ℕ, Bool, true, false, not, ◌&&◌, nat_eq, nat_lt, List, [], ◌∷◌, length, take, refl, sym, ap, subst, ◌∙◌, arith}
use Rattle.std.specs.Prelude.{Ok, Err, Result, if◌then◌else◌}
use Rattle.std.specs.List.{list_any}
use Rattle.std.proofs.lemmas.Bool.{and_parts, or_right}
use Rattle.std.proofs.lemmas.Bool.Decides.{nat_tests}
use Rattle.guest_memory.specs.declared.segment.Segment.{Segment}
use Rattle.guest_memory.specs.declared.segment.SegKind.{SegKind}
use Rattle.guest_memory.specs.declared.segment.SegKind.TheVariants as kind
use Rattle.guest_memory.specs.Segment.{has_bytes, is_image}
use Rattle.guest_memory.specs.GuestMemory.{begins, is_of, kind_number, lie_from, mapped, unmapped}
use Rattle.guest_memory.proofs.MappingLemmas.{unmapped_takes_back_mapped}
use Rattle.guest_memory.proofs.SegmentLemmas.{lie_from-unmapped}
use Rattle.world_model.specs.declared.change.Change.{Change}
use Rattle.world_model.specs.declared.change.Change.TheVariants.{SetTpl, Write, Put, Allot, Free, Install, Uninstall, DropImage, AddImage, MakeThunk, NoteChild, SetBusList}
use Rattle.world_model.specs.declared.fault.WorldFault.{WorldFault}
use Rattle.world_model.specs.declared.fault.WorldFault.TheVariants.{NotThere}
use Rattle.world_model.specs.declared.image.LoadedImage.{LoadedImage}
use Rattle.world_model.specs.declared.thunk.Thunk.{Thunk}
use Rattle.world_model.specs.World.{Soft, with_memory}
use Rattle.world_model.specs.Blocks.{free_answer, is_image_block}
use Rattle.world_model.specs.Images.{block_size}
use Rattle.world_model.specs.Marks.{stacks}
use Rattle.world_model.specs.Stacks.{list_base, stack_base}
use Rattle.world_model.specs.Tables.{tables}
use Rattle.world_model.specs.Kept.{IsKept, enters_image, has_block, has_entry}
use Rattle.world_model.specs.Undo.{later_levels, taken_back, undone}
use Rattle.world_model.specs.UndoLaws.{CanTakeBack, CanUndo, IsNoted}
use Rattle.world_model.specs.BlockBytes.{EmptiedBesideStacks, EmptyFreeIsNoted, EmptyingKeeps, UndoneWithoutBytes, block_emptied, emptied, is_large_block}
use Rattle.world_model.proofs.Segments.{list_all-mono, list_any-mapped}
use Rattle.world_model.proofs.ThunkTargets.{has_code, is_some-find}
use Rattle.world_model.proofs.UndoNoted.{free_is_noted}
use Rattle.world_model.proofs.UndoStacks.{stays}
use Rattle.world_model.proofs.EmptiedSegments.{all_emptied, any-emptied, at-emptied, bases-emptied, beginning-emptied, front-emptied, is-same, lie_from-emptied, mapped-emptied, none-emptied, none_large, not_twice, placed-emptied, put_if_there-emptied, unmapped-emptied, unmapped-large}

-- ---- what holds of every soft part

-- a block is of the pool, and of no other kind
other_kind : (of wanted : SegKind) → nat_eq (kind_number of) (kind_number kind.Pool) ≡ true → nat_eq (kind_number wanted) (kind_number kind.Pool) ≡ false → nat_eq (kind_number of) (kind_number wanted) ≡ false
other_kind of wanted is other = grind (arith, nat_tests)

not_code : (of : SegKind) → nat_eq (kind_number of) (kind_number kind.Pool) ≡ true → is_image of ≡ false
not_code kind.Pool is = refl
not_code kind.Firmware is = refl
not_code kind.Image is = absurd cc
not_code kind.Stack is = refl
not_code kind.Table is = refl

is_pool : (at : ℕ) (s : Segment) → is_large_block at s ≡ true → is_of kind.Pool s ≡ true
is_pool at s large = (and_parts (is_of kind.Pool s) (nat_eq s.base at && nat_lt block_size (length s.bytes)) large).0

-- what begins of a kind at an address
begins-emptied : (of : SegKind) (base at : ℕ) (memory : List Segment) → begins of base (all_emptied at memory) ≡ begins of base memory
begins-emptied of base at memory = any-emptied (λ (s : Segment). nat_eq s.base base && is_of of s) at memory (λ s large. refl)

entries-emptied : (at : ℕ) (memory : List Segment) (image : LoadedImage) → has_entry (all_emptied at memory) image ≡ has_entry memory image
entries-emptied at memory image =
    any-emptied (λ (s : Segment). nat_eq s.base image.base && is_of kind.Image s && has_bytes s image.entry 1) at memory
    (λ s large.
    let other : is_of kind.Image s ≡ false = other_kind s.kind kind.Image (is_pool at s large) refl in
    grind (arith, other))

blocks-emptied : (at : ℕ) (memory : List Segment) (image : LoadedImage) → has_block (all_emptied at memory) image ≡ has_block memory image
blocks-emptied at memory image =
    any-emptied (λ (s : Segment). nat_eq s.base image.block && is_of kind.Pool s && nat_eq (length s.bytes) block_size) at memory
    (λ s large.
    let own = (and_parts (is_of kind.Pool s) (nat_eq s.base at && nat_lt block_size (length s.bytes)) large).1 in
    let more = (and_parts (nat_eq s.base at) (nat_lt block_size (length s.bytes)) own).1 in
    let other : nat_eq (length s.bytes) block_size ≡ false = grind (arith, nat_tests) in
    grind (arith, other))

targets-emptied : (at : ℕ) (memory : List Segment) (thunk : Thunk) → enters_image (all_emptied at memory) thunk ≡ enters_image memory thunk
targets-emptied at memory thunk =
    is_some-find (has_code thunk.entry) (all_emptied at memory)
    ∙ any-emptied (has_code thunk.entry) at memory (λ s large. let other : is_image s.kind ≡ false = not_code s.kind (is_pool at s large) in rw other refl)
    ∙ sym (is_some-find (has_code thunk.entry) memory)

pub emptying_keeps : EmptyingKeeps
emptying_keeps soft at kept =
    let memory = soft.memory in
    record {
      memory = record {
        apart = lie_from-emptied 0 0 at memory (omega arith) kept.memory.apart;
        placed = placed-emptied soft.next_image soft.next_block at memory kept.memory.placed;
        tables = front-emptied 4 at memory tables kept.memory.tables refl;
        lists = λ level to has.
            begins-emptied kind.Stack (stack_base level) at memory ∙ kept.memory.lists level to (sym (begins-emptied kind.Table (list_base level) at memory) ∙ has);
      };
      images = record {
        segments = bases-emptied kind.Image at memory ∙ kept.images.segments;
        entry_points = list_all-mono (has_entry memory) (has_entry (all_emptied at memory)) soft.images (λ image has. entries-emptied at memory image ∙ has) kept.images.entry_points;
        blocks = list_all-mono (has_block memory) (has_block (all_emptied at memory)) soft.images (λ image has. blocks-emptied at memory image ∙ has) kept.images.blocks;
        rising = kept.images.rising;
      };
      database = kept.database;
      thunks = record {
        targets = list_all-mono (enters_image memory) (enters_image (all_emptied at memory)) soft.thunks (λ thunk has. targets-emptied at memory thunk ∙ has) kept.thunks.targets;
        numbers = kept.thunks.numbers;
      };
      records = kept.records;
      children = kept.children;
      ranges = kept.ranges;
    }

pub emptied_beside_stacks : EmptiedBesideStacks
emptied_beside_stacks soft at levels = ap (λ (memory : List Segment). with_memory memory soft) (at-emptied (stays (later_levels levels)) at soft.memory)

-- ---- freeing

-- a block is freed at the address at which it begins, whatever bytes it has
same_answer : (there also other : Bool) → also ≡ there → ◌≡◌ {A = Result Unit WorldFault} (if there && not other then Ok tt else Err NotThere) (Ok tt)
    → ◌≡◌ {A = Result Unit WorldFault} (if also && not other then Ok tt else Err NotThere) (Ok tt)
same_answer there also other same done = rw same done

pub empty_free_is_noted : EmptyFreeIsNoted
empty_free_is_noted soft at of segment kept is done found large =
    let memory = soft.memory in
    let answer : free_answer at of (block_emptied at soft) ≡ Ok tt =
    same_answer (begins of at memory) (begins of at (all_emptied at memory)) (is_image_block at soft.images) (begins-emptied of at at memory) done in
    let same : unmapped (all_emptied at memory) at ≡ unmapped memory at = unmapped-emptied at at memory ∙ none-emptied at (unmapped memory at) (unmapped-large 0 at memory kept.memory.apart) in
    subst (λ (left : List Segment). IsNoted (Free (emptied segment)) (block_emptied at soft) (with_memory left soft)) same
    (free_is_noted (block_emptied at soft) at of (emptied segment) (emptying_keeps soft at kept) is answer (beginning-emptied at memory segment found large))

-- ---- taking back

-- while the block is there, what a change maps again is not the block
pub taken_emptied : (change : Change) (soft : Soft) (at : ℕ) → lie_from 0 soft.memory ≡ true → lie_from 0 (taken_back change soft).memory ≡ true → list_any (is_large_block at) soft.memory ≡ true
    → taken_back change (block_emptied at soft) ≡ block_emptied at (taken_back change soft)
unfolding taken_back
taken_emptied (SetTpl before) soft at lies still there = refl
taken_emptied (Write to n before) soft at lies still there = ap (λ (memory : List Segment). with_memory memory soft) (put_if_there-emptied at to (take n before) soft.memory lies)
taken_emptied (Put to before) soft at lies still there = ap (λ (memory : List Segment). with_memory memory soft) (put_if_there-emptied at to before soft.memory lies)
taken_emptied (Allot base) soft at lies still there = ap (λ (memory : List Segment). record soft { memory = memory; next_block = base }) (unmapped-emptied at base soft.memory)
taken_emptied (Free segment) soft at lies still there =
    ap (λ (memory : List Segment). with_memory memory soft) (mapped-emptied at segment soft.memory (is-same at segment (not_twice 0 at segment soft.memory still there)))
taken_emptied (Install handle guid made) soft at lies still there = refl
taken_emptied (Uninstall went) soft at lies still there = refl
taken_emptied (DropImage dropped) soft at lies still there =
    let more = mapped dropped.block soft.memory in
    let order : lie_from 0 more ≡ true = ap (lie_from 0) (sym (unmapped_takes_back_mapped more dropped.segment)) ∙ lie_from-unmapped 0 (mapped dropped.segment more) dropped.segment.base still in
    let block = is-same at dropped.block (not_twice 0 at dropped.block soft.memory order there) in
    let also : list_any (is_large_block at) more ≡ true = list_any-mapped (is_large_block at) dropped.block soft.memory ∙ or_right (is_large_block at dropped.block) (list_any (is_large_block at) soft.memory) there in
    let image = is-same at dropped.segment (not_twice 0 at dropped.segment more still also) in
    ap (λ (memory : List Segment). record (taken_back (DropImage dropped) soft) { memory = memory })
    (ap (mapped dropped.segment) (mapped-emptied at dropped.block soft.memory block) ∙ mapped-emptied at dropped.segment more image)
taken_emptied (AddImage image) soft at lies still there =
    ap (λ (memory : List Segment). record (taken_back (AddImage image) soft) { memory = memory })
    (ap (λ (memory : List Segment). unmapped memory image.block) (unmapped-emptied at image.base soft.memory) ∙ unmapped-emptied at image.block (unmapped soft.memory image.base))
taken_emptied MakeThunk soft at lies still there = refl
taken_emptied (NoteChild count) soft at lies still there = refl
taken_emptied (SetBusList function before) soft at lies still there = refl

-- a soft part without the block is as it is
nothing_emptied : (soft : Soft) (at : ℕ) → list_any (is_large_block at) soft.memory ≡ false → block_emptied at soft ≡ soft
nothing_emptied soft at none = ap (λ (memory : List Segment). with_memory memory soft) (none-emptied at soft.memory none)

stacks-emptied : (soft : Soft) (at : ℕ) → stacks (block_emptied at soft) ≡ stacks soft
stacks-emptied soft at = bases-emptied kind.Stack at soft.memory

can_still : (change : Change) (soft : Soft) (at : ℕ) → CanTakeBack change soft → taken_back change (block_emptied at soft) ≡ block_emptied at (taken_back change soft) → CanTakeBack change (block_emptied at soft)
can_still change soft at can same = record {
  kept = subst IsKept (sym same) (emptying_keeps (taken_back change soft) at can.kept);
  stacks = ap stacks same ∙ stacks-emptied (taken_back change soft) at ∙ can.stacks ∙ sym (stacks-emptied soft at);
  rises = subst (λ (next : ℕ). next ≤ soft.next_block) (sym (ap (λ (s : Soft). s.next_block) same)) can.rises;
  fits = can.fits;
  beside = can.beside;
}

pub undone_without_bytes : UndoneWithoutBytes
unfolding undone
undone_without_bytes [] soft at kept can le = (tt, nothing_emptied soft at (none_large soft.next_image soft.next_block at soft.memory le kept.memory.placed))
undone_without_bytes (change ∷ changes) soft at kept can le = by_block (list_any (is_large_block at) soft.memory) refl (undone_without_bytes changes (taken_back change soft) at can.0.kept can.1 le)
  where
    by_block : (there : Bool) → list_any (is_large_block at) soft.memory ≡ there
        → CanUndo changes (block_emptied at (taken_back change soft)) × (undone changes (block_emptied at (taken_back change soft)) ≡ undone changes (taken_back change soft))
        → CanUndo (change ∷ changes) (block_emptied at soft) × (undone (change ∷ changes) (block_emptied at soft) ≡ undone (change ∷ changes) soft)
    by_block true is later =
        let same = taken_emptied change soft at kept.memory.apart can.0.kept.memory.apart is in
        ((can_still change soft at can.0 same, subst (CanUndo changes) (sym same) later.0), ap (undone changes) same ∙ later.1)
    by_block false is later =
        let same = nothing_emptied soft at is in
        (subst (CanUndo (change ∷ changes)) (sym same) can, ap (undone (change ∷ changes)) same)
