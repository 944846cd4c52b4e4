-- Which stacks are there, as each single change leaves them. A rollback and the calls on stacks require it.
use Rattle.std.specs.Prelude.{◌≡◌, ℕ, ◌≤◌, true, false, not, nat_eq, nat_lt, List, [], ◌∷◌, filter, Ok, if◌then◌else◌}
use Rattle.std.specs.List.{list_any}
use Rattle.guest_memory.specs.declared.segment.SegKind.{SegKind}
use Rattle.guest_memory.specs.Segment.{is_block}
use Rattle.guest_memory.specs.GuestMemory.{put_bytes, written}
use Rattle.fw_types.specs.declared.limits.TheConstants.{MOST_LEVELS}
use Rattle.world_model.specs.World.{Soft, with_memory}
use Rattle.world_model.specs.Blocks.{block_added, block_freed, free_answer}
use Rattle.world_model.specs.Images.{image_added, image_dropped}
use Rattle.world_model.specs.ImageSweep.{image_swept}
use Rattle.world_model.specs.Stacks.{has_stack, stack_base, stack_popped, stack_pushed}
use Rattle.world_model.specs.Marks.{stacks}
use Rattle.world_model.specs.Kept.{IsKept}

-- a level has a stack if one of the stacks begins at its address
abbrev pub StackOfLevel : Type 0
StackOfLevel = (soft : Soft) (level : ℕ) → has_stack level soft.memory ≡ list_any (λ (base : ℕ). nat_eq base (stack_base level)) (stacks soft)

-- ---- changes that leave all stacks

abbrev pub WritingKeepsStacks : Type 0
WritingKeepsStacks = (soft : Soft) (at n value : ℕ) → stacks (with_memory (written soft.memory at n value) soft) ≡ stacks soft

abbrev pub PuttingKeepsStacks : Type 0
PuttingKeepsStacks = (soft : Soft) (at : ℕ) (bytes : List ℕ) → stacks (with_memory (put_bytes soft.memory at bytes) soft) ≡ stacks soft

abbrev pub AllottingKeepsStacks : Type 0
AllottingKeepsStacks = (soft : Soft) (bytes : List ℕ) (kind : SegKind) → is_block kind ≡ true → stacks (block_added bytes kind soft) ≡ stacks soft

abbrev pub FreeingKeepsStacks : Type 0
FreeingKeepsStacks =
    (soft : Soft) (at : ℕ) (kind : SegKind) → IsKept soft → is_block kind ≡ true → free_answer at kind soft ≡ Ok tt → stacks (block_freed at soft) ≡ stacks soft

abbrev pub AddingKeepsStacks : Type 0
AddingKeepsStacks = (soft : Soft) (bytes : List ℕ) (entry subsystem device : ℕ) → stacks (image_added bytes entry subsystem device soft) ≡ stacks soft

abbrev pub DroppingKeepsStacks : Type 0
DroppingKeepsStacks = (soft : Soft) (handle : ℕ) → IsKept soft → stacks (image_dropped handle soft) ≡ stacks soft

abbrev pub SweepingKeepsStacks : Type 0
SweepingKeepsStacks = (soft : Soft) (image : ℕ) → IsKept soft → stacks (image_swept image soft) ≡ stacks soft

-- ---- changes of stacks

-- an address in its place among others that rise
abbrev pub inserted : ℕ → List ℕ → List ℕ
inserted base [] = base ∷ []
inserted base (other ∷ others) = if nat_lt other base then other ∷ inserted base others else base ∷ other ∷ others

abbrev pub PushingAddsStack : Type 0
PushingAddsStack =
    (soft : Soft) (level : ℕ) (slots handles : List ℕ) → IsKept soft → stacks (stack_pushed level slots handles soft) ≡ inserted (stack_base level) (stacks soft)

abbrev pub PoppingTakesStack : Type 0
PoppingTakesStack =
    (soft : Soft) (level : ℕ) → IsKept soft → level ≤ MOST_LEVELS → stacks (stack_popped level soft) ≡ filter (λ (base : ℕ). not (nat_eq base (stack_base level))) (stacks soft)

-- what is pushed is there, and once it is popped the stacks are those from before
abbrev pub PushedStackIsThere : Type 0
PushedStackIsThere = (level : ℕ) (bases : List ℕ) → list_any (λ (base : ℕ). nat_eq base (stack_base level)) (inserted (stack_base level) bases) ≡ true

abbrev pub PoppingUndoesPush : Type 0
PoppingUndoesPush =
    (level : ℕ) (bases : List ℕ) → list_any (λ (base : ℕ). nat_eq base (stack_base level)) bases ≡ false
    → filter (λ (base : ℕ). not (nat_eq base (stack_base level))) (inserted (stack_base level) bases) ≡ bases
