-- Which stacks may be there, and how many marks may be open, while something runs at a level; and what
-- holds between commands. A level is given by `left`, the number of levels that may still be entered after
-- it.
use Rattle.std.specs.Prelude.{◌≡◌, ◌<◌, ◌≤◌, ℕ, ◌+◌, ◌-◌, ◌*◌, Bool, true, false, ◌&&◌, nat_le, List, [], ◌∷◌, length, Option}
use Rattle.std.specs.List.{list_all}
use Rattle.pci_model.specs.Devices.{BoardState}
use Rattle.fw_types.specs.declared.limits.TheConstants.{MOST_LEVELS, MOST_MARKS}
use Rattle.guest_memory.specs.declared.address_map.TheConstants.{STACK_SIZE}
use Rattle.world_model.specs.World.{Soft, WorldView}
use Rattle.world_model.specs.Marks.{stacks}
use Rattle.world_model.specs.Stacks.{has_stack, is_marked_stack, stack_base, stack_pushed}
use Rattle.world_model.specs.Opening.{opening}
use Rattle.world_model.specs.Kept.{IsKept}

-- ---- stacks

-- whether a stack lies so many levels before the last one
abbrev pub leaves_levels : (left base : ℕ) → Bool
leaves_levels left base = nat_le (base + STACK_SIZE * left) (stack_base MOST_LEVELS)

abbrev pub all_leave_levels : (left : ℕ) → List ℕ → Bool
all_leave_levels left bases = list_all (leaves_levels left) bases

-- Whether no level that may still be entered has a stack, neither now, with stacks at these addresses, nor
-- in what an open mark keeps.
unfoldable pub is_free : (left : ℕ) → List ℕ → List Soft → Bool
is_free left bases marks = all_leave_levels left bases && list_all (λ (soft : Soft). all_leave_levels left (stacks soft)) marks

-- the next level has no stack, and no open mark keeps one of it
abbrev pub NextIsFree : Type 0
NextIsFree =
    (left : ℕ) (soft : Soft) (marks : List Soft) → left < MOST_LEVELS → is_free (left + 1) (stacks soft) marks ≡ true
    → (has_stack (MOST_LEVELS - left) soft.memory ≡ false) × (is_marked_stack (MOST_LEVELS - left) marks ≡ false)

-- after the stack of the next level is pushed, the levels after that one are free
abbrev pub PushingLeavesFree : Type 0
PushingLeavesFree =
    (left : ℕ) (soft : Soft) (slots children : List ℕ) (marks : List Soft) → left < MOST_LEVELS → IsKept soft → is_free (left + 1) (stacks soft) marks ≡ true
    → is_free left (stacks (stack_pushed (MOST_LEVELS - left) slots children soft)) marks ≡ true

-- what is free at a level is free at the next one
abbrev pub DeeperIsFree : Type 0
DeeperIsFree = (left : ℕ) (bases : List ℕ) (marks : List Soft) → is_free (left + 1) bases marks ≡ true → is_free left bases marks ≡ true

-- a mark keeps the stacks that are there, so it leaves all free that was
abbrev pub MarkingLeavesFree : Type 0
MarkingLeavesFree = (left : ℕ) (soft : Soft) (marks : List Soft) → is_free left (stacks soft) marks ≡ true → is_free left (stacks soft) (soft ∷ marks) ≡ true

-- ---- marks

-- the most marks that are ever open: three for each level, and four more
abbrev pub most_open : ℕ
most_open = 3 * MOST_LEVELS + 4

-- Whether so few marks are open that each level that may still be entered can open three, and what runs
-- now can open so many more.
unfoldable pub has_marks : (spare left : ℕ) → List Soft → Bool
has_marks spare left marks = nat_le (length marks + spare + 3 * left) most_open

-- what has marks to spare has enough without any to spare
abbrev pub SparesAreEnough : Type 0
SparesAreEnough = (left : ℕ) (marks : List Soft) → has_marks 2 left marks ≡ true → has_marks 0 left marks ≡ true

-- what has some to spare also has any smaller number to spare
abbrev pub FewerToSpare : Type 0
FewerToSpare = (fewer spare left : ℕ) (marks : List Soft) → fewer ≤ spare → has_marks spare left marks ≡ true → has_marks fewer left marks ≡ true

-- what has enough at a level has enough at the next one
abbrev pub DeeperHasMarks : Type 0
DeeperHasMarks = (spare left : ℕ) (marks : List Soft) → has_marks spare (left + 1) marks ≡ true → has_marks spare left marks ≡ true

-- at the next level, after its mark is made, two are left to spare
abbrev pub CallHasMarks : Type 0
CallHasMarks =
    (left : ℕ) (soft : Soft) (marks : List Soft) → has_marks 0 (left + 1) marks ≡ true → (has_marks 2 left (soft ∷ marks) ≡ true) × (length marks < MOST_MARKS)

-- after one of two to spare is made, the levels have enough
abbrev pub SpareIsMade : Type 0
SpareIsMade =
    (left : ℕ) (soft : Soft) (marks : List Soft) → has_marks 2 left marks ≡ true → (has_marks 0 left (soft ∷ marks) ≡ true) × (length marks < MOST_MARKS)

-- ---- between commands

-- no stack is there, and no mark is open
pub record IsAtRest (w : WorldView) : Type 0 where
  pub no_stack : stacks w.now.soft ≡ []
  pub no_mark : w.marks ≡ []

abbrev pub OpeningIsAtRest : Type 0
OpeningIsAtRest = (board : BoardState) (roms : List (Option (List ℕ))) → IsAtRest (opening board roms)

-- all levels are free then, and there are four marks to spare
abbrev pub RestIsFree : Type 0
RestIsFree = (w : WorldView) → IsAtRest w → is_free MOST_LEVELS (stacks w.now.soft) w.marks ≡ true

abbrev pub RestHasMarks : Type 0
RestHasMarks = (w : WorldView) → IsAtRest w → has_marks 4 MOST_LEVELS w.marks ≡ true
