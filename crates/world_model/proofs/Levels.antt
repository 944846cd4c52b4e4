-- Stacks and marks at a level and between commands.
use Rattle.std.proofs.Common.{◌≡◌, ◌<◌, ℕ, ◌+◌, ◌-◌, ◌*◌, Bool, true, false, nat_eq, nat_lt, List, [], ◌∷◌, refl, ◌∙◌, arith}
use Rattle.std.specs.Prelude.{if◌then◌else◌}
use Rattle.std.specs.List.{list_all, list_any}
use Rattle.std.proofs.lemmas.Bool.{and_from, and_parts}
use Rattle.std.proofs.lemmas.Bool.Decides.{nat_tests}
use Rattle.fw_types.specs.declared.limits.TheConstants.{MOST_LEVELS}
use Rattle.guest_memory.specs.declared.address_map.TheConstants.{STACK_SIZE}
use Rattle.world_model.specs.World.{Soft}
use Rattle.world_model.specs.Marks.{stacks}
use Rattle.world_model.specs.Stacks.{has_stack, is_marked_stack, stack_base}
use Rattle.world_model.specs.StackLaws.{inserted}
use Rattle.world_model.specs.Levels.{CallHasMarks, DeeperHasMarks, DeeperIsFree, FewerToSpare, MarkingLeavesFree, NextIsFree, PushingLeavesFree, RestHasMarks, RestIsFree, SpareIsMade, SparesAreEnough, all_leave_levels, has_marks, is_free, leaves_levels}
use Rattle.world_model.proofs.StackLaws.{pushing, stack_of_level}

-- ---- stacks

-- whether a soft part that a mark keeps leaves so many levels
abbrev kept_leaves : ℕ → Soft → Bool
kept_leaves left soft = all_leave_levels left (stacks soft)

-- the stack of the next level ends at the address at which the last ones begin
next_base : (left : ℕ) → left < MOST_LEVELS → stack_base (MOST_LEVELS - left) + STACK_SIZE * left ≡ stack_base MOST_LEVELS
next_base left more = omega (arith, more)

no_base : (left : ℕ) (bases : List ℕ) → left < MOST_LEVELS → all_leave_levels (left + 1) bases ≡ true → list_any (λ (base : ℕ). nat_eq base (stack_base (MOST_LEVELS - left))) bases ≡ false
no_base left [] more all = refl
no_base left (base ∷ bases) more all =
    let parts = and_parts (leaves_levels (left + 1) base) (all_leave_levels (left + 1) bases) all in
    let other : nat_eq base (stack_base (MOST_LEVELS - left)) ≡ false = grind (arith, nat_tests, parts.0, more) in
    rw other (no_base left bases more parts.1)

no_marked : (left : ℕ) (marks : List Soft) → left < MOST_LEVELS → list_all (kept_leaves (left + 1)) marks ≡ true → is_marked_stack (MOST_LEVELS - left) marks ≡ false
no_marked left [] more all = refl
no_marked left (soft ∷ marks) more all =
    let parts = and_parts (kept_leaves (left + 1) soft) (list_all (kept_leaves (left + 1)) marks) all in
    let none : has_stack (MOST_LEVELS - left) soft.memory ≡ false = stack_of_level soft (MOST_LEVELS - left) ∙ no_base left (stacks soft) more parts.0 in
    rw none (no_marked left marks more parts.1)

pub next_is_free : NextIsFree
unfolding is_free
next_is_free left soft marks more free =
    let parts = and_parts (all_leave_levels (left + 1) (stacks soft)) (list_all (kept_leaves (left + 1)) marks) free in
    (stack_of_level soft (MOST_LEVELS - left) ∙ no_base left (stacks soft) more parts.0, no_marked left marks more parts.1)

-- fewer levels are left as well
leave_fewer : (left : ℕ) (bases : List ℕ) → all_leave_levels (left + 1) bases ≡ true → all_leave_levels left bases ≡ true
leave_fewer left [] all = refl
leave_fewer left (base ∷ bases) all =
    let parts = and_parts (leaves_levels (left + 1) base) (all_leave_levels (left + 1) bases) all in
    let one : leaves_levels left base ≡ true = grind (arith, nat_tests, parts.0) in
    and_from (leaves_levels left base) (all_leave_levels left bases) one (leave_fewer left bases parts.1)

kept_leave_fewer : (left : ℕ) (marks : List Soft) → list_all (kept_leaves (left + 1)) marks ≡ true → list_all (kept_leaves left) marks ≡ true
kept_leave_fewer left [] all = refl
kept_leave_fewer left (soft ∷ marks) all =
    let parts = and_parts (kept_leaves (left + 1) soft) (list_all (kept_leaves (left + 1)) marks) all in
    and_from (kept_leaves left soft) (list_all (kept_leaves left) marks) (leave_fewer left (stacks soft) parts.0) (kept_leave_fewer left marks parts.1)

pub deeper_is_free : DeeperIsFree
unfolding is_free
deeper_is_free left bases marks free =
    let parts = and_parts (all_leave_levels (left + 1) bases) (list_all (kept_leaves (left + 1)) marks) free in
    and_from (all_leave_levels left bases) (list_all (kept_leaves left) marks) (leave_fewer left bases parts.0) (kept_leave_fewer left marks parts.1)

leave-inserted : (left new : ℕ) (bases : List ℕ) → leaves_levels left new ≡ true → all_leave_levels left bases ≡ true → all_leave_levels left (inserted new bases) ≡ true
leave-inserted left new [] one all = and_from (leaves_levels left new) true one refl
leave-inserted left new (base ∷ bases) one all =
    let parts = and_parts (leaves_levels left base) (all_leave_levels left bases) all in
    by_order (nat_lt base new) parts.0 (leave-inserted left new bases one parts.1)
  where
    by_order : (before : Bool) → leaves_levels left base ≡ true → all_leave_levels left (inserted new bases) ≡ true
        → all_leave_levels left (if before then base ∷ inserted new bases else new ∷ base ∷ bases) ≡ true
    by_order true here later = and_from (leaves_levels left base) (all_leave_levels left (inserted new bases)) here later
    by_order false here later = and_from (leaves_levels left new) (all_leave_levels left (base ∷ bases)) one all

pub pushing_leaves_free : PushingLeavesFree
unfolding is_free
pushing_leaves_free left soft slots children marks more kept free =
    let parts = and_parts (all_leave_levels (left + 1) (stacks soft)) (list_all (kept_leaves (left + 1)) marks) free in
    let new = stack_base (MOST_LEVELS - left) in
    let one : leaves_levels left new ≡ true = grind (arith, nat_tests, next_base left more) in
    rw (pushing soft (MOST_LEVELS - left) slots children kept)
    (and_from (all_leave_levels left (inserted new (stacks soft))) (list_all (kept_leaves left) marks)
    (leave-inserted left new (stacks soft) one (leave_fewer left (stacks soft) parts.0)) (kept_leave_fewer left marks parts.1))

pub marking_leaves_free : MarkingLeavesFree
unfolding is_free
marking_leaves_free left soft marks free =
    let parts = and_parts (all_leave_levels left (stacks soft)) (list_all (kept_leaves left) marks) free in
    and_from (all_leave_levels left (stacks soft)) (list_all (kept_leaves left) (soft ∷ marks)) parts.0
    (and_from (kept_leaves left soft) (list_all (kept_leaves left) marks) parts.0 parts.1)

-- ---- marks

pub spares_are_enough : SparesAreEnough
unfolding has_marks
spares_are_enough left marks has = grind (arith, nat_tests)

pub fewer_to_spare : FewerToSpare
unfolding has_marks
fewer_to_spare fewer spare left marks few has = grind (arith, nat_tests)

pub deeper_has_marks : DeeperHasMarks
unfolding has_marks
deeper_has_marks spare left marks has = grind (arith, nat_tests)

pub call_has_marks : CallHasMarks
unfolding has_marks
call_has_marks left soft marks has = (grind (arith, nat_tests), grind (arith, nat_tests))

pub spare_is_made : SpareIsMade
unfolding has_marks
spare_is_made left soft marks has = (grind (arith, nat_tests), grind (arith, nat_tests))

-- ---- between commands

pub rest_is_free : RestIsFree
unfolding is_free
rest_is_free w rest = rw (rest.no_stack, rest.no_mark) refl

pub rest_has_marks : RestHasMarks
unfolding has_marks
rest_has_marks w rest = rw rest.no_mark refl
