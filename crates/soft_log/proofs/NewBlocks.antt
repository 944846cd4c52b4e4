-- What open marks keep, as a block is freed that is newer than the newest mark, and is noted without its bytes.
use Rattle.std.proofs.Common.{◌≡◌, ◌≤◌, ℕ, Bool, true, false, cond, nat_le, List, [], ◌∷◌, ◌++◌, refl, sym, ap, subst, ◌∙◌, arith}
use Rattle.std.specs.Prelude.{Ok}
use Rattle.std.proofs.lemmas.Bool.{and_parts}
use Rattle.std.proofs.lemmas.Bool.Decides.{nat_tests}
use Rattle.guest_memory.specs.declared.segment.Segment.{Segment}
use Rattle.guest_memory.specs.declared.segment.SegKind.{SegKind}
use Rattle.guest_memory.specs.Segment.{is_block}
use Rattle.guest_memory.specs.GuestMemory.{beginning_at}
use Rattle.undo_log.specs.Log.{Section, noted}
use Rattle.world_model.specs.declared.change.Change.{Change}
use Rattle.world_model.specs.declared.change.Change.TheVariants.{SetTpl, Write, Put, Allot, Free, Install, Uninstall, DropImage, AddImage, MakeThunk, NoteChild, SetBusList}
use Rattle.world_model.specs.World.{Soft}
use Rattle.world_model.specs.Blocks.{block_freed, free_answer}
use Rattle.world_model.specs.Kept.{IsKept}
use Rattle.world_model.specs.Undo.{kept_by, later_levels, taken_back, undone, without_stacks}
use Rattle.world_model.specs.UndoLaws.{CanUndo, IsNoted}
use Rattle.world_model.specs.BlockBytes.{block_emptied, emptied, is_large_block}
use Rattle.world_model.proofs.BlockBytes.{emptied_beside_stacks, empty_free_is_noted, emptying_keeps, undone_without_bytes}
use Rattle.world_model.proofs.UndoNoted.{begins-base, free_is_noted}
use Rattle.world_model.proofs.UndoStacks.{kept-without, later-are_levels}
use Rattle.soft_log.specs.declared.moment.Moment.{Moment}
use Rattle.soft_log.specs.Keeping.{AreKept, IsMomentOf, is_new_block, kept_from, segment_noted}
use Rattle.soft_log.proofs.Noting.{are_noted, kept_noted}

-- ---- the address of the next block, on the way back

-- it depends on nothing else of the soft part
same_before : (change : Change) (a b : Soft) → a.next_block ≡ b.next_block → (taken_back change a).next_block ≡ (taken_back change b).next_block
unfolding taken_back
same_before (SetTpl before) a b same = same
same_before (Write at n before) a b same = same
same_before (Put at before) a b same = same
same_before (Allot at) a b same = refl
same_before (Free segment) a b same = same
same_before (Install handle guid made) a b same = same
same_before (Uninstall went) a b same = same
same_before (DropImage dropped) a b same = same
same_before (AddImage image) a b same = refl
same_before MakeThunk a b same = same
same_before (NoteChild count) a b same = same
same_before (SetBusList function before) a b same = same

same_next : (changes : List Change) (a b : Soft) → a.next_block ≡ b.next_block → (undone changes a).next_block ≡ (undone changes b).next_block
unfolding undone
same_next [] a b same = same
same_next (change ∷ changes) a b same = same_next changes (taken_back change a) (taken_back change b) (same_before change a b same)

-- it does not rise
falls : (changes : List Change) (soft : Soft) → CanUndo changes soft → (undone changes soft).next_block ≤ soft.next_block
unfolding undone
falls [] soft can = omega arith
falls (change ∷ changes) soft can =
    let less = falls changes (taken_back change soft) can.1 in
    omega (arith, less, can.0.rises)

-- nor from some later changes on to all of them
falls_after : (later changes : List Change) (soft : Soft) → CanUndo (later ++ changes) soft → (undone (later ++ changes) soft).next_block ≤ (undone later soft).next_block
unfolding undone
falls_after [] changes soft can = falls changes soft can
falls_after (change ∷ later) changes soft can = falls_after later changes (taken_back change soft) can.1

-- ---- what a mark keeps without the bytes of a newer block

one_emptied : (mark : Section Change Moment) (changes : List Change) (soft : Soft) (at : ℕ) → IsKept soft → CanUndo changes (without_stacks (later_levels mark.carried.levels) soft) → (kept_by mark.carried.levels changes soft).next_block ≤ at
    → CanUndo changes (without_stacks (later_levels mark.carried.levels) (block_emptied at soft)) × (kept_by mark.carried.levels changes (block_emptied at soft) ≡ kept_by mark.carried.levels changes soft)
one_emptied mark changes soft at kept can le =
    let levels = later_levels mark.carried.levels in
    let left = without_stacks levels soft in
    let beside = emptied_beside_stacks soft at mark.carried.levels in
    let same = undone_without_bytes changes left at (kept-without levels soft (later-are_levels mark.carried.levels) kept) can le in
    (subst (CanUndo changes) (sym beside) same.0, ap (undone changes) beside ∙ same.1)

-- and what the older marks keep
emptied_from : (later : List Change) (marks : List (Section Change Moment)) (soft : Soft) (at : ℕ) → IsKept soft → AreKept later marks soft → (undone later soft).next_block ≤ at
    → AreKept later marks (block_emptied at soft) × (kept_from later marks (block_emptied at soft) ≡ kept_from later marks soft)
unfolding AreKept kept_from
emptied_from later [] soft at kept are le = (tt, refl)
emptied_from later (mark ∷ marks) soft at kept are le =
    let levels = mark.carried.levels in
    let left = without_stacks (later_levels levels) soft in
    let changes = later ++ mark.changes in
    let less : (undone changes left).next_block ≤ (undone later left).next_block = falls_after later mark.changes left are.0 in
    let first : (undone later left).next_block ≡ (undone later soft).next_block = same_next later left soft refl in
    let all : (undone changes soft).next_block ≡ (undone changes left).next_block = same_next changes soft left refl in
    let one = one_emptied mark changes soft at kept are.0 (omega (arith, less, first)) in
    let others = emptied_from changes marks soft at kept are.2 (omega (arith, less, first, all)) in (
      (one.0, subst (IsMomentOf mark.carried) (sym one.1) are.1, others.0),
      ap (λ (x : Soft). x ∷ kept_from changes marks (block_emptied at soft)) one.1 ∙ ap (λ (xs : List Soft). kept_by levels changes soft ∷ xs) others.1,
    )

-- a block at the address of the next block at the newest mark, or above it
all_emptied : (newest : Section Change Moment) (older : List (Section Change Moment)) (soft : Soft) (at : ℕ) → IsKept soft → AreKept [] (newest ∷ older) soft → newest.carried.next_block ≤ at
    → AreKept [] (newest ∷ older) (block_emptied at soft) × (kept_from [] (newest ∷ older) (block_emptied at soft) ≡ kept_from [] (newest ∷ older) soft)
unfolding AreKept kept_from
all_emptied newest older soft at kept are le =
    let levels = newest.carried.levels in
    let changes = newest.changes in
    let next : newest.carried.next_block ≡ (kept_by levels changes soft).next_block = are.1.next_block in
    let all : (undone changes soft).next_block ≡ (kept_by levels changes soft).next_block = same_next changes soft (without_stacks (later_levels levels) soft) refl in
    let one = one_emptied newest changes soft at kept are.0 (omega (arith, next)) in
    let others = emptied_from changes older soft at kept are.2 (omega (arith, next, all)) in (
      (one.0, subst (IsMomentOf newest.carried) (sym one.1) are.1, others.0),
      ap (λ (x : Soft). x ∷ kept_from changes older (block_emptied at soft)) one.1 ∙ ap (λ (xs : List Soft). kept_by levels changes soft ∷ xs) others.1,
    )

-- ---- a block is freed

-- what marks keep stays, whether the block is noted with its bytes or without
abbrev pub FreeKeeps : List (Section Change Moment) → Segment → Soft → Soft → Type 0
FreeKeeps marks segment before after =
    AreKept [] (noted (Free segment) marks) after × (kept_from [] (noted (Free segment) marks) after ≡ kept_from [] marks before)

pub freed : (marks : List (Section Change Moment)) (soft : Soft) (at : ℕ) (of : SegKind) (segment : Segment) → IsKept soft → IsKept (block_freed at soft) → AreKept [] marks soft
    → is_block of ≡ true → free_answer at of soft ≡ Ok tt → beginning_at soft.memory at ≡ Ok segment → FreeKeeps marks (segment_noted marks segment) soft (block_freed at soft)
freed marks soft at of segment kept still are is done found = by_marks marks are
  where
    base : segment.base ≡ at
    base = begins-base soft.memory at segment found

    whole : (marks : List (Section Change Moment)) → AreKept [] marks soft → FreeKeeps marks segment soft (block_freed at soft)
    whole marks are =
        let note : IsNoted (Free segment) soft (block_freed at soft) = free_is_noted soft at of segment kept is done found in
        (are_noted marks (Free segment) soft (block_freed at soft) kept still note are, kept_noted marks (Free segment) soft (block_freed at soft) kept still note)

    without : (newest : Section Change Moment) (older : List (Section Change Moment)) → AreKept [] (newest ∷ older) soft → newest.carried.next_block ≤ segment.base → is_large_block segment.base segment ≡ true
        → FreeKeeps (newest ∷ older) (emptied segment) soft (block_freed at soft)
    without newest older are le large =
        let here : is_large_block at segment ≡ true = ap (λ (b : ℕ). is_large_block b segment) (sym base) ∙ large in
        let note : IsNoted (Free (emptied segment)) (block_emptied at soft) (block_freed at soft) = empty_free_is_noted soft at of segment kept is done found here in
        let less = emptying_keeps soft at kept in
        let same = all_emptied newest older soft at kept are (omega (arith, le, base)) in (
          are_noted (newest ∷ older) (Free (emptied segment)) (block_emptied at soft) (block_freed at soft) less still note same.0,
          kept_noted (newest ∷ older) (Free (emptied segment)) (block_emptied at soft) (block_freed at soft) less still note ∙ same.1,
        )

    by_age : (newest : Section Change Moment) (older : List (Section Change Moment)) (new : Bool) → is_new_block newest.carried.next_block segment ≡ new → AreKept [] (newest ∷ older) soft
        → FreeKeeps (newest ∷ older) (cond new (emptied segment) segment) soft (block_freed at soft)
    by_age newest older true new are =
        let parts = and_parts (nat_le newest.carried.next_block segment.base) (is_large_block segment.base segment) new in
        without newest older are (grind (arith, nat_tests, parts.0)) parts.1
    by_age newest older false new are = whole (newest ∷ older) are

    by_marks : (marks : List (Section Change Moment)) → AreKept [] marks soft → FreeKeeps marks (segment_noted marks segment) soft (block_freed at soft)
    by_marks [] are = whole [] are
    by_marks (newest ∷ older) are = by_age newest older (is_new_block newest.carried.next_block segment) refl are
