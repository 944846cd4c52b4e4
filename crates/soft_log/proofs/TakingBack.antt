-- What open marks keep, as the newest is made, as changes are taken back, and as it is spent.
use Rattle.std.proofs.Common.{◌≡◌, ◌<◌, ℕ, List, [], ◌∷◌, ◌++◌, length, suc, arith, drop, Some, None, refl, sym, ap, subst, ◌∙◌}
use Rattle.std.specs.Prelude.{slice_get}
use Rattle.undo_log.specs.Log.{Section, committed, last_change, marked, without_last}
use Rattle.world_model.specs.declared.change.Change.{Change}
use Rattle.world_model.specs.declared.stack_levels.StackLevels.{StackLevels}
use Rattle.soft_log.specs.declared.moment.Moment.{Moment}
use Rattle.world_model.specs.World.{Soft}
use Rattle.world_model.specs.Marks.{older_marks, stacks}
use Rattle.world_model.specs.Kept.{IsKept}
use Rattle.world_model.specs.Undo.{AreLevelsOf, kept_by, later_levels, taken_back, undone, without_stacks}
use Rattle.world_model.specs.UndoLaws.{CanTakeBack, CanUndo}
use Rattle.world_model.proofs.UndoNoted.{taken_beside_stacks}
use Rattle.world_model.proofs.UndoStacks.{none_is_left_out}
use Rattle.soft_log.specs.Keeping.{AreKept, IsMomentOf, kept_from, newest_of}
use Rattle.soft_log.proofs.StacksLeftOut.{same_stack}

-- ---- a new mark

-- with the levels that have a stack now, nothing is left out
pub nothing_left_out : (soft : Soft) (levels : StackLevels) → IsKept soft → AreLevelsOf levels soft → without_stacks (later_levels levels) soft ≡ soft
nothing_left_out soft levels kept are = none_is_left_out soft levels kept (λ level from to none. sym (are level from to) ∙ none)

-- it keeps the soft part as it is
pub kept_marked : (marks : List (Section Change Moment)) (moment : Moment) (soft : Soft) → IsKept soft → IsMomentOf moment soft
    → kept_from [] (marked moment marks) soft ≡ soft ∷ kept_from [] marks soft
unfolding kept_from undone
kept_marked marks moment soft kept is = ap (λ (first : Soft). first ∷ kept_from [] marks soft) (nothing_left_out soft moment.levels kept is.levels)

pub are_marked : (marks : List (Section Change Moment)) (moment : Moment) (soft : Soft) → IsKept soft → IsMomentOf moment soft → AreKept [] marks soft → AreKept [] (marked moment marks) soft
unfolding AreKept undone
are_marked marks moment soft kept is are = (tt, subst (IsMomentOf moment) (sym (nothing_left_out soft moment.levels kept is.levels)) is, are)

-- ---- the newest mark is spent

pub kept_committed : (marks : List (Section Change Moment)) (soft : Soft) → kept_from [] (committed marks) soft ≡ older_marks (kept_from [] marks soft)
unfolding kept_from
kept_committed [] soft = refl
kept_committed (newest ∷ []) soft = refl
kept_committed (newest ∷ (next ∷ older)) soft = refl

pub are_committed : (marks : List (Section Change Moment)) (soft : Soft) → AreKept [] marks soft → AreKept [] (committed marks) soft
unfolding AreKept
are_committed [] soft are = tt
are_committed (newest ∷ []) soft are = tt
are_committed (newest ∷ (next ∷ older)) soft are = are.2

-- ---- a change is taken back

taken_from : (change : Change) (later : List Change) (marks : List (Section Change Moment)) (soft : Soft) → IsKept soft → CanTakeBack change soft
    → kept_from later marks (taken_back change soft) ≡ kept_from (change ∷ later) marks soft
unfolding kept_from undone
taken_from change later [] soft kept can = refl
taken_from change later (mark ∷ marks) soft kept can =
    let changes = later ++ mark.changes in
    let one : kept_by mark.carried.levels changes (taken_back change soft) ≡ kept_by mark.carried.levels (change ∷ changes) soft = ap (undone changes) (sym (taken_beside_stacks change soft mark.carried.levels kept can.beside)) in
    ap (λ (first : Soft). first ∷ kept_from changes marks (taken_back change soft)) one
    ∙ ap (λ (others : List Soft). kept_by mark.carried.levels (change ∷ changes) soft ∷ others) (taken_from change changes marks soft kept can)

are_taken_from : (change : Change) (later : List Change) (marks : List (Section Change Moment)) (soft : Soft) → IsKept soft → CanTakeBack change soft
    → AreKept (change ∷ later) marks soft → AreKept later marks (taken_back change soft)
unfolding AreKept undone
are_taken_from change later [] soft kept can are = tt
are_taken_from change later (mark ∷ marks) soft kept can are =
    let changes = later ++ mark.changes in
    let left = taken_beside_stacks change soft mark.carried.levels kept can.beside in
    (subst (CanUndo changes) left are.0.1, subst (IsMomentOf mark.carried) (ap (undone changes) left) are.1, are_taken_from change changes marks soft kept can are.2)

-- the first of some changes, and the others
split : (changes : List Change) (change : Change) → slice_get changes 0 ≡ Some change → changes ≡ change ∷ drop 1 changes
split [] change is = absurd cc
split (first ∷ changes) change is = let same : first ≡ change = cc in ap (λ (c : Change). c ∷ changes) same

-- the last change since the newest mark is taken back
pub kept_taken : (marks : List (Section Change Moment)) (change : Change) (soft : Soft) → IsKept soft → CanTakeBack change soft → last_change marks ≡ Some change
    → kept_from [] (without_last marks) (taken_back change soft) ≡ kept_from [] marks soft
unfolding kept_from
kept_taken [] change soft kept can is = absurd cc
kept_taken (newest ∷ older) change soft kept can is =
    let less : Section Change Moment = record newest { changes = drop 1 newest.changes } in
    taken_from change [] (less ∷ older) soft kept can
    ∙ ap (λ (changes : List Change). kept_from [] (record newest { changes = changes } ∷ older) soft) (sym (split newest.changes change is))

pub are_taken : (marks : List (Section Change Moment)) (change : Change) (soft : Soft) → IsKept soft → CanTakeBack change soft → last_change marks ≡ Some change → AreKept [] marks soft
    → AreKept [] (without_last marks) (taken_back change soft)
unfolding AreKept
are_taken [] change soft kept can is are = absurd cc
are_taken (newest ∷ older) change soft kept can is are =
    let less : Section Change Moment = record newest { changes = drop 1 newest.changes } in
    let all : AreKept [] (record newest { changes = change ∷ drop 1 newest.changes } ∷ older) soft =
    subst (λ (changes : List Change). AreKept [] (record newest { changes = changes } ∷ older) soft) (split newest.changes change is) are in
    are_taken_from change [] (less ∷ older) soft kept can all

-- with the stacks that the newest mark keeps, nothing is left out
nothing_newer : (newest : Section Change Moment) (older : List (Section Change Moment)) (soft : Soft) → IsKept soft → AreKept [] (newest ∷ older) soft
    → stacks soft ≡ stacks (newest_of (kept_from [] (newest ∷ older) soft) soft) → without_stacks (later_levels newest.carried.levels) soft ≡ soft
unfolding AreKept kept_from
nothing_newer newest older soft kept are same =
    let was = kept_by newest.carried.levels newest.changes soft in
    none_is_left_out soft newest.carried.levels kept (λ level from to none. same_stack soft was level same ∙ sym (are.1.levels level from to) ∙ none)

-- so its last change can be taken back
pub can_take : (marks : List (Section Change Moment)) (change : Change) (soft : Soft) → IsKept soft → AreKept [] marks soft → stacks soft ≡ stacks (newest_of (kept_from [] marks soft) soft) → last_change marks ≡ Some change
    → CanTakeBack change soft
unfolding AreKept
can_take [] change soft kept are same is = absurd cc
can_take (newest ∷ older) change soft kept are same is =
    let left = nothing_newer newest older soft kept are same in
    let all : CanUndo (change ∷ drop 1 newest.changes) (without_stacks (later_levels newest.carried.levels) soft) =
    subst (λ (changes : List Change). CanUndo changes (without_stacks (later_levels newest.carried.levels) soft)) (split newest.changes change is) are.0 in
    subst (CanTakeBack change) left all.0

none : (changes : List Change) → slice_get changes 0 ≡ None → changes ≡ []
none [] is = refl
none (first ∷ changes) is = absurd cc

-- once none is left, the soft part is what the newest mark keeps
pub all_taken : (marks : List (Section Change Moment)) (soft : Soft) → IsKept soft → AreKept [] marks soft → stacks soft ≡ stacks (newest_of (kept_from [] marks soft) soft) → last_change marks ≡ None
    → newest_of (kept_from [] marks soft) soft ≡ soft
unfolding kept_from undone
all_taken [] soft kept are same is = refl
all_taken (newest ∷ older) soft kept are same is =
    ap (λ (changes : List Change). kept_by newest.carried.levels changes soft) (none newest.changes is) ∙ nothing_newer newest older soft kept are same

-- if no mark keeps anything, none is open, so none keeps anything of whatever becomes of the soft part
pub none_kept : (marks : List (Section Change Moment)) (soft after : Soft) (kept : List Soft) → kept_from [] marks soft ≡ kept → kept ≡ []
    → AreKept [] marks after × (kept_from [] marks after ≡ kept)
unfolding kept_from AreKept
none_kept [] soft after kept is none = (tt, sym none)
none_kept (newest ∷ older) soft after kept is none = absurd cc

pub length-kept_from : (later : List Change) (marks : List (Section Change Moment)) (soft : Soft) → length (kept_from later marks soft) ≡ length marks
unfolding kept_from
length-kept_from later [] soft = refl
length-kept_from later (mark ∷ marks) soft = ap suc (length-kept_from (later ++ mark.changes) marks soft)

-- how many changes were noted since the newest mark
abbrev pub count_left : List (Section Change Moment) → ℕ
count_left [] = 0
count_left (newest ∷ older) = length newest.changes

pub fewer_left : (marks : List (Section Change Moment)) (change : Change) → last_change marks ≡ Some change → count_left (without_last marks) < count_left marks
fewer_left [] change is = absurd cc
fewer_left (newest ∷ older) change is =
    let whole : length newest.changes ≡ length (change ∷ drop 1 newest.changes) = ap length (split newest.changes change is) in
    omega (arith, whole)

-- soft parts with the same stacks have those of the newest mark or not
pub newest_same : (marks : List Soft) (a b : Soft) → stacks a ≡ stacks b → stacks b ≡ stacks (newest_of marks b) → stacks a ≡ stacks (newest_of marks a)
newest_same [] a b same newest = refl
newest_same (kept ∷ older) a b same newest = same ∙ newest

-- if nothing was noted since the newest mark, nothing is taken out
pub without_none : (marks : List (Section Change Moment)) → last_change marks ≡ None → without_last marks ≡ marks
without_none [] is = refl
without_none (newest ∷ older) is =
    let empty : newest.changes ≡ [] = none newest.changes is in
    ap (λ (changes : List Change). record newest { changes = changes } ∷ older) (ap (drop 1) empty ∙ sym empty)

-- if something was noted, a mark is open, and what it keeps is asked for, not the soft part now
pub newest_stays : (marks : List (Section Change Moment)) (kept : List Soft) (change : Change) (soft a b : Soft) → kept_from [] marks soft ≡ kept → last_change marks ≡ Some change → newest_of kept a ≡ newest_of kept b
unfolding kept_from
newest_stays [] kept change soft a b are is = absurd cc
newest_stays (newest ∷ older) [] change soft a b are is = absurd cc
newest_stays (newest ∷ older) (first ∷ kept) change soft a b are is = refl
