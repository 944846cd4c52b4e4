-- What open marks keep, as stacks are pushed and popped, which no log notes.
use Rattle.std.proofs.Common.{◌≡◌, ◌<◌, ◌≤◌, ℕ, Bool, true, false, not, nat_eq, List, [], ◌∷◌, ◌++◌, refl, sym, ap, subst, ◌∙◌}
use Rattle.std.specs.Prelude.{Result, Ok, Err, OnOk, OnErr}
use Rattle.std.specs.List.{list_all, list_any}
use Rattle.std.proofs.lemmas.Bool.{and_from, and_parts, not-true, or_parts}
use Rattle.fw_types.specs.declared.limits.TheConstants.{MOST_LEVELS}
use Rattle.undo_log.specs.Log.{Section}
use Rattle.world_model.specs.declared.change.Change.{Change}
use Rattle.world_model.specs.declared.stack_levels.StackLevels.{StackLevels}
use Rattle.soft_log.specs.declared.moment.Moment.{Moment}
use Rattle.world_model.specs.World.{Soft}
use Rattle.world_model.specs.Marks.{stacks}
use Rattle.world_model.specs.Stacks.{has_stack, is_marked_stack, stack_base, stack_popped, stack_pushed}
use Rattle.world_model.specs.Undo.{had_stack, kept_by, later_levels, undone, without_stacks}
use Rattle.world_model.specs.UndoLaws.{CanUndo}
use Rattle.world_model.proofs.StackLaws.{stack_of_level}
use Rattle.world_model.proofs.UndoNoted.{undoing_leaves_stacks}
use Rattle.world_model.proofs.UndoStacks.{left_stack_is_there, popped_is_left_out, pushed_is_left_out}
use Rattle.soft_log.specs.Keeping.{AreKept, IsMomentOf, kept_from}

-- a level has no stack as a mark is made
abbrev pub is_later : ℕ → Section Change Moment → Bool
is_later level mark = not (had_stack mark.carried.levels level)

-- soft parts with the same stacks
pub same_stack : (a b : Soft) (level : ℕ) → stacks a ≡ stacks b → has_stack level a.memory ≡ has_stack level b.memory
same_stack a b level same = stack_of_level a level ∙ ap (λ (bases : List ℕ). list_any (λ (base : ℕ). nat_eq base (stack_base level)) bases) same ∙ sym (stack_of_level b level)

not-from : (b : Bool) → b ≡ false → not b ≡ true
not-from true is = sym is
not-from false is = refl

-- a level that has no stack had none at any mark: none that had one may be popped
pub all_later : (later : List Change) (marks : List (Section Change Moment)) (soft : Soft) (level : ℕ) → 0 < level → level ≤ MOST_LEVELS → has_stack level soft.memory ≡ false
    → AreKept later marks soft → list_all (is_later level) marks ≡ true
unfolding AreKept
all_later later [] soft level from to none are = refl
all_later later (mark ∷ marks) soft level from to none are =
    let left = without_stacks (later_levels mark.carried.levels) soft in
    let changes = later ++ mark.changes in
    let gone : had_stack mark.carried.levels level ≡ false =
    are.1.levels level from to ∙ same_stack (undone changes left) left level (undoing_leaves_stacks changes left are.0) ∙ left_stack_is_there soft mark.carried.levels level none in
    and_from (is_later level mark) (list_all (is_later level) marks) (not-from (had_stack mark.carried.levels level) gone) (all_later changes marks soft level from to none are.2)

-- a level of which no mark keeps a stack had none at any mark
pub all_unmarked : (later : List Change) (marks : List (Section Change Moment)) (soft : Soft) (level : ℕ) → 0 < level → level ≤ MOST_LEVELS → is_marked_stack level (kept_from later marks soft) ≡ false
    → AreKept later marks soft → list_all (is_later level) marks ≡ true
unfolding AreKept kept_from
all_unmarked later [] soft level from to none are = refl
all_unmarked later (mark ∷ marks) soft level from to none are =
    let changes = later ++ mark.changes in
    let kept = kept_by mark.carried.levels changes soft in
    let parts = or_parts (has_stack level kept.memory) (is_marked_stack level (kept_from changes marks soft)) none in
    let gone : had_stack mark.carried.levels level ≡ false = are.1.levels level from to ∙ parts.0 in
    and_from (is_later level mark) (list_all (is_later level) marks) (not-from (had_stack mark.carried.levels level) gone) (all_unmarked changes marks soft level from to parts.1 are.2)

-- what is left without the stacks of later levels is the same, for all levels that had none of some level
abbrev pub AreLeftOut : ℕ → Soft → Soft → Type 0
AreLeftOut level before after = (levels : StackLevels) → had_stack levels level ≡ false → without_stacks (later_levels levels) after ≡ without_stacks (later_levels levels) before

-- so the marks keep what they kept
pub kept_left_out : (later : List Change) (marks : List (Section Change Moment)) (level : ℕ) (before after : Soft) → AreLeftOut level before after → list_all (is_later level) marks ≡ true
    → kept_from later marks after ≡ kept_from later marks before
unfolding kept_from
kept_left_out later [] level before after same all = refl
kept_left_out later (mark ∷ marks) level before after same all =
    let parts = and_parts (is_later level mark) (list_all (is_later level) marks) all in
    let changes = later ++ mark.changes in
    let one : kept_by mark.carried.levels changes after ≡ kept_by mark.carried.levels changes before = ap (undone changes) (same mark.carried.levels (not-true (had_stack mark.carried.levels level) parts.0)) in
    ap (λ (first : Soft). first ∷ kept_from changes marks after) one
    ∙ ap (λ (others : List Soft). kept_by mark.carried.levels changes before ∷ others) (kept_left_out changes marks level before after same parts.1)

pub are_left_out : (later : List Change) (marks : List (Section Change Moment)) (level : ℕ) (before after : Soft) → AreLeftOut level before after → list_all (is_later level) marks ≡ true
    → AreKept later marks before → AreKept later marks after
unfolding AreKept
are_left_out later [] level before after same all are = tt
are_left_out later (mark ∷ marks) level before after same all are =
    let parts = and_parts (is_later level mark) (list_all (is_later level) marks) all in
    let changes = later ++ mark.changes in
    let left = same mark.carried.levels (not-true (had_stack mark.carried.levels level) parts.0) in (
      subst (CanUndo changes) (sym left) are.0,
      subst (IsMomentOf mark.carried) (sym (ap (undone changes) left)) are.1,
      are_left_out changes marks level before after same parts.1 are.2,
    )

-- ---- a stack is pushed and popped

pub pushed : {T E : Type 0} (result : Result T E) (marks : List (Section Change Moment)) (before after : Soft) (level : ℕ) (slots handles : List ℕ) → 0 < level → level ≤ MOST_LEVELS
    → has_stack level before.memory ≡ false → AreKept [] marks before → OnOk result (after ≡ stack_pushed level slots handles before) → OnErr result (after ≡ before)
    → AreKept [] marks after × (kept_from [] marks after ≡ kept_from [] marks before)
pushed (Ok value) marks before after level slots handles from to none are ok err =
    let later = all_later [] marks before level from to none are in
    let same : AreLeftOut level before after = λ levels new. rw ok (pushed_is_left_out before levels level slots handles from to new) in
    (are_left_out [] marks level before after same later are, kept_left_out [] marks level before after same later)
pushed (Err error) marks before after level slots handles from to none are ok err = rw err (are, refl)

pub popped : (marks : List (Section Change Moment)) (before after : Soft) (level : ℕ) → 0 < level → level ≤ MOST_LEVELS
    → is_marked_stack level (kept_from [] marks before) ≡ false → AreKept [] marks before → after ≡ stack_popped level before
    → AreKept [] marks after × (kept_from [] marks after ≡ kept_from [] marks before)
popped marks before after level from to none are is =
    let later = all_unmarked [] marks before level from to none are in
    let same : AreLeftOut level before after = λ levels new. rw is (popped_is_left_out before levels level from to new) in
    (are_left_out [] marks level before after same later are, kept_left_out [] marks level before after same later)
