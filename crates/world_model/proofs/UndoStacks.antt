-- The stacks that are left out of what a mark keeps.
use Rattle.std.proofs.Common.{◌≡◌, ◌≤◌, ◌<◌, inl, inr, ℕ, ◌+◌, Bool, true, false, not, ◌&&◌, ◌||◌, nat_eq, nat_le, nat_lt, List, [], ◌∷◌, length, filter, refl, sym, ap, subst, ◌∙◌, zero, suc, arith}
use Rattle.std.specs.List.{list_all, list_any, range_with_len}
use Rattle.std.proofs.lemmas.Bool.{and_from, and_parts, both_ways, eqb-true, or_left, or_right}
use Rattle.std.proofs.lemmas.Bool.Decides.{nat_tests}
use Rattle.guest_memory.specs.declared.segment.Segment.{Segment}
use Rattle.guest_memory.specs.declared.segment.SegKind.{SegKind}
use Rattle.guest_memory.specs.declared.segment.SegKind.TheVariants as kind
use Rattle.guest_memory.specs.GuestMemory.{is_of, kind_number, lie_from, unmapped, mapped}
use Rattle.guest_memory.specs.declared.address_map.TheConstants.{FIRST_IMAGE}
use Rattle.guest_memory.proofs.SegmentLemmas.{lie_from-unmapped}
use Rattle.fw_types.specs.declared.limits.TheConstants.{MOST_LEVELS}
use Rattle.world_model.specs.declared.stack_levels.StackLevels.{StackLevels}
use Rattle.world_model.specs.World.{Soft, with_memory}
use Rattle.world_model.specs.Marks.{stacks}
use Rattle.world_model.specs.Stacks.{has_list, has_stack, list_base, list_segment, stack_base, stack_popped, stack_segment}
use Rattle.world_model.specs.Kept.{IsKept, is_in_region, is_placed}
use Rattle.world_model.specs.Undo.{had_stack, is_of_levels, later_levels, without_stacks}
use Rattle.world_model.specs.UndoLaws.{LeftStackIsThere, NoneIsLeftOut, PoppedIsLeftOut, PushedIsLeftOut}
use Rattle.world_model.proofs.KeepingStacks.{popping}
use Rattle.world_model.proofs.Regions.{around_list, around_stack}
use Rattle.world_model.proofs.Segments.{list_all-both, list_all-filter_both, list_all-not, list_any-none}
use Rattle.world_model.proofs.UndoSegments.{at-all, at-both, at-mapped_none, at-unmapped_none, at_addresses, bases-at, list_any-none_left, unmapped-is}

-- an address is not that of a stack, or of a list of children, of some levels
abbrev pub stays : List ℕ → ℕ → Bool
stays levels base = not (is_of_levels levels base)

-- whether a number is that of a level that may have a stack
abbrev pub is_level : ℕ → Bool
is_level level = nat_lt 0 level && nat_le level MOST_LEVELS

-- the levels that had no stack are such levels
pub later-are_levels : (levels : StackLevels) → list_all is_level (later_levels levels) ≡ true
later-are_levels levels =
    list_all-filter_both is_level (λ (level : ℕ). not (had_stack levels level)) is_level (range_with_len 1 MOST_LEVELS) (λ level is other. is) refl

-- ---- leaving stacks out is popping them

at-same : (p q : ℕ → Bool) (segments : List Segment) → ((b : ℕ) → p b ≡ q b) → at_addresses p segments ≡ at_addresses q segments
at-same p q [] same = refl
at-same p q (s ∷ rest) same = rw (same s.base, at-same p q rest same) refl

neither : (x y z : Bool) → ((not x && not y) && not z) ≡ not ((x || y) || z)
neither true y z = refl
neither false true z = refl
neither false false z = refl

all-stay : (segments : List Segment) → list_all (λ (s : Segment). stays [] s.base) segments ≡ true
all-stay [] = refl
all-stay (s ∷ rest) = all-stay rest

popped-first : (level : ℕ) (levels : List ℕ) (segments : List Segment) → lie_from 0 segments ≡ true
    → at_addresses (stays levels) (unmapped (unmapped segments (stack_base level)) (list_base level)) ≡ at_addresses (stays (level ∷ levels)) segments
popped-first level levels segments lies =
    let first = λ (b : ℕ). not (nat_eq b (stack_base level)) in
    let second = λ (b : ℕ). not (nat_eq b (list_base level)) in
    ap (at_addresses (stays levels))
    (unmapped-is 0 (list_base level) (unmapped segments (stack_base level)) (lie_from-unmapped 0 segments (stack_base level) lies)
    ∙ ap (at_addresses second) (unmapped-is 0 (stack_base level) segments lies)
    ∙ at-both second first segments)
    ∙ at-both (stays levels) (λ (b : ℕ). first b && second b) segments
    ∙ at-same (λ (b : ℕ). (first b && second b) && stays levels b) (stays (level ∷ levels)) segments
    (λ b. neither (nat_eq b (stack_base level)) (nat_eq b (list_base level)) (is_of_levels levels b))

-- what holds of every soft part holds without stacks
pub kept-without : (levels : List ℕ) (soft : Soft) → list_all is_level levels ≡ true → IsKept soft → IsKept (without_stacks levels soft)
kept-without [] soft are kept = subst (λ (memory : List Segment). IsKept (with_memory memory soft)) (sym (at-all (stays []) soft.memory (all-stay soft.memory))) kept
kept-without (level ∷ levels) soft are kept =
    let parts = and_parts (is_level level) (list_all is_level levels) are in
    let from : 0 < level = grind (arith, nat_tests, parts.0) in
    let to : level ≤ MOST_LEVELS = grind (arith, nat_tests, parts.0) in
    let rest = kept-without levels (stack_popped level soft) parts.1 (popping soft level kept from to) in
    subst (λ (memory : List Segment). IsKept (with_memory memory soft)) (popped-first level levels soft.memory kept.memory.apart) rest

-- the stacks that are left
pub stacks-without : (levels : List ℕ) (soft : Soft) → stacks (without_stacks levels soft) ≡ filter (stays levels) (stacks soft)
stacks-without levels soft = bases-at kind.Stack (stays levels) soft.memory

-- an address of images and blocks stays
pub high-stays : (levels : List ℕ) (base : ℕ) → list_all is_level levels ≡ true → nat_le FIRST_IMAGE base ≡ true → stays levels base ≡ true
high-stays levels base are high =
    let none = list_any-none is_level (λ (level : ℕ). nat_eq base (stack_base level) || nat_eq base (list_base level)) levels (λ level is. grind (arith, nat_tests)) are in
    rw none refl

-- ---- later levels

in-range : (from n level : ℕ) → from ≤ level → level < from + n → list_any (λ (l : ℕ). nat_eq l level) (range_with_len from n) ≡ true
in-range from zero level low high = absurd (omega (arith, low, high))
in-range from (suc n) level low high = by_head (nat_eq from level) refl (λ more. in-range (from + 1) n level more (omega (arith, high)))
  where
    by_head : (here : Bool) → nat_eq from level ≡ here → (from + 1 ≤ level → list_any (λ (l : ℕ). nat_eq l level) (range_with_len (from + 1) n) ≡ true)
        → (nat_eq from level || list_any (λ (l : ℕ). nat_eq l level) (range_with_len (from + 1) n)) ≡ true
    by_head true is later = rw is refl
    by_head false is later =
        let more : from + 1 ≤ level = grind (arith, nat_tests) in
        or_right (nat_eq from level) (list_any (λ (l : ℕ). nat_eq l level) (range_with_len (from + 1) n)) (later more)

-- one of a list that passes two tests
in-filter : (P Q : ℕ → Bool) (xs : List ℕ) (x : ℕ) → Q x ≡ true → P x ≡ true → list_any (λ (l : ℕ). nat_eq l x) xs ≡ true → list_any P (filter Q xs) ≡ true
in-filter P Q [] x kept passes there = absurd cc
in-filter P Q (y ∷ xs) x kept passes there = by_tests (nat_eq y x) (Q y) refl refl there (λ later. in-filter P Q xs x kept passes later)
  where
    by_tests : (here one : Bool) → nat_eq y x ≡ here → Q y ≡ one → (here || list_any (λ (l : ℕ). nat_eq l x) xs) ≡ true → (list_any (λ (l : ℕ). nat_eq l x) xs ≡ true → list_any P (filter Q xs) ≡ true)
        → list_any P (filter Q (y ∷ xs)) ≡ true
    by_tests true true at is some later =
        let same : y ≡ x = eqb-true y x at in
        let good : P y ≡ true = ap P same ∙ passes in
        rw (is, good) refl
    by_tests true false at is some later =
        let same : y ≡ x = eqb-true y x at in
        let good : Q y ≡ true = ap Q same ∙ kept in
        absurd (both_ways (Q y) is good)
    by_tests false true at is some later = rw is (or_right (P y) (list_any P (filter Q xs)) (later some))
    by_tests false false at is some later = rw is (later some)

-- the stack of a later level does not stay, nor does its list
later-stack : (levels : StackLevels) (level : ℕ) → 0 < level → level ≤ MOST_LEVELS → had_stack levels level ≡ false → stays (later_levels levels) (stack_base level) ≡ false
later-stack levels level from to none =
    let there = in-range 1 MOST_LEVELS level (omega arith) (omega arith) in
    let new : not (had_stack levels level) ≡ true = rw none refl in
    let here : (nat_eq (stack_base level) (stack_base level) || nat_eq (stack_base level) (list_base level)) ≡ true = or_left (nat_eq (stack_base level) (stack_base level)) (nat_eq (stack_base level) (list_base level)) (grind (arith, nat_tests)) in
    let any = in-filter (λ (l : ℕ). nat_eq (stack_base level) (stack_base l) || nat_eq (stack_base level) (list_base l)) (λ (l : ℕ). not (had_stack levels l)) (range_with_len 1 MOST_LEVELS) level new here there in
    rw any refl

later-list : (levels : StackLevels) (level : ℕ) → 0 < level → level ≤ MOST_LEVELS → had_stack levels level ≡ false → stays (later_levels levels) (list_base level) ≡ false
later-list levels level from to none =
    let there = in-range 1 MOST_LEVELS level (omega arith) (omega arith) in
    let new : not (had_stack levels level) ≡ true = rw none refl in
    let here : (nat_eq (list_base level) (stack_base level) || nat_eq (list_base level) (list_base level)) ≡ true = or_right (nat_eq (list_base level) (stack_base level)) (nat_eq (list_base level) (list_base level)) (grind (arith, nat_tests)) in
    let any = in-filter (λ (l : ℕ). nat_eq (list_base level) (stack_base l) || nat_eq (list_base level) (list_base l)) (λ (l : ℕ). not (had_stack levels l)) (range_with_len 1 MOST_LEVELS) level new here there in
    rw any refl

pub pushed_is_left_out : PushedIsLeftOut
pushed_is_left_out soft levels level slots [] from to none =
    ap (λ (memory : List Segment). with_memory memory soft) (at-mapped_none (stays (later_levels levels)) (stack_segment level slots) soft.memory (later-stack levels level from to none))
pushed_is_left_out soft levels level slots (handle ∷ handles) from to none =
    let p = stays (later_levels levels) in
    ap (λ (memory : List Segment). with_memory memory soft)
    (at-mapped_none p (list_segment level (handle ∷ handles)) (mapped (stack_segment level slots) soft.memory) (later-list levels level from to none)
    ∙ at-mapped_none p (stack_segment level slots) soft.memory (later-stack levels level from to none))

pub popped_is_left_out : PoppedIsLeftOut
popped_is_left_out soft levels level from to none =
    let p = stays (later_levels levels) in
    ap (λ (memory : List Segment). with_memory memory soft)
    (at-unmapped_none p (list_base level) (unmapped soft.memory (stack_base level)) (later-list levels level from to none)
    ∙ at-unmapped_none p (stack_base level) soft.memory (later-stack levels level from to none))

pub left_stack_is_there : LeftStackIsThere
left_stack_is_there soft levels level none =
    list_any-none_left (λ (s : Segment). nat_eq s.base (stack_base level) && is_of kind.Stack s) (λ (s : Segment). stays (later_levels levels) s.base) soft.memory none

-- ---- if no later level has a stack

no-list : (soft : Soft) (level : ℕ) → IsKept soft → level ≤ MOST_LEVELS → has_stack level soft.memory ≡ false → has_list level soft.memory ≡ false
no-list soft level kept to none = by_list (has_list level soft.memory) refl
  where
    by_list : (b : Bool) → has_list level soft.memory ≡ b → has_list level soft.memory ≡ false
    by_list true has = absurd (both_ways (has_stack level soft.memory) none (kept.memory.lists level to has))
    by_list false has = has

-- a segment that lies in its region and is neither the stack nor the list of a level lies elsewhere
elsewhere : (image block level : ℕ) (of : SegKind) (base size : ℕ) → is_in_region image block of base size ≡ true → 0 < level → level ≤ MOST_LEVELS
    → (nat_eq base (stack_base level) && nat_eq (kind_number of) (kind_number kind.Stack)) ≡ false → (nat_eq base (list_base level) && nat_eq (kind_number of) (kind_number kind.Table)) ≡ false
    → not (nat_eq base (stack_base level) || nat_eq base (list_base level)) ≡ true
elsewhere image block level of base size right from to no_stack no_table =
    let beside : nat_eq base (stack_base level) ≡ false = elim (around_stack image block level of base size right from to no_stack) [ inl below ↦ grind (arith, nat_tests) | inr above ↦ grind (arith, nat_tests) ] in
    let apart : nat_eq base (list_base level) ≡ false = elim (around_list image block level of base size right from to no_table) [ inl below ↦ grind (arith, nat_tests) | inr above ↦ grind (arith, nat_tests) ] in
    rw (beside, apart) refl

none-at : (soft : Soft) (level : ℕ) → IsKept soft → 0 < level → level ≤ MOST_LEVELS → has_stack level soft.memory ≡ false
    → list_all (λ (s : Segment). not (nat_eq s.base (stack_base level) || nat_eq s.base (list_base level))) soft.memory ≡ true
none-at soft level kept from to none =
    let no_stack = list_all-not (λ (s : Segment). nat_eq s.base (stack_base level) && is_of kind.Stack s) soft.memory none in
    let no_table = list_all-not (λ (s : Segment). nat_eq s.base (list_base level) && is_of kind.Table s) soft.memory (no-list soft level kept to none) in
    let right = list_all-both (is_placed soft.next_image soft.next_block) (λ (s : Segment). not (nat_eq s.base (stack_base level) && is_of kind.Stack s))
    (λ (s : Segment). is_placed soft.next_image soft.next_block s && not (nat_eq s.base (stack_base level) && is_of kind.Stack s)) soft.memory
    (λ s is other. and_from (is_placed soft.next_image soft.next_block s) (not (nat_eq s.base (stack_base level) && is_of kind.Stack s)) is other)
    kept.memory.placed no_stack in
    list_all-both
    (λ (s : Segment). is_placed soft.next_image soft.next_block s && not (nat_eq s.base (stack_base level) && is_of kind.Stack s)) (λ (s : Segment). not (nat_eq s.base (list_base level) && is_of kind.Table s))
    (λ (s : Segment). not (nat_eq s.base (stack_base level) || nat_eq s.base (list_base level))) soft.memory
    (λ s is other.
    let parts = and_parts (is_placed soft.next_image soft.next_block s) (not (nat_eq s.base (stack_base level) && is_of kind.Stack s)) is in
    let one : (nat_eq s.base (stack_base level) && is_of kind.Stack s) ≡ false = grind (arith, parts.1) in
    let two : (nat_eq s.base (list_base level) && is_of kind.Table s) ≡ false = grind (arith, other) in
    elsewhere soft.next_image soft.next_block level s.kind s.base (length s.bytes) parts.0 from to one two)
    right no_table

nor : (x y : Bool) → not x ≡ true → not y ≡ true → not (x || y) ≡ true
nor true y one two = one
nor false y one two = two

-- levels without a stack
all-stay_without : (soft : Soft) (levels : List ℕ) → IsKept soft → list_all (λ (level : ℕ). is_level level && not (has_stack level soft.memory)) levels ≡ true
    → list_all (λ (s : Segment). stays levels s.base) soft.memory ≡ true
all-stay_without soft [] kept none = all-stay soft.memory
all-stay_without soft (level ∷ levels) kept none =
    let parts = and_parts (is_level level && not (has_stack level soft.memory)) (list_all (λ (level : ℕ). is_level level && not (has_stack level soft.memory)) levels) none in
    let own = and_parts (is_level level) (not (has_stack level soft.memory)) parts.0 in
    let from : 0 < level = grind (arith, nat_tests, own.0) in
    let to : level ≤ MOST_LEVELS = grind (arith, nat_tests, own.0) in
    let other : has_stack level soft.memory ≡ false = grind (arith, own.1) in
    list_all-both (λ (s : Segment). not (nat_eq s.base (stack_base level) || nat_eq s.base (list_base level))) (λ (s : Segment). stays levels s.base) (λ (s : Segment). stays (level ∷ levels) s.base) soft.memory
    (λ s one two. nor (nat_eq s.base (stack_base level) || nat_eq s.base (list_base level)) (is_of_levels levels s.base) one two)
    (none-at soft level kept from to other) (all-stay_without soft levels kept parts.1)

pub none_is_left_out : NoneIsLeftOut
none_is_left_out soft levels kept none =
    let later = list_all-filter_both is_level (λ (level : ℕ). not (had_stack levels level)) (λ (level : ℕ). is_level level && not (has_stack level soft.memory)) (range_with_len 1 MOST_LEVELS)
    (λ level is new.
    let from : 0 < level = grind (arith, nat_tests, is) in
    let to : level ≤ MOST_LEVELS = grind (arith, nat_tests, is) in
    let other : had_stack levels level ≡ false = grind (arith, new) in
    let gone : not (has_stack level soft.memory) ≡ true = rw (none level from to other) refl in
    and_from (is_level level) (not (has_stack level soft.memory)) is gone)
    refl in
    ap (λ (memory : List Segment). with_memory memory soft) (at-all (stays (later_levels levels)) soft.memory (all-stay_without soft (later_levels levels) kept later))
