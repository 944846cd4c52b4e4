-- A stack that is pushed and popped again: what stays in between stays from before the push to after the pop.
use Rattle.std.proofs.Common.{◌≡◌, ◌<◌, ◌≤◌, ℕ, suc, ◌+◌, ◌-◌, Bool, true, false, ◌||◌, not, nat_eq, List, [], ◌∷◌, length, filter, refl, sym, ap, ◌∙◌, subst, arith}
use Rattle.std.specs.List.{list_all}
use Rattle.std.proofs.lemmas.Bool.Decides.{nat_tests}
use Rattle.fw_types.specs.declared.limits.TheConstants.{MOST_LEVELS, MOST_LISTED}
use Rattle.guest_memory.specs.declared.segment.Segment.{Segment}
use Rattle.guest_memory.specs.GuestMemory.{mapped, unmapped}
use Rattle.guest_memory.proofs.SegmentLemmas.{lie_from-unmapped}
use Rattle.world_model.specs.World.{Soft}
use Rattle.world_model.specs.Kept.{IsKept}
use Rattle.world_model.specs.Levels.{is_free}
use Rattle.world_model.specs.Marks.{stacks}
use Rattle.world_model.specs.Stacks.{has_stack, list_base, list_segment, stack_base, stack_popped, stack_pushed, stack_segment}
use Rattle.world_model.proofs.KeepingStacks.{popping, pushing}
use Rattle.world_model.proofs.Levels.{next_is_free, pushing_leaves_free}
use Rattle.world_model.proofs.Segments.{list_all-unmapped}
use Rattle.world_model.proofs.StackLaws.{popping as popping_stacks, popping_undoes_push, pushing as pushing_stacks, stack_of_level}
use Rattle.driver_model.specs.Allowed.{has_sixteen}
use Rattle.driver_model.specs.Staying.{CanRun, KeepsBytes, Stays, fits_list, if_fixed, is_later_block}
use Rattle.driver_model.proofs.FixedBytes.{pass_elsewhere, pass_except_address, pass_mapped, unmapped_elsewhere}

-- ---- bytes that no code may write

or_second : (a b : Bool) → b ≡ true → (a || b) ≡ true
or_second true b is = refl
or_second false b is = is

-- Of the two segments that are pushed, code may write the stack, and the list of children lies at an address of its own.
pushed_pass : (test : Segment → Bool) (level : ℕ) (slots children : List ℕ) (soft : Soft) → list_all (if_fixed test) soft.memory ≡ true
    → list_all (if_fixed (λ (segment : Segment). test segment || nat_eq segment.base (list_base level))) (stack_pushed level slots children soft).memory ≡ true
pushed_pass test level slots [] soft all =
    pass_mapped (λ (segment : Segment). test segment || nat_eq segment.base (list_base level)) (stack_segment level slots) soft.memory refl
    (pass_except_address test (list_base level) soft.memory all)
pushed_pass test level slots (child ∷ children) soft all =
    let except : Segment → Bool = λ (segment : Segment). test segment || nat_eq segment.base (list_base level) in
    let same : nat_eq (list_base level) (list_base level) ≡ true = grind (arith, nat_tests) in
    pass_mapped except (list_segment level (child ∷ children)) (mapped (stack_segment level slots) soft.memory)
    (or_second (test (list_segment level (child ∷ children))) (nat_eq (list_base level) (list_base level)) same)
    (pass_mapped except (stack_segment level slots) soft.memory refl (pass_except_address test (list_base level) soft.memory all))

popped_bytes : (level : ℕ) (slots children : List ℕ) (soft during : Soft) → IsKept during → KeepsBytes (stack_pushed level slots children soft) during → KeepsBytes soft (stack_popped level during)
popped_bytes level slots children soft during kept keeps test all =
    let without_stack : List Segment = unmapped during.memory (stack_base level) in
    let later : Segment → Bool = λ (segment : Segment). (test segment || nat_eq segment.base (list_base level)) || is_later_block soft segment in
    let there : list_all (if_fixed later) during.memory ≡ true =
    keeps (λ (segment : Segment). test segment || nat_eq segment.base (list_base level)) (pushed_pass test level slots children soft all) in
    pass_elsewhere test (is_later_block soft) (list_base level) (unmapped without_stack (list_base level))
    (list_all-unmapped (if_fixed later) (list_base level) without_stack (list_all-unmapped (if_fixed later) (stack_base level) during.memory there))
    (unmapped_elsewhere 0 (list_base level) without_stack (lie_from-unmapped 0 during.memory (stack_base level) kept.memory.apart))

-- ---- at a level

module _ (level : ℕ) (slots children : List ℕ) (soft : Soft) (can : CanRun level soft) (lt : level < MOST_LEVELS) (sixteen : has_sixteen slots ≡ true) (few : fits_list children ≡ true) where
  -- the levels that may still be entered from the next one
  abbrev left : ℕ
  left = MOST_LEVELS - suc level

  next : MOST_LEVELS - left ≡ suc level
  next = omega (arith, lt)

  free_from_next : is_free (left + 1) (stacks soft) [] ≡ true
  free_from_next = let all : left + 1 ≡ MOST_LEVELS - level = omega (arith, lt) in rw all can.free

  no_stack : has_stack (suc level) soft.memory ≡ false
  no_stack = rw (← next) (next_is_free left soft [] (omega (arith, lt)) free_from_next).0

  pushed_kept : IsKept (stack_pushed (suc level) slots children soft)
  pushed_kept =
      let long : length slots ≡ 16 = grind (arith, nat_tests, sixteen) in
      let some : length children ≤ MOST_LISTED = grind (arith, nat_tests, few) in
      pushing soft (suc level) slots children can.kept (omega arith) (omega (arith, lt)) long no_stack some

  -- with the stack of the next level, that level can run
  pub next_can_run : CanRun (suc level) (stack_pushed (suc level) slots children soft)
  next_can_run = record {
    kept = pushed_kept;
    free = subst (λ at. is_free left (stacks (stack_pushed at slots children soft)) [] ≡ true) next
        (pushing_leaves_free left soft slots children [] (omega (arith, lt)) can.kept free_from_next);
  }

  -- what stays while the stack is there, stays after the pop
  pub popped_stays : (during : Soft) → Stays (stack_pushed (suc level) slots children soft) during → Stays soft (stack_popped (suc level) during)
  popped_stays during inner = record {
    kept = popping during (suc level) inner.kept (omega arith) (omega (arith, lt));
    stacks =
        popping_stacks during (suc level) inner.kept (omega (arith, lt))
        ∙ ap (filter (λ (base : ℕ). not (nat_eq base (stack_base (suc level))))) (inner.stacks ∙ pushing_stacks soft (suc level) slots children can.kept)
        ∙ popping_undoes_push (suc level) (stacks soft) (sym (stack_of_level soft (suc level)) ∙ no_stack);
    later = let later = inner.later in omega (arith, later);
    bytes = popped_bytes (suc level) slots children soft during inner.kept inner.bytes;
  }
