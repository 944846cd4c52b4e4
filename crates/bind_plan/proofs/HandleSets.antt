-- Sets of handles, and the drivers whose handles are looked up in them.
use Rattle.std.proofs.Common.{◌≡◌, ℕ, ◌+◌, ◌<◌, Bool, true, false, not, ◌||◌, cond, nat_eq, List, [], ◌∷◌, ◌++◌, length, take, get_or, map, reverse, refl, sym, ap, ◌∙◌, arith}
use Rattle.std.specs.Prelude.{filter, if◌then◌else◌}
use Rattle.std.specs.List.{list_any}
use Rattle.std.specs.Ordering.{is_eq, nat_cmp}
use Rattle.std.specs.BTreeSet.{BTreeSet, Updates, contains}
use Rattle.std.proofs.lemmas.Bool.Decides.{nat_tests}
use Rattle.std.proofs.lemmas.List.{reverse-append}
use Rattle.std.proofs.lemmas.List.Folds.{list_any-append, list_any_more}
use Rattle.driver_model.specs.Connect.{is_marked, unmarked}
use Rattle.driver_model.specs.OrderLaws.{is_among, is_handle}
use Rattle.driver_model.specs.declared.binding.BindingBlock.{BindingBlock}
use Rattle.bind_plan.specs.HandleSet.{AreHandlesOf, IsSetOf}

-- numbers that compare as equal are equal
is_eq-nat_cmp : (a b : ℕ) → is_eq (nat_cmp a b) ≡ nat_eq a b
is_eq-nat_cmp a b = grind (arith, nat_tests)

nat_eq-sym : (a b : ℕ) → nat_eq a b ≡ nat_eq b a
nat_eq-sym a b = grind (arith, nat_tests)

-- one more number, whether or not the set had it before
by_test : (here there : Bool) → cond here true there ≡ (there || here)
by_test true true = refl
by_test true false = refl
by_test false true = refl
by_test false false = refl

module _ (old new : BTreeSet ℕ) (number : ℕ) (updates : Updates nat_cmp old new number true) where
  has_more : (q : ℕ) → contains nat_cmp new q ≡ (contains nat_cmp old q || nat_eq number q)
  has_more q =
      updates.0 q ∙ ap (λ (here : Bool). cond here true (contains nat_cmp old q)) (is_eq-nat_cmp number q)
      ∙ by_test (nat_eq number q) (contains nat_cmp old q)

-- the next number of a list is added to the set of those before it
pub set_more : (old new : BTreeSet ℕ) (numbers : List ℕ) (i : ℕ) → Updates nat_cmp old new (get_or numbers i 0) true → i < length numbers → IsSetOf (take i numbers) old → IsSetOf (take (i + 1) numbers) new
set_more old new numbers i updates lt of q =
    has_more old new (get_or numbers i 0) updates q
    ∙ ap (λ (there : Bool). there || nat_eq (get_or numbers i 0) q) (of q)
    ∙ ap (λ (here : Bool). list_any (nat_eq q) (take i numbers) || here) (nat_eq-sym (get_or numbers i 0) q)
    ∙ sym (list_any_more (nat_eq q) numbers i 0 lt)

-- a number is added to the set of a list, and becomes the first of that list
pub set_with_first : (old new : BTreeSet ℕ) (numbers : List ℕ) (number : ℕ) → Updates nat_cmp old new number true → IsSetOf numbers old → IsSetOf (number ∷ numbers) new
set_with_first old new numbers number updates of q =
    has_more old new number updates q
    ∙ ap (λ (there : Bool). there || nat_eq number q) (of q)
    ∙ ap (λ (here : Bool). list_any (nat_eq q) numbers || here) (nat_eq-sym number q)
    ∙ or_swap (list_any (nat_eq q) numbers) (nat_eq q number)
  where
    or_swap : (here there : Bool) → (here || there) ≡ (there || here)
    or_swap true true = refl
    or_swap true false = refl
    or_swap false true = refl
    or_swap false false = refl

-- the last number of a list is the first of the reversed list
pub reverse_with_last : (numbers : List ℕ) (number : ℕ) → reverse (numbers ++ number ∷ []) ≡ number ∷ reverse numbers
reverse_with_last numbers number = reverse-append numbers (number ∷ [])

-- a driver whose handle is not in the set of the others is put after them, and its handle is added to the set
module _ (old new : BTreeSet ℕ) (block : BindingBlock) (updates : Updates nat_cmp old new block.handle true) (drivers : List BindingBlock) (of : AreHandlesOf drivers old) where
  same_test : (q : ℕ) → list_any (is_handle q) (block ∷ []) ≡ nat_eq block.handle q
  same_test q = by_last (nat_eq block.handle q)
    where
      by_last : (b : Bool) → (b || false) ≡ b
      by_last true = refl
      by_last false = refl

  pub handles_more : AreHandlesOf (drivers ++ block ∷ []) new
  handles_more q =
      has_more old new block.handle updates q
      ∙ ap (λ (there : Bool). there || nat_eq block.handle q) (of q)
      ∙ ap (λ (here : Bool). list_any (is_handle q) drivers || here) (sym (same_test q))
      ∙ sym (list_any-append (is_handle q) drivers (block ∷ []))

-- ---- the drivers outside a set

filter_same : (p q : BindingBlock → Bool) → ((block : BindingBlock) → p block ≡ q block) → (blocks : List BindingBlock) → filter p blocks ≡ filter q blocks
filter_same p q same [] = refl
filter_same p q same (block ∷ blocks) =
    ap (λ (b : Bool). if b then block ∷ filter p blocks else filter p blocks) (same block)
    ∙ ap (λ (rest : List BindingBlock). if q block then block ∷ rest else rest) (filter_same p q same blocks)

pub outside_is_unmarked : (set : BTreeSet ℕ) (handles : List ℕ) (blocks : List BindingBlock) → IsSetOf handles set
    → filter (λ (block : BindingBlock). not (contains nat_cmp set block.handle)) blocks ≡ unmarked handles blocks
outside_is_unmarked set handles blocks of =
    filter_same (λ (block : BindingBlock). not (contains nat_cmp set block.handle)) (λ (block : BindingBlock). not (is_marked handles block)) (λ block. ap not (of block.handle)) blocks

-- the handles of drivers mark exactly these drivers
among_marked : (chosen : List BindingBlock) (block : BindingBlock) → is_marked (map (λ (one : BindingBlock). one.handle) chosen) block ≡ is_among chosen block
among_marked [] block = refl
among_marked (one ∷ chosen) block =
    ap (λ (here : Bool). here || is_marked (map (λ (one : BindingBlock). one.handle) chosen) block) (nat_eq-sym block.handle one.handle)
    ∙ ap (λ (there : Bool). nat_eq one.handle block.handle || there) (among_marked chosen block)

pub unmarked_by_drivers : (chosen blocks : List BindingBlock) → unmarked (map (λ (one : BindingBlock). one.handle) chosen) blocks ≡ filter (λ block. not (is_among chosen block)) blocks
unmarked_by_drivers chosen blocks =
    filter_same (λ block. not (is_marked (map (λ (one : BindingBlock). one.handle) chosen) block)) (λ block. not (is_among chosen block))
    (λ block. ap not (among_marked chosen block)) blocks
