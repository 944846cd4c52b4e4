-- What a stable sort by falling Version gives.
use Rattle.std.proofs.Common.{◌≡◌, ◌≤◌, ℕ, suc, ◌+◌, Bool, true, false, List, [], ◌∷◌, get_or, refl, ◌∙◌, sym, subst, add-one, arith}
use Rattle.std.specs.List.{list_all}
use Rattle.std.specs.List.Sorted.{IsSortedBy, IsStableBy, ties}
use Rattle.std.specs.Ordering.{is_lt, nat_cmp}
use Rattle.std.proofs.lemmas.Bool.{and_from, and_parts}
use Rattle.std.proofs.lemmas.Bool.Decides.{nat_tests}
use Rattle.std.proofs.lemmas.List.Elements.{filter_agree}
use Rattle.driver_model.specs.DriverOrder.{by_version}
use Rattle.driver_model.specs.OrderLaws.{FallingIsByVersion, has_version, has_version_up_to, is_by_handle, is_falling}
use Rattle.driver_model.specs.declared.binding.BindingBlock.{BindingBlock}

-- whether the Version of the first is greater than that of the second
abbrev pub is_higher : BindingBlock → BindingBlock → Bool
is_higher one other = is_lt (nat_cmp other.version one.version)

at_most_all : (low high : ℕ) (blocks : List BindingBlock) → low ≤ high → list_all (has_version_up_to low) blocks ≡ true → list_all (has_version_up_to high) blocks ≡ true
at_most_all low high [] le all = refl
at_most_all low high (block ∷ blocks) le all =
    let parts = and_parts (has_version_up_to low block) (list_all (has_version_up_to low) blocks) all in
    let first = parts.0 in
    and_from (has_version_up_to high block) (list_all (has_version_up_to high) blocks) (grind (arith, nat_tests, first, le)) (at_most_all low high blocks le parts.1)

sorted_rest : (block : BindingBlock) (blocks : List BindingBlock) → IsSortedBy is_higher (block ∷ blocks) → IsSortedBy is_higher blocks
sorted_rest block blocks sorted k d low up =
    let next : is_higher (get_or (block ∷ blocks) (suc (k + 1)) d) (get_or (block ∷ blocks) (k + 1) d) ≡ false =
    subst (λ n. is_higher (get_or (block ∷ blocks) n d) (get_or (block ∷ blocks) (k + 1) d) ≡ false) (add-one (k + 1)) (sorted (k + 1) d (omega arith) (omega arith)) in
    subst (λ n. is_higher (get_or (block ∷ blocks) (suc (k + 1)) d) (get_or (block ∷ blocks) n d) ≡ false) (add-one k) next

falling_from_sort : (blocks : List BindingBlock) → IsSortedBy is_higher blocks → is_falling blocks ≡ true
falling_from_sort [] sorted = refl
falling_from_sort (block ∷ []) sorted = refl
falling_from_sort (block ∷ other ∷ others) sorted =
    let first : is_higher other block ≡ false = sorted 0 block (omega arith) (omega arith) in
    let le : other.version ≤ block.version = grind (arith, nat_tests) in
    let rest : is_falling (other ∷ others) ≡ true = falling_from_sort (other ∷ others) (sorted_rest block (other ∷ others) sorted) in
    let parts = and_parts (list_all (has_version_up_to other.version) others) (is_falling others) rest in
    and_from (list_all (has_version_up_to block.version) (other ∷ others)) (is_falling (other ∷ others))
    (and_from (has_version_up_to block.version other) (list_all (has_version_up_to block.version) others) (grind (arith, nat_tests, le)) (at_most_all other.version block.version others le parts.0))
    rest

ties_are : (block other : BindingBlock) → ties is_higher block other ≡ has_version block.version other
ties_are block other = grind (arith, nat_tests)

-- drivers that are sorted by falling Version, those of equal Version by handle, are in their order by Version
pub by_version_from_sort : FallingIsByVersion → (blocks sorted : List BindingBlock) → is_by_handle blocks ≡ true → IsSortedBy is_higher sorted → IsStableBy is_higher blocks sorted → sorted ≡ by_version blocks
by_version_from_sort law blocks sorted rising falls stable =
    law blocks sorted rising (falling_from_sort sorted falls)
    (λ version.
    let one : BindingBlock = record { handle = 0; supported = 0; start = 0; stop = 0; version = version; image = 0; at = 0 } in
    sym (filter_agree (ties is_higher one) (has_version version) (ties_are one) sorted) ∙ stable one ∙ filter_agree (ties is_higher one) (has_version version) (ties_are one) blocks)
