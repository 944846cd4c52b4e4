-- Each driver of a list once, at its first place.
use Rattle.std.proofs.Common.{◌≡◌, ℕ, Bool, true, false, ◌&&◌, ◌||◌, not, nat_eq, List, [], ◌∷◌, ◌++◌, refl, ap, ◌∙◌, sym, if◌then◌else◌, arith}
use Rattle.std.specs.Prelude.{filter}
use Rattle.std.specs.List.{list_any, list_all}
use Rattle.std.proofs.lemmas.Bool.{and_parts, or_from, or_parts}
use Rattle.std.proofs.lemmas.Bool.Decides.{nat_tests}
use Rattle.std.proofs.lemmas.List.Elements.{filter-append, filter_agree}
use Rattle.std.proofs.lemmas.Bool.{not-true as not_true}
use Rattle.driver_model.specs.DriverOrder.{first_places}
use Rattle.driver_model.specs.OrderLaws.{OneMoreComesLast, is_by_handle, is_among, has_handle_above, is_each_once, is_handle}
use Rattle.driver_model.specs.declared.binding.BindingBlock.{BindingBlock}

-- whether a driver has another handle than this one
abbrev pub is_other : (handle : ℕ) → BindingBlock → Bool
is_other handle block = not (nat_eq block.handle handle)

abbrev pub is_new : List BindingBlock → BindingBlock → Bool
is_new blocks block = not (is_among blocks block)

-- all drivers are new if there were none
all_new : (blocks : List BindingBlock) → filter (is_new []) blocks ≡ blocks
all_new [] = refl
all_new (block ∷ blocks) = ap (λ l. block ∷ l) (all_new blocks)

-- of two filters, the second keeps what both keep
filter-filter : (p q : BindingBlock → Bool) (blocks : List BindingBlock) → filter p (filter q blocks) ≡ filter (λ block. q block && p block) blocks
filter-filter p q [] = refl
filter-filter p q (block ∷ blocks) = by_tests (q block) (p block) refl (filter-filter p q blocks)
  where
    by_tests : (first second : Bool) → p block ≡ second → filter p (filter q blocks) ≡ filter (λ block. q block && p block) blocks
        → filter p (if first then block ∷ filter q blocks else filter q blocks)
        ≡ (if first && second then block ∷ filter (λ block. q block && p block) blocks else filter (λ block. q block && p block) blocks)
    by_tests true true is later = rw is (ap (λ l. block ∷ l) later)
    by_tests true false is later = rw is later
    by_tests false second is later = later

-- the drivers with one handle are there, whether those with another one are left out or not
among_others : (handle other : ℕ) → nat_eq other handle ≡ false → (blocks : List BindingBlock)
    → list_any (is_handle other) (filter (is_other handle) blocks) ≡ list_any (is_handle other) blocks
among_others handle other differ [] = refl
among_others handle other differ (block ∷ blocks) = by_test (nat_eq block.handle handle) refl (among_others handle other differ blocks)
  where
    by_test : (is : Bool) → nat_eq block.handle handle ≡ is → list_any (is_handle other) (filter (is_other handle) blocks) ≡ list_any (is_handle other) blocks
        → list_any (is_handle other) (if not is then block ∷ filter (is_other handle) blocks else filter (is_other handle) blocks) ≡ (nat_eq block.handle other || list_any (is_handle other) blocks)
    by_test true is later =
        let no : nat_eq block.handle other ≡ false = grind (arith, nat_tests) in
        rw no later
    by_test false is later = ap (λ b. nat_eq block.handle other || b) later

-- after a driver, those are new that are neither it nor one of the others
new_after : (first : BindingBlock) (others : List BindingBlock) (block : BindingBlock)
    → (is_new others block && is_other first.handle block) ≡ is_new (first ∷ filter (is_other first.handle) others) block
new_after first others block = by_test (nat_eq block.handle first.handle) refl
  where
    by_test : (is : Bool) → nat_eq block.handle first.handle ≡ is
        → (is_new others block && not is) ≡ not (nat_eq first.handle block.handle || list_any (is_handle block.handle) (filter (is_other first.handle) others))
    by_test true is =
        let same : nat_eq first.handle block.handle ≡ true = grind (arith, nat_tests) in
        rw same (no_and (is_new others block))
      where
        no_and : (b : Bool) → (b && false) ≡ false
        no_and true = refl
        no_and false = refl
    by_test false is =
        let differ : nat_eq first.handle block.handle ≡ false = grind (arith, nat_tests) in
        rw (differ, among_others first.handle block.handle is others) (and_yes (is_new others block))
      where
        and_yes : (b : Bool) → (b && true) ≡ b
        and_yes true = refl
        and_yes false = refl

-- of two lists one after the other, the first places are those of the first list, and those of the second that are new
pub first_places-append : (blocks more : List BindingBlock)
    → first_places (blocks ++ more) ≡ first_places blocks ++ filter (is_new (first_places blocks)) (first_places more)
first_places-append [] more = sym (all_new (first_places more))
first_places-append (block ∷ blocks) more =
    let places : List BindingBlock = first_places blocks in
    let others : List BindingBlock = first_places more in
    ap (λ l. block ∷ l)
    (ap (filter (is_other block.handle)) (first_places-append blocks more)
    ∙ filter-append (is_other block.handle) places (filter (is_new places) others)
    ∙ ap (λ l. filter (is_other block.handle) places ++ l)
    (filter-filter (is_other block.handle) (is_new places) others
    ∙ filter_agree (λ one. is_new places one && is_other block.handle one) (is_new (block ∷ filter (is_other block.handle) places)) (new_after block places) others))

-- ---- lists that have each driver once

all_others : (handle : ℕ) (blocks : List BindingBlock) → list_any (is_handle handle) blocks ≡ false → filter (is_other handle) blocks ≡ blocks
all_others handle [] none = refl
all_others handle (block ∷ blocks) none =
    let parts = or_parts (is_handle handle block) (list_any (is_handle handle) blocks) none in
    rw parts.0 (ap (λ l. block ∷ l) (all_others handle blocks parts.1))

-- such a list is its own first places
pub first_places_of_once : (blocks : List BindingBlock) → is_each_once blocks ≡ true → first_places blocks ≡ blocks
first_places_of_once [] once = refl
first_places_of_once (block ∷ blocks) once =
    let parts = and_parts (not (list_any (is_handle block.handle) blocks)) (is_each_once blocks) once in
    ap (λ l. block ∷ l)
    (ap (filter (is_other block.handle)) (first_places_of_once blocks parts.1)
    ∙ all_others block.handle blocks (not_true (list_any (is_handle block.handle) blocks) parts.0))

-- handles that rise differ
none_below : (handle : ℕ) (blocks : List BindingBlock) → list_all (has_handle_above handle) blocks ≡ true → list_any (is_handle handle) blocks ≡ false
none_below handle [] below = refl
none_below handle (block ∷ blocks) below =
    let parts = and_parts (has_handle_above handle block) (list_all (has_handle_above handle) blocks) below in
    let first = parts.0 in
    or_from (is_handle handle block) (list_any (is_handle handle) blocks) (grind (arith, nat_tests, first)) (none_below handle blocks parts.1)

pub rising_once : (blocks : List BindingBlock) → is_by_handle blocks ≡ true → is_each_once blocks ≡ true
rising_once [] rising = refl
rising_once (block ∷ blocks) rising =
    let parts = and_parts (list_all (has_handle_above block.handle) blocks) (is_by_handle blocks) rising in
    let none : list_any (is_handle block.handle) blocks ≡ false = none_below block.handle blocks parts.0 in
    rw none (rising_once blocks parts.1)

-- ---- a handle has a driver among the first places if it has one in the list

among_rest : (handle other : ℕ) (blocks : List BindingBlock) (here : Bool) → nat_eq handle other ≡ here
    → (here || list_any (is_handle other) (filter (is_other handle) blocks)) ≡ (here || list_any (is_handle other) blocks)
among_rest handle other blocks true is = refl
among_rest handle other blocks false is =
    let differ : nat_eq other handle ≡ false = grind (arith, nat_tests) in
    among_others handle other differ blocks

pub among_first_places : (handle : ℕ) (blocks : List BindingBlock) → list_any (is_handle handle) (first_places blocks) ≡ list_any (is_handle handle) blocks
among_first_places handle [] = refl
among_first_places handle (block ∷ blocks) =
    among_rest block.handle handle (first_places blocks) (nat_eq block.handle handle) refl
    ∙ ap (λ b. nat_eq block.handle handle || b) (among_first_places handle blocks)

-- ---- one more driver

one_new : (places : List BindingBlock) (block : BindingBlock) (here : Bool) → is_among places block ≡ here
    → filter (is_new places) (block ∷ []) ≡ (if here then [] else block ∷ [])
one_new places block true is = rw is refl
one_new places block false is = rw is refl

pub more-law : OneMoreComesLast
more-law blocks block =
    first_places-append blocks (block ∷ []) ∙ ap (λ l. first_places blocks ++ l) (one_new (first_places blocks) block (is_among (first_places blocks) block) refl)

-- ---- the first places have each driver once

-- a driver that is in no list is in no part of it
none_in_part : (P : BindingBlock → Bool) (handle : ℕ) (blocks : List BindingBlock) → list_any (is_handle handle) blocks ≡ false → list_any (is_handle handle) (filter P blocks) ≡ false
none_in_part P handle [] none = refl
none_in_part P handle (block ∷ blocks) none =
    let parts = or_parts (is_handle handle block) (list_any (is_handle handle) blocks) none in
    by_test (P block) parts.0 (none_in_part P handle blocks parts.1)
  where
    by_test : (is : Bool) → is_handle handle block ≡ false → list_any (is_handle handle) (filter P blocks) ≡ false
        → list_any (is_handle handle) (if is then block ∷ filter P blocks else filter P blocks) ≡ false
    by_test true here later = or_from (is_handle handle block) (list_any (is_handle handle) (filter P blocks)) here later
    by_test false here later = later

-- a part of a list has each driver once, if the list has
pub once_in_part : (P : BindingBlock → Bool) (blocks : List BindingBlock) → is_each_once blocks ≡ true → is_each_once (filter P blocks) ≡ true
once_in_part P [] once = refl
once_in_part P (block ∷ blocks) once =
    let parts = and_parts (not (list_any (is_handle block.handle) blocks)) (is_each_once blocks) once in
    by_test (P block) parts.0 (once_in_part P blocks parts.1)
  where
    by_test : (is : Bool) → not (list_any (is_handle block.handle) blocks) ≡ true → is_each_once (filter P blocks) ≡ true
        → is_each_once (if is then block ∷ filter P blocks else filter P blocks) ≡ true
    by_test true here later =
        let none : list_any (is_handle block.handle) (filter P blocks) ≡ false = none_in_part P block.handle blocks (not_true (list_any (is_handle block.handle) blocks) here) in
        rw none later
    by_test false here later = later

none_after_filter : (handle : ℕ) (blocks : List BindingBlock) → list_any (is_handle handle) (filter (λ (other : BindingBlock). not (nat_eq other.handle handle)) blocks) ≡ false
none_after_filter handle [] = refl
none_after_filter handle (block ∷ blocks) = by_test (nat_eq block.handle handle) refl (none_after_filter handle blocks)
  where
    by_test : (is : Bool) → nat_eq block.handle handle ≡ is
        → list_any (is_handle handle) (filter (λ (other : BindingBlock). not (nat_eq other.handle handle)) blocks) ≡ false
        → list_any (is_handle handle) (if not is then block ∷ filter (λ (other : BindingBlock). not (nat_eq other.handle handle)) blocks else filter (λ (other : BindingBlock). not (nat_eq other.handle handle)) blocks) ≡ false
    by_test true is later = later
    by_test false is later = rw is later

pub first_places_once : (blocks : List BindingBlock) → is_each_once (first_places blocks) ≡ true
first_places_once [] = refl
first_places_once (block ∷ blocks) =
    let once : is_each_once (filter (λ (other : BindingBlock). not (nat_eq other.handle block.handle)) (first_places blocks)) ≡ true = once_in_part _ (first_places blocks) (first_places_once blocks) in
    rw (none_after_filter block.handle (first_places blocks)) once
