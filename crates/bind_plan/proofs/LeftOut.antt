-- Lists from which drivers are left out. Reading bindings, taking first places and ordering by Version give the same,
-- whether the drivers are left out before or after it.
use Rattle.std.proofs.Common.{◌≡◌, ℕ, Bool, true, false, not, ◌||◌, nat_eq, List, [], ◌∷◌, ◌++◌, length, refl, sym, ap, ◌∙◌, inl, inr, arith}
use Rattle.std.specs.Prelude.{Option, Some, None, filter, if◌then◌else◌}
use Rattle.std.specs.List.{cons_option, list_all, list_any}
use Rattle.std.proofs.lemmas.Bool.{and_from, and_parts, cases_Bool, not-true, or_from, or_parts}
use Rattle.std.proofs.lemmas.Bool.Decides.{nat_tests}
use Rattle.std.proofs.lemmas.List.Elements.{filter-append}
use Rattle.std.proofs.lemmas.Map.Views.{any-filter_same}
use Rattle.handle_db.specs.Database.{interface_of}
use Rattle.fw_types.specs.Guid.{known_guid}
use Rattle.fw_types.specs.declared.guid.Known.TheVariants.{DriverBinding}
use Rattle.guest_memory.specs.GuestMemory.{is_readable}
use Rattle.world_model.specs.World.{Soft}
use Rattle.driver_model.specs.Bindings.{binding_at, bindings_of}
use Rattle.driver_model.specs.Connect.{is_marked, unmarked}
use Rattle.driver_model.specs.DriverOrder.{by_version, first_places, inserted, precedes}
use Rattle.driver_model.specs.OrderLaws.{has_handle_above, is_among, is_by_handle, is_by_version, is_handle}
use Rattle.driver_model.specs.declared.binding.BindingBlock.{BindingBlock}
use Rattle.driver_model.specs.declared.binding.TheConstants.{BINDING_SIZE}
use Rattle.bind_plan.specs.Unmarked.{unmarked_binding, unmarked_bindings}

-- ---- two tests

module _ (p q : BindingBlock → Bool) where
  -- it does not matter which of two tests comes first
  pub filter_swap : (blocks : List BindingBlock) → filter p (filter q blocks) ≡ filter q (filter p blocks)
  filter_swap [] = refl
  filter_swap (block ∷ blocks) =
      elim (cases_Bool (p block)) [
        | inl kept ↦ elim (cases_Bool (q block)) [
          | inl is ↦ simp (kept, is) (ap (λ (rest : List BindingBlock). block ∷ rest) (filter_swap blocks))
          | inr other ↦ simp (kept, other) (filter_swap blocks)
        ]
        | inr out ↦ elim (cases_Bool (q block)) [
          | inl is ↦ simp (out, is) (filter_swap blocks)
          | inr other ↦ simp (out, other) (filter_swap blocks)
        ]
      ]

  -- what fails the second test fails the first
  filter_within : ((block : BindingBlock) → q block ≡ false → p block ≡ false) → (blocks : List BindingBlock) → filter p (filter q blocks) ≡ filter p blocks
  filter_within fails [] = refl
  filter_within fails (block ∷ blocks) =
      elim (cases_Bool (q block)) [
        | inl is ↦ rw is (ap (λ (rest : List BindingBlock). if p block then block ∷ rest else rest) (filter_within fails blocks))
        | inr other ↦ rw (other, fails block other) (filter_within fails blocks)
      ]

-- two tests that agree on whatever passes a third one
filter_agreed : (p q r : BindingBlock → Bool) → ((block : BindingBlock) → p block ≡ true → q block ≡ r block) → (blocks : List BindingBlock)
    → filter q (filter p blocks) ≡ filter p (filter r blocks)
filter_agreed p q r agree [] = refl
filter_agreed p q r agree (block ∷ blocks) =
    elim (cases_Bool (p block)) [
      | inl kept ↦ elim (cases_Bool (r block)) [
        | inl is ↦ let same : q block ≡ true = agree block kept ∙ is in simp (kept, is, same) (ap (λ (rest : List BindingBlock). block ∷ rest) (filter_agreed p q r agree blocks))
        | inr other ↦ let same : q block ≡ false = agree block kept ∙ other in simp (kept, other, same) (filter_agreed p q r agree blocks)
      ]
      | inr out ↦ elim (cases_Bool (r block)) [
        | inl is ↦ simp (out, is) (filter_agreed p q r agree blocks)
        | inr other ↦ simp (out, other) (filter_agreed p q r agree blocks)
      ]
    ]

-- ---- the order by handle

all_left : (p test : BindingBlock → Bool) (blocks : List BindingBlock) → list_all test blocks ≡ true → list_all test (filter p blocks) ≡ true
all_left p test [] all = refl
all_left p test (block ∷ blocks) all =
    let parts = and_parts (test block) (list_all test blocks) all in
    elim (cases_Bool (p block)) [
      | inl kept ↦ rw kept (and_from (test block) (list_all test (filter p blocks)) parts.0 (all_left p test blocks parts.1))
      | inr out ↦ rw out (all_left p test blocks parts.1)
    ]

pub rising_left : (p : BindingBlock → Bool) (blocks : List BindingBlock) → is_by_handle blocks ≡ true → is_by_handle (filter p blocks) ≡ true
rising_left p [] rising = refl
rising_left p (block ∷ blocks) rising =
    let parts = and_parts (list_all (has_handle_above block.handle) blocks) (is_by_handle blocks) rising in
    elim (cases_Bool (p block)) [
      | inl kept ↦
          rw kept
          (and_from (list_all (has_handle_above block.handle) (filter p blocks)) (is_by_handle (filter p blocks))
          (all_left p (has_handle_above block.handle) blocks parts.0) (rising_left p blocks parts.1))
      | inr out ↦ rw out (rising_left p blocks parts.1)
    ]

-- ---- the order by Version

abbrev before : BindingBlock → BindingBlock → Bool
before one later = precedes later one

or-swap : (a b c : Bool) → (a || (b || c)) ≡ (b || (a || c))
or-swap true true c = refl
or-swap true false c = refl
or-swap false b c = refl

any-inserted : (test : BindingBlock → Bool) (block : BindingBlock) (blocks : List BindingBlock)
    → list_any test (inserted block blocks) ≡ (test block || list_any test blocks)
any-inserted test block [] = refl
any-inserted test block (other ∷ others) =
    elim (cases_Bool (precedes block other)) [
      | inl first ↦ rw first refl
      | inr later ↦ rw later (ap (λ (b : Bool). test other || b) (any-inserted test block others) ∙ or-swap (test other) (test block) (list_any test others))
    ]

-- a driver that precedes another also precedes all that do not precede that other
all_preceded : (one other : BindingBlock) (blocks : List BindingBlock) → precedes one other ≡ true → list_any (before other) blocks ≡ false → list_all (precedes one) blocks ≡ true
all_preceded one other [] first none = refl
all_preceded one other (third ∷ blocks) first none =
    let parts = or_parts (precedes third other) (list_any (before other) blocks) none in
    let later = parts.0 in
    and_from (precedes one third) (list_all (precedes one) blocks) (grind (arith, nat_tests, first, later)) (all_preceded one other blocks first parts.1)

none_before : (one other : BindingBlock) (blocks : List BindingBlock) → precedes one other ≡ true → list_any (before other) blocks ≡ false → list_any (before one) blocks ≡ false
none_before one other [] first none = refl
none_before one other (third ∷ blocks) first none =
    let parts = or_parts (precedes third other) (list_any (before other) blocks) none in
    let later = parts.0 in
    or_from (precedes third one) (list_any (before one) blocks) (grind (arith, nat_tests, first, later)) (none_before one other blocks first parts.1)

falls-inserted : (block : BindingBlock) (blocks : List BindingBlock) → is_by_version blocks ≡ true → is_by_version (inserted block blocks) ≡ true
falls-inserted block [] falls = refl
falls-inserted block (other ∷ others) falls =
    let parts = and_parts (not (list_any (before other) others)) (is_by_version others) falls in
    let none = not-true (list_any (before other) others) parts.0 in
    elim (cases_Bool (precedes block other)) [
      | inl first ↦
          let back : precedes other block ≡ false = grind (arith, nat_tests, first) in
          rw (first, back, none_before block other others first none) falls
      | inr later ↦ rw (later, any-inserted (before other) block others, later, none) (falls-inserted block others parts.1)
    ]

falls-by_version : (blocks : List BindingBlock) → is_by_version (by_version blocks) ≡ true
falls-by_version [] = refl
falls-by_version (block ∷ blocks) = falls-inserted block (by_version blocks) (falls-by_version blocks)

module _ (p : BindingBlock → Bool) where
  inserted_first : (block : BindingBlock) (blocks : List BindingBlock) → list_all (precedes block) blocks ≡ true → inserted block (filter p blocks) ≡ block ∷ filter p blocks
  inserted_first block [] all = refl
  inserted_first block (other ∷ others) all =
      let parts = and_parts (precedes block other) (list_all (precedes block) others) all in
      elim (cases_Bool (p other)) [
        | inl kept ↦ rw (kept, parts.0) refl
        | inr out ↦ rw out (inserted_first block others parts.1)
      ]

  filter-inserted : (block : BindingBlock) (blocks : List BindingBlock) → is_by_version blocks ≡ true
      → filter p (inserted block blocks) ≡ (if p block then inserted block (filter p blocks) else filter p blocks)
  filter-inserted block [] falls = refl
  filter-inserted block (other ∷ others) falls =
      let parts = and_parts (not (list_any (before other) others)) (is_by_version others) falls in
      elim (cases_Bool (precedes block other)) [
        | inl first ↦
            let all : list_all (precedes block) (other ∷ others) ≡ true =
            and_from (precedes block other) (list_all (precedes block) others) first (all_preceded block other others first (not-true (list_any (before other) others) parts.0)) in
            rw first (ap (λ (rest : List BindingBlock). if p block then rest else filter p (other ∷ others)) (sym (inserted_first block (other ∷ others) all)))
        | inr later ↦ rw later (behind later (filter-inserted block others parts.1))
      ]
    where
      behind : precedes block other ≡ false → filter p (inserted block others) ≡ (if p block then inserted block (filter p others) else filter p others)
          → filter p (other ∷ inserted block others) ≡ (if p block then inserted block (filter p (other ∷ others)) else filter p (other ∷ others))
      behind later rest =
          elim (cases_Bool (p other)) [
            | inl kept ↦ elim (cases_Bool (p block)) [
              | inl is ↦ let here : filter p (inserted block others) ≡ inserted block (filter p others) = rw is at rest in simp (kept, is, later) (ap (λ (l : List BindingBlock). other ∷ l) here)
              | inr not_it ↦ let here : filter p (inserted block others) ≡ filter p others = rw not_it at rest in simp (kept, not_it) (ap (λ (l : List BindingBlock). other ∷ l) here)
            ]
            | inr out ↦ rw out rest
          ]

  -- drivers are left out before the sort or after it
  pub by_version_left : (blocks : List BindingBlock) → by_version (filter p blocks) ≡ filter p (by_version blocks)
  by_version_left [] = refl
  by_version_left (block ∷ blocks) =
      let same = by_version_left blocks in
      let here = filter-inserted block (by_version blocks) (falls-by_version blocks) in
      elim (cases_Bool (p block)) [
        | inl kept ↦ rw kept (ap (inserted block) same ∙ sym (rw kept at here))
        | inr out ↦ rw out (same ∙ sym (rw out at here))
      ]

-- ---- marked drivers

module _ (marked : List ℕ) where
  abbrev stays : BindingBlock → Bool
  stays block = not (is_marked marked block)

  pub unmarked_append : (blocks others : List BindingBlock) → unmarked marked (blocks ++ others) ≡ unmarked marked blocks ++ unmarked marked others
  unmarked_append blocks others = filter-append stays blocks others

  -- drivers with the same handle are marked alike
  marked_alike : (block other : BindingBlock) → not (nat_eq other.handle block.handle) ≡ false → stays block ≡ false → stays other ≡ false
  marked_alike block other same gone =
      let equal : other.handle ≡ block.handle = grind (arith, nat_tests) in
      ap (λ (handle : ℕ). not (list_any (nat_eq handle) marked)) equal ∙ gone

  pub first_places_left : (blocks : List BindingBlock) → first_places (unmarked marked blocks) ≡ unmarked marked (first_places blocks)
  first_places_left [] = refl
  first_places_left (block ∷ blocks) =
      let others = λ (other : BindingBlock). not (nat_eq other.handle block.handle) in
      elim (cases_Bool (stays block)) [
        | inl kept ↦
            rw kept
            (ap (λ (rest : List BindingBlock). block ∷ filter others rest) (first_places_left blocks)
            ∙ ap (λ (rest : List BindingBlock). block ∷ rest) (filter_swap others stays (first_places blocks)))
        | inr out ↦
            rw out (first_places_left blocks ∙ sym (filter_within stays others (λ other same. marked_alike block other same out) (first_places blocks)))
      ]

  -- three groups of drivers, each read without the marked ones
  pub chosen_left : (context platform bus : List BindingBlock)
      → first_places ((unmarked marked context ++ unmarked marked platform) ++ unmarked marked bus) ≡ unmarked marked (first_places ((context ++ platform) ++ bus))
  chosen_left context platform bus =
      ap (λ (groups : List BindingBlock). first_places (groups ++ unmarked marked bus)) (sym (filter-append stays context platform))
      ∙ ap first_places (sym (filter-append stays (context ++ platform) bus))
      ∙ first_places_left ((context ++ platform) ++ bus)

  -- a driver that is not marked is among others exactly if it is among the unmarked ones
  among_left : (chosen : List BindingBlock) (block : BindingBlock) → stays block ≡ true → is_among (unmarked marked chosen) block ≡ is_among chosen block
  among_left chosen block here =
      any-filter_same (is_handle block.handle) stays true
      (λ other is.
      let equal : other.handle ≡ block.handle = grind (arith, nat_tests, is) in
      ap (λ (handle : ℕ). not (list_any (nat_eq handle) marked)) equal ∙ here)
      chosen

  -- the order without the marked drivers
  pub order_left : (chosen all : List BindingBlock)
      → unmarked marked chosen ++ filter (λ block. not (is_among (unmarked marked chosen) block)) (by_version (unmarked marked all))
      ≡ unmarked marked (chosen ++ filter (λ block. not (is_among chosen block)) (by_version all))
  order_left chosen all =
      ap (λ (rest : List BindingBlock). unmarked marked chosen ++ filter (λ block. not (is_among (unmarked marked chosen) block)) rest) (by_version_left stays all)
      ∙ ap (λ (rest : List BindingBlock). unmarked marked chosen ++ rest)
      (filter_agreed stays (λ block. not (is_among (unmarked marked chosen) block)) (λ block. not (is_among chosen block)) (λ block here. ap not (among_left chosen block here)) (by_version all))
      ∙ sym (filter-append stays chosen (filter (λ block. not (is_among chosen block)) (by_version all)))

  -- the same, for lists that are equal to its parts
  pub order_by_parts : (chosen sorted first all whole : List BindingBlock) → chosen ≡ unmarked marked first → sorted ≡ by_version (unmarked marked all)
      → whole ≡ first ++ filter (λ block. not (is_among first block)) (by_version all)
      → chosen ++ filter (λ block. not (is_among chosen block)) sorted ≡ unmarked marked whole
  order_by_parts chosen sorted first all whole are_first are_sorted is_whole = rw (are_first, are_sorted, is_whole) (order_left first all)

  -- ---- bindings that are not read

  module _ (soft : Soft) where
    step_left : (handle : ℕ) (found : Option (ℕ × ℕ)) (blocks : List BindingBlock)
        → cons_option (if list_any (nat_eq handle) marked then None else binding_at handle found soft) (unmarked marked blocks)
        ≡ unmarked marked (cons_option (binding_at handle found soft) blocks)
    step_left handle None blocks = by_test (list_any (nat_eq handle) marked)
      where
        by_test : (b : Bool) → cons_option (if b then None else None) (unmarked marked blocks) ≡ unmarked marked blocks
        by_test true = refl
        by_test false = refl
    step_left handle (Some interface) blocks =
        elim (cases_Bool (list_any (nat_eq handle) marked)) [
          | inl is ↦ elim (cases_Bool (is_readable soft.memory interface.0 BINDING_SIZE)) [
            | inl readable ↦ simp (readable, is) refl
            | inr not_so ↦ simp (not_so, is) refl
          ]
          | inr other ↦ elim (cases_Bool (is_readable soft.memory interface.0 BINDING_SIZE)) [
            | inl readable ↦ simp (readable, other) refl
            | inr not_so ↦ simp (not_so, other) refl
          ]
        ]

    pub bindings_left : (handles : List ℕ) → unmarked_bindings marked handles soft ≡ unmarked marked (bindings_of handles soft)
    bindings_left [] = refl
    bindings_left (handle ∷ handles) =
        ap (λ (rest : List BindingBlock). cons_option (unmarked_binding marked handle soft) rest) (bindings_left handles)
        ∙ step_left handle (interface_of handle (known_guid DriverBinding) soft.database) (bindings_of handles soft)

-- ---- no driver is left out

pub none_marked : (blocks : List BindingBlock) → unmarked [] blocks ≡ blocks
none_marked [] = refl
none_marked (block ∷ blocks) = ap (λ (rest : List BindingBlock). block ∷ rest) (none_marked blocks)

none_among : (blocks : List BindingBlock) → filter (λ block. not (is_among [] block)) blocks ≡ blocks
none_among [] = refl
none_among (block ∷ blocks) = ap (λ (rest : List BindingBlock). block ∷ rest) (none_among blocks)

pub none_chosen : (chosen others : List BindingBlock) → length chosen ≡ 0 → others ≡ chosen ++ filter (λ block. not (is_among chosen block)) others
none_chosen [] others none = sym (none_among others)
none_chosen (block ∷ chosen) others none = absurd (omega (arith, none))
