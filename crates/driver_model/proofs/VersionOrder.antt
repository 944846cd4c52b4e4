-- The order of drivers by Version.
use Rattle.std.proofs.Common.{◌≡◌, ◌<◌, ℕ, Bool, true, false, ◌||◌, not, List, [], ◌∷◌, refl, ap, ◌∙◌, sym, subst, inl, inr, if◌then◌else◌, arith}
use Rattle.std.specs.Prelude.{filter}
use Rattle.std.specs.List.{list_any, list_all}
use Rattle.std.proofs.lemmas.Bool.{and_from, and_parts, or_from, or_parts, cases_order}
use Rattle.std.proofs.lemmas.Bool.Decides.{nat_tests}
use Rattle.driver_model.specs.DriverOrder.{by_version, inserted, precedes}
use Rattle.driver_model.specs.OrderLaws.{FallingIsByVersion, has_handle_above, has_version, has_version_up_to, is_by_handle, is_by_version, is_each_once, is_falling, is_handle}
use Rattle.std.proofs.lemmas.Bool.{not-true as not_true}
use Rattle.driver_model.specs.declared.binding.BindingBlock.{BindingBlock}

or-swap : (a b c : Bool) → (a || (b || c)) ≡ (b || (a || c))
or-swap true true c = refl
or-swap true false c = refl
or-swap false b c = refl

-- ---- what is in the list

any-inserted : (test : BindingBlock → Bool) (block : BindingBlock) (blocks : List BindingBlock)
    → list_any test (inserted block blocks) ≡ (test block || list_any test blocks)
any-inserted test block [] = refl
any-inserted test block (other ∷ others) = by_test (precedes block other) (any-inserted test block others)
  where
    by_test : (first : Bool) → list_any test (inserted block others) ≡ (test block || list_any test others)
        → list_any test (if first then block ∷ other ∷ others else other ∷ inserted block others) ≡ (test block || (test other || list_any test others))
    by_test true later = refl
    by_test false later = ap (λ b. test other || b) later ∙ or-swap (test other) (test block) (list_any test others)

pub any-by_version : (test : BindingBlock → Bool) (blocks : List BindingBlock) → list_any test (by_version blocks) ≡ list_any test blocks
any-by_version test [] = refl
any-by_version test (block ∷ blocks) = any-inserted test block (by_version blocks) ∙ ap (λ b. test block || b) (any-by_version test blocks)

-- each driver once
once-inserted : (block : BindingBlock) (blocks : List BindingBlock) → list_any (is_handle block.handle) blocks ≡ false → is_each_once blocks ≡ true → is_each_once (inserted block blocks) ≡ true
once-inserted block [] none once = refl
once-inserted block (other ∷ others) none once =
    let here = or_parts (is_handle block.handle other) (list_any (is_handle block.handle) others) none in
    let parts = and_parts (not (list_any (is_handle other.handle) others)) (is_each_once others) once in
    by_test (precedes block other) here.0 (not_true (list_any (is_handle other.handle) others) parts.0) (once-inserted block others here.1 parts.1)
  where
    by_test : (first : Bool) → is_handle block.handle other ≡ false → list_any (is_handle other.handle) others ≡ false → is_each_once (inserted block others) ≡ true
        → is_each_once (if first then block ∷ other ∷ others else other ∷ inserted block others) ≡ true
    by_test true differ alone later = rw none once
    by_test false differ alone later =
        let back : is_handle other.handle block ≡ false = grind (arith, nat_tests) in
        rw (any-inserted (is_handle other.handle) block others, back, alone) later

pub once-by_version : (blocks : List BindingBlock) → is_each_once blocks ≡ true → is_each_once (by_version blocks) ≡ true
once-by_version [] once = refl
once-by_version (block ∷ blocks) once =
    let parts = and_parts (not (list_any (is_handle block.handle) blocks)) (is_each_once blocks) once in
    once-inserted block (by_version blocks) (any-by_version (is_handle block.handle) blocks ∙ not_true (list_any (is_handle block.handle) blocks) parts.0) (once-by_version blocks parts.1)

-- ---- it goes by Version

-- whether a driver precedes another
abbrev before : BindingBlock → BindingBlock → Bool
before one later = precedes later one

precedes-before : (one other third : BindingBlock) → precedes one other ≡ true → precedes third other ≡ false → precedes third one ≡ false
precedes-before one other third first second = grind (arith, nat_tests)

none_before : (one other : BindingBlock) (blocks : List BindingBlock) → precedes one other ≡ true → list_any (before other) blocks ≡ false → list_any (before one) blocks ≡ false
none_before one other [] first none = refl
none_before one other (third ∷ blocks) first none =
    let parts = or_parts (precedes third other) (list_any (before other) blocks) none in
    or_from (precedes third one) (list_any (before one) blocks) (precedes-before one other third first parts.0) (none_before one other blocks first parts.1)

falls-inserted : (block : BindingBlock) (blocks : List BindingBlock) → is_by_version blocks ≡ true → is_by_version (inserted block blocks) ≡ true
falls-inserted block [] falls = refl
falls-inserted block (other ∷ others) falls =
    let parts = and_parts (not (list_any (before other) others)) (is_by_version others) falls in
    by_test (precedes block other) refl (not_true (list_any (before other) others) parts.0) (falls-inserted block others parts.1)
  where
    by_test : (first : Bool) → precedes block other ≡ first → list_any (before other) others ≡ false → is_by_version (inserted block others) ≡ true
        → is_by_version (if first then block ∷ other ∷ others else other ∷ inserted block others) ≡ true
    by_test true first none later =
        let back : precedes other block ≡ false = grind (arith, nat_tests) in
        let rest : list_any (before block) others ≡ false = none_before block other others first none in
        rw (back, rest) falls
    by_test false first none later = rw (any-inserted (before other) block others, first, none) later

pub falls-by_version : (blocks : List BindingBlock) → is_by_version (by_version blocks) ≡ true
falls-by_version [] = refl
falls-by_version (block ∷ blocks) = falls-inserted block (by_version blocks) (falls-by_version blocks)

-- ---- drivers with the same Version keep their order

all-inserted : (handle : ℕ) (block : BindingBlock) (blocks : List BindingBlock) → has_handle_above handle block ≡ true → list_all (has_handle_above handle) blocks ≡ true
    → list_all (has_handle_above handle) (inserted block blocks) ≡ true
all-inserted handle block [] first below = rw first refl
all-inserted handle block (other ∷ others) first below =
    let parts = and_parts (has_handle_above handle other) (list_all (has_handle_above handle) others) below in
    by_test (precedes block other) parts.0 (all-inserted handle block others first parts.1)
  where
    by_test : (front : Bool) → has_handle_above handle other ≡ true → list_all (has_handle_above handle) (inserted block others) ≡ true
        → list_all (has_handle_above handle) (if front then block ∷ other ∷ others else other ∷ inserted block others) ≡ true
    by_test true here later = rw first below
    by_test false here later = rw here later

all-by_version : (handle : ℕ) (blocks : List BindingBlock) → list_all (has_handle_above handle) blocks ≡ true → list_all (has_handle_above handle) (by_version blocks) ≡ true
all-by_version handle [] below = refl
all-by_version handle (block ∷ blocks) below =
    let parts = and_parts (has_handle_above handle block) (list_all (has_handle_above handle) blocks) below in
    all-inserted handle block (by_version blocks) parts.0 (all-by_version handle blocks parts.1)

same-inserted : (version : ℕ) (block : BindingBlock) (blocks : List BindingBlock) → list_all (has_handle_above block.handle) blocks ≡ true
    → filter (has_version version) (inserted block blocks) ≡ filter (has_version version) (block ∷ blocks)
same-inserted version block [] below = refl
same-inserted version block (other ∷ others) below =
    let parts = and_parts (has_handle_above block.handle other) (list_all (has_handle_above block.handle) others) below in
    by_first (precedes block other) refl parts.0 (same-inserted version block others parts.1)
  where
    by_tests : (mine his : Bool) → has_version version block ≡ mine → has_version version other ≡ his → precedes block other ≡ false → has_handle_above block.handle other ≡ true
        → filter (has_version version) (inserted block others) ≡ (if mine then block ∷ filter (has_version version) others else filter (has_version version) others)
        → (if his then other ∷ filter (has_version version) (inserted block others) else filter (has_version version) (inserted block others))
        ≡ (if mine then block ∷ (if his then other ∷ filter (has_version version) others else filter (has_version version) others)
        else (if his then other ∷ filter (has_version version) others else filter (has_version version) others))
    by_tests true true is one first above later =
        let never : ⊥ = grind (arith, nat_tests) in
        absurd never
    by_tests true false is one first above later = later
    by_tests false true is one first above later = ap (λ l. other ∷ l) later
    by_tests false false is one first above later = later

    by_first : (first : Bool) → precedes block other ≡ first → has_handle_above block.handle other ≡ true
        → filter (has_version version) (inserted block others) ≡ filter (has_version version) (block ∷ others)
        → filter (has_version version) (if first then block ∷ other ∷ others else other ∷ inserted block others) ≡ filter (has_version version) (block ∷ other ∷ others)
    by_first true is above later = refl
    by_first false is above later = by_tests (has_version version block) (has_version version other) refl refl is above later

same-by_version : (version : ℕ) (blocks : List BindingBlock) → is_by_handle blocks ≡ true → filter (has_version version) (by_version blocks) ≡ filter (has_version version) blocks
same-by_version version [] rising = refl
same-by_version version (block ∷ blocks) rising =
    let parts = and_parts (list_all (has_handle_above block.handle) blocks) (is_by_handle blocks) rising in
    same-inserted version block (by_version blocks) (all-by_version block.handle blocks parts.0)
    ∙ ap (λ l. if has_version version block then block ∷ l else l) (same-by_version version blocks parts.1)

-- ---- a list is determined by its order by Version and by the order of the drivers with each Version

none_of_version : (version high : ℕ) (blocks : List BindingBlock) → high < version → list_all (has_version_up_to high) blocks ≡ true → filter (has_version version) blocks ≡ []
none_of_version version high [] above low = refl
none_of_version version high (block ∷ blocks) above low =
    let parts = and_parts (has_version_up_to high block) (list_all (has_version_up_to high) blocks) low in
    let first = parts.0 in
    let no : has_version version block ≡ false = grind (arith, nat_tests, first) in
    rw no (none_of_version version high blocks above parts.1)

none_above : (version : ℕ) (block : BindingBlock) (blocks : List BindingBlock) → block.version < version → is_falling (block ∷ blocks) ≡ true
    → filter (has_version version) (block ∷ blocks) ≡ []
none_above version block blocks above falls =
    let parts = and_parts (list_all (has_version_up_to block.version) blocks) (is_falling blocks) falls in
    none_of_version version block.version (block ∷ blocks) above (and_from (has_version_up_to block.version block) (list_all (has_version_up_to block.version) blocks) (grind (arith, nat_tests)) parts.0)

own_version : (block : BindingBlock) (blocks : List BindingBlock) → filter (has_version block.version) (block ∷ blocks) ≡ block ∷ filter (has_version block.version) blocks
own_version block blocks =
    let yes : has_version block.version block ≡ true = grind (arith, nat_tests) in
    rw yes refl

-- equal lists have equal first elements and equal rests
abbrev SameVersions : List BindingBlock → List BindingBlock → Type 0
SameVersions blocks others = (version : ℕ) → filter (has_version version) blocks ≡ filter (has_version version) others

same_rest : (block other : BindingBlock) (blocks others : List BindingBlock) → block ≡ other → SameVersions (block ∷ blocks) (other ∷ others) → SameVersions blocks others
same_rest block other blocks others is same version =
    by_test (has_version version block) (subst (λ (b : BindingBlock). filter (has_version version) (block ∷ blocks) ≡ filter (has_version version) (b ∷ others)) (sym is) (same version))
  where
    by_test : (mine : Bool)
        → ◌≡◌ {A = List BindingBlock} (if mine then block ∷ filter (has_version version) blocks else filter (has_version version) blocks) (if mine then block ∷ filter (has_version version) others else filter (has_version version) others)
        → filter (has_version version) blocks ≡ filter (has_version version) others
    by_test true rest = cc
    by_test false rest = rest

-- of two lists that start with one Version, the first drivers are the same one
tied : (block other : BindingBlock) (blocks others : List BindingBlock) → block.version ≡ other.version → SameVersions (block ∷ blocks) (other ∷ others)
    → (SameVersions blocks others → blocks ≡ others) → block ∷ blocks ≡ other ∷ others
tied block other blocks others is same rest =
    let yes : has_version block.version other ≡ true = grind (arith, nat_tests) in
    let theirs : filter (has_version block.version) (other ∷ others) ≡ other ∷ filter (has_version block.version) others = rw yes refl in
    let both : block ∷ filter (has_version block.version) blocks ≡ other ∷ filter (has_version block.version) others = sym (own_version block blocks) ∙ same block.version ∙ theirs in
    let first : block ≡ other = cc in
    let later : blocks ≡ others = rest (same_rest block other blocks others first same) in
    cc

same_list : (blocks others : List BindingBlock) → is_falling blocks ≡ true → is_falling others ≡ true → SameVersions blocks others → blocks ≡ others
same_list [] [] falls fall same = refl
same_list [] (other ∷ others) falls fall same =
    let never : [] ≡ other ∷ filter (has_version other.version) others = same other.version ∙ own_version other others in
    absurd cc
same_list (block ∷ blocks) [] falls fall same =
    let never : block ∷ filter (has_version block.version) blocks ≡ [] = sym (own_version block blocks) ∙ same block.version in
    absurd cc
same_list (block ∷ blocks) (other ∷ others) falls fall same =
    elim (cases_order block.version other.version) [
      | inl is ↦
          tied block other blocks others is same
          (same_list blocks others
          (and_parts (list_all (has_version_up_to block.version) blocks) (is_falling blocks) falls).1
          (and_parts (list_all (has_version_up_to other.version) others) (is_falling others) fall).1)
      | inr (inl less) ↦
          let never : [] ≡ other ∷ filter (has_version other.version) others = sym (none_above other.version block blocks less falls) ∙ same other.version ∙ own_version other others in
          absurd cc
      | inr (inr more) ↦
          let never : block ∷ filter (has_version block.version) blocks ≡ [] = sym (own_version block blocks) ∙ same block.version ∙ none_above block.version other others more fall in
          absurd cc
    ]

-- ---- a list in which Versions never rise, with the drivers of each Version in their order

at_most_after : (block : BindingBlock) (blocks : List BindingBlock) → list_any (before block) blocks ≡ false → list_all (has_version_up_to block.version) blocks ≡ true
at_most_after block [] none = refl
at_most_after block (other ∷ others) none =
    let parts = or_parts (precedes other block) (list_any (before block) others) none in
    let first = parts.0 in
    and_from (has_version_up_to block.version other) (list_all (has_version_up_to block.version) others) (grind (arith, nat_tests, first)) (at_most_after block others parts.1)

falling_from_order : (blocks : List BindingBlock) → is_by_version blocks ≡ true → is_falling blocks ≡ true
falling_from_order [] falls = refl
falling_from_order (block ∷ blocks) falls =
    let parts = and_parts (not (list_any (before block) blocks)) (is_by_version blocks) falls in
    and_from (list_all (has_version_up_to block.version) blocks) (is_falling blocks)
    (at_most_after block blocks (not_true (list_any (before block) blocks) parts.0)) (falling_from_order blocks parts.1)

pub falling-law : FallingIsByVersion
falling-law blocks sorted rising falls same =
    same_list sorted (by_version blocks) falls (falling_from_order (by_version blocks) (falls-by_version blocks))
    (λ version. same version ∙ sym (same-by_version version blocks rising))
