-- The images that are loaded rise by handle, address and block; so no two have one of these in common.
use Rattle.std.proofs.Common.{◌≡◌, ◌≤◌, ℕ, ◌+◌, Bool, true, false, not, ◌&&◌, ◌||◌, cond, nat_eq, nat_le, nat_lt, List, [], ◌∷◌, ◌++◌, filter, find, Some, refl, ap, subst, arith}
use Rattle.std.specs.List.{list_all}
use Rattle.std.proofs.lemmas.Bool.{and_parts, and_from}
use Rattle.std.proofs.lemmas.Bool.Decides.{nat_tests}
use Rattle.world_model.specs.declared.image.LoadedImage.{LoadedImage}
use Rattle.world_model.specs.Images.{image_of, without_image}
use Rattle.world_model.specs.Kept.{bases_of, images_rise}
use Rattle.world_model.proofs.Segments.{list_all-mono}

-- ---- rising

pub record RiseTo (handle base block next_handle next_image next_block : ℕ) : Type 0 where
  pub handles : handle ≤ next_handle
  pub bases : base ≤ next_image
  pub blocks : block ≤ next_block

-- what a rising list says about its first image
record First (handle base block : ℕ) (image : LoadedImage) (images : List LoadedImage) (next_handle next_image next_block : ℕ) : Type 0 where
  handles : handle ≤ image.handle
  bases : base ≤ image.base
  blocks : block ≤ image.block
  rest : images_rise (image.handle + 1) (image.base + 1) (image.block + 1) images next_handle next_image next_block ≡ true

first_of_rise : (handle base block : ℕ) (image : LoadedImage) (images : List LoadedImage) (next_handle next_image next_block : ℕ) → images_rise handle base block (image ∷ images) next_handle next_image next_block ≡ true
    → First handle base block image images next_handle next_image next_block
first_of_rise handle base block image images next_handle next_image next_block rises =
    let rest = images_rise (image.handle + 1) (image.base + 1) (image.block + 1) images next_handle next_image next_block in
    let whole = and_parts (nat_le handle image.handle && nat_le base image.base && nat_le block image.block) rest rises in
    let three = and_parts (nat_le handle image.handle && nat_le base image.base) (nat_le block image.block) whole.0 in
    let two = and_parts (nat_le handle image.handle) (nat_le base image.base) three.0 in
    record {
      handles = grind (arith, nat_tests, two.0);
      bases = grind (arith, nat_tests, two.1);
      blocks = grind (arith, nat_tests, three.1);
      rest = whole.1;
    }

rise_from_first : (handle base block : ℕ) (image : LoadedImage) (images : List LoadedImage) (next_handle next_image next_block : ℕ) → First handle base block image images next_handle next_image next_block
    → images_rise handle base block (image ∷ images) next_handle next_image next_block ≡ true
rise_from_first handle base block image images next_handle next_image next_block first =
    let handles : nat_le handle image.handle ≡ true = grind (arith, nat_tests, first.handles) in
    let bases : nat_le base image.base ≡ true = grind (arith, nat_tests, first.bases) in
    let blocks : nat_le block image.block ≡ true = grind (arith, nat_tests, first.blocks) in
    rw (handles, bases, blocks) first.rest

-- the end of a rising list
rise_end : (handle base block next_handle next_image next_block : ℕ) → RiseTo handle base block next_handle next_image next_block → images_rise handle base block [] next_handle next_image next_block ≡ true
rise_end handle base block next_handle next_image next_block to =
    let handles : nat_le handle next_handle ≡ true = grind (arith, nat_tests, to.handles) in
    let bases : nat_le base next_image ≡ true = grind (arith, nat_tests, to.bases) in
    let blocks : nat_le block next_block ≡ true = grind (arith, nat_tests, to.blocks) in
    rw (handles, bases, blocks) refl

pub images_rise_range : (handle base block : ℕ) (images : List LoadedImage) (next_handle next_image next_block : ℕ) → images_rise handle base block images next_handle next_image next_block ≡ true → RiseTo handle base block next_handle next_image next_block
images_rise_range handle base block [] next_handle next_image next_block rises =
    let three = and_parts (nat_le handle next_handle && nat_le base next_image) (nat_le block next_block) rises in
    let two = and_parts (nat_le handle next_handle) (nat_le base next_image) three.0 in
    record {
      handles = grind (arith, nat_tests, two.0);
      bases = grind (arith, nat_tests, two.1);
      blocks = grind (arith, nat_tests, three.1);
    }
images_rise_range handle base block (image ∷ images) next_handle next_image next_block rises =
    let first = first_of_rise handle base block image images next_handle next_image next_block rises in
    let later = images_rise_range (image.handle + 1) (image.base + 1) (image.block + 1) images next_handle next_image next_block first.rest in
    record {
      handles = omega (arith, first.handles, later.handles);
      bases = omega (arith, first.bases, later.bases);
      blocks = omega (arith, first.blocks, later.blocks);
    }

-- up to larger next ones
pub images_rise-later : (handle base block : ℕ) (images : List LoadedImage) (next_handle next_image next_block more_handles more_images more_blocks : ℕ) → images_rise handle base block images next_handle next_image next_block ≡ true
    → RiseTo next_handle next_image next_block more_handles more_images more_blocks → images_rise handle base block images more_handles more_images more_blocks ≡ true
images_rise-later handle base block [] next_handle next_image next_block more_handles more_images more_blocks rises to =
    let range = images_rise_range handle base block [] next_handle next_image next_block rises in
    rise_end handle base block more_handles more_images more_blocks (record {
      handles = omega (arith, range.handles, to.handles);
      bases = omega (arith, range.bases, to.bases);
      blocks = omega (arith, range.blocks, to.blocks);
    })
images_rise-later handle base block (image ∷ images) next_handle next_image next_block more_handles more_images more_blocks rises to =
    let first = first_of_rise handle base block image images next_handle next_image next_block rises in
    rise_from_first handle base block image images more_handles more_images more_blocks (record {
      handles = first.handles;
      bases = first.bases;
      blocks = first.blocks;
      rest = images_rise-later (image.handle + 1) (image.base + 1) (image.block + 1) images next_handle next_image next_block more_handles more_images more_blocks first.rest to;
    })

-- from smaller first ones
images_rise-lower : (handle base block less_handle less_base less_block : ℕ) (images : List LoadedImage) (next_handle next_image next_block : ℕ) → images_rise handle base block images next_handle next_image next_block ≡ true
    → RiseTo less_handle less_base less_block handle base block → images_rise less_handle less_base less_block images next_handle next_image next_block ≡ true
images_rise-lower handle base block less_handle less_base less_block [] next_handle next_image next_block rises to =
    let range = images_rise_range handle base block [] next_handle next_image next_block rises in
    rise_end less_handle less_base less_block next_handle next_image next_block (record {
      handles = omega (arith, range.handles, to.handles);
      bases = omega (arith, range.bases, to.bases);
      blocks = omega (arith, range.blocks, to.blocks);
    })
images_rise-lower handle base block less_handle less_base less_block (image ∷ images) next_handle next_image next_block rises to =
    let first = first_of_rise handle base block image images next_handle next_image next_block rises in
    rise_from_first less_handle less_base less_block image images next_handle next_image next_block (record {
      handles = omega (arith, first.handles, to.handles);
      bases = omega (arith, first.bases, to.bases);
      blocks = omega (arith, first.blocks, to.blocks);
      rest = first.rest;
    })

-- one more image, which is the next one
pub images_rise-push : (handle base block : ℕ) (images : List LoadedImage) (new : LoadedImage) (next_handle next_image next_block : ℕ) → images_rise handle base block images new.handle new.base new.block ≡ true
    → RiseTo (new.handle + 1) (new.base + 1) (new.block + 1) next_handle next_image next_block → images_rise handle base block (images ++ new ∷ []) next_handle next_image next_block ≡ true
images_rise-push handle base block [] new next_handle next_image next_block rises to =
    let range = images_rise_range handle base block [] new.handle new.base new.block rises in
    rise_from_first handle base block new [] next_handle next_image next_block (record {
      handles = range.handles;
      bases = range.bases;
      blocks = range.blocks;
      rest = rise_end (new.handle + 1) (new.base + 1) (new.block + 1) next_handle next_image next_block to;
    })
images_rise-push handle base block (image ∷ images) new next_handle next_image next_block rises to =
    let first = first_of_rise handle base block image images new.handle new.base new.block rises in
    rise_from_first handle base block image (images ++ new ∷ []) next_handle next_image next_block (record {
      handles = first.handles;
      bases = first.bases;
      blocks = first.blocks;
      rest = images_rise-push (image.handle + 1) (image.base + 1) (image.block + 1) images new next_handle next_image next_block first.rest to;
    })

pub images_rise-filter : (p : LoadedImage → Bool) (handle base block : ℕ) (images : List LoadedImage) (next_handle next_image next_block : ℕ) → images_rise handle base block images next_handle next_image next_block ≡ true
    → images_rise handle base block (filter p images) next_handle next_image next_block ≡ true
images_rise-filter p handle base block [] next_handle next_image next_block rises = rises
images_rise-filter p handle base block (image ∷ images) next_handle next_image next_block rises =
    let first = first_of_rise handle base block image images next_handle next_image next_block rises in
    let later = images_rise-filter p (image.handle + 1) (image.base + 1) (image.block + 1) images next_handle next_image next_block first.rest in
    elim (p image) as (λ b. images_rise handle base block (cond b (image ∷ filter p images) (filter p images)) next_handle next_image next_block ≡ true) [
      | true ↦ rise_from_first handle base block image (filter p images) next_handle next_image next_block (record { handles = first.handles; bases = first.bases; blocks = first.blocks; rest = later })
      | false ↦ images_rise-lower (image.handle + 1) (image.base + 1) (image.block + 1) handle base block (filter p images) next_handle next_image next_block later (record {
        handles = omega (arith, first.handles);
        bases = omega (arith, first.bases);
        blocks = omega (arith, first.blocks);
      })
    ]

-- ---- all images within the range

abbrev pub is_between : ℕ → ℕ → ℕ → ℕ → ℕ → ℕ → LoadedImage → Bool
is_between handle base block next_handle next_image next_block image =
    (nat_le handle image.handle && nat_le base image.base && nat_le block image.block)
    && (nat_lt image.handle next_handle && nat_lt image.base next_image && nat_lt image.block next_block)

pub all_between : (handle base block : ℕ) (images : List LoadedImage) (next_handle next_image next_block : ℕ) → images_rise handle base block images next_handle next_image next_block ≡ true
    → list_all (is_between handle base block next_handle next_image next_block) images ≡ true
all_between handle base block [] next_handle next_image next_block rises = refl
all_between handle base block (image ∷ images) next_handle next_image next_block rises =
    let first = first_of_rise handle base block image images next_handle next_image next_block rises in
    let low1 = first.handles in
    let low2 = first.bases in
    let low3 = first.blocks in
    let range = images_rise_range (image.handle + 1) (image.base + 1) (image.block + 1) images next_handle next_image next_block first.rest in
    let high1 = range.handles in
    let high2 = range.bases in
    let high3 = range.blocks in
    let here : is_between handle base block next_handle next_image next_block image ≡ true = grind (arith, nat_tests) in
    let later = all_between (image.handle + 1) (image.base + 1) (image.block + 1) images next_handle next_image next_block first.rest in
    and_from (is_between handle base block next_handle next_image next_block image) (list_all (is_between handle base block next_handle next_image next_block) images) here
    (list_all-mono (is_between (image.handle + 1) (image.base + 1) (image.block + 1) next_handle next_image next_block) (is_between handle base block next_handle next_image next_block) images (λ other between. grind (arith, nat_tests)) later)

-- ---- one image and the others

-- whether an image has the same handle, address and block as another, or none of the three
abbrev pub is_same_or_other : LoadedImage → LoadedImage → Bool
is_same_or_other one image =
    (nat_eq image.handle one.handle && nat_eq image.base one.base && nat_eq image.block one.block)
    || (not (nat_eq image.handle one.handle) && not (nat_eq image.base one.base) && not (nat_eq image.block one.block))

-- what is found passes a test that all pass
pub found_passes : {A : Type 0} (P Q : A → Bool) (xs : List A) (x : A) → find P xs ≡ Some x → list_all Q xs ≡ true → Q x ≡ true
found_passes P Q [] x found all = absurd cc
found_passes {A} P Q (y ∷ xs) x found all =
    let parts = and_parts (Q y) (list_all Q xs) all in
    by_head (P y) found parts.0 (λ later. found_passes P Q xs x later parts.1)
  where
    by_head : (here : Bool) → cond here (Some y) (find P xs) ≡ Some x → Q y ≡ true → (find P xs ≡ Some x → Q x ≡ true) → Q x ≡ true
    by_head true found one later = let same : y ≡ x = cc in rw same at one
    by_head false found one later = later found

pub all_same_or_other : (number : ℕ) (one : LoadedImage) (handle base block : ℕ) (images : List LoadedImage) (next_handle next_image next_block : ℕ) → images_rise handle base block images next_handle next_image next_block ≡ true
    → image_of number images ≡ Some one → list_all (is_same_or_other one) images ≡ true
all_same_or_other number one handle base block [] next_handle next_image next_block rises found = refl
all_same_or_other number one handle base block (image ∷ images) next_handle next_image next_block rises found =
    let first = first_of_rise handle base block image images next_handle next_image next_block rises in
    let between = all_between (image.handle + 1) (image.base + 1) (image.block + 1) images next_handle next_image next_block first.rest in
    by_head (nat_eq image.handle number) found between (λ later. all_same_or_other number one (image.handle + 1) (image.base + 1) (image.block + 1) images next_handle next_image next_block first.rest later)
  where
    by_head : (here : Bool) → cond here (Some image) (image_of number images) ≡ Some one → list_all (is_between (image.handle + 1) (image.base + 1) (image.block + 1) next_handle next_image next_block) images ≡ true
        → (image_of number images ≡ Some one → list_all (is_same_or_other one) images ≡ true) → list_all (is_same_or_other one) (image ∷ images) ≡ true
    by_head true found between later =
        let same : image ≡ one = cc in
        let here : is_same_or_other image image ≡ true = grind (arith, nat_tests) in
        let others : list_all (is_same_or_other image) images ≡ true =
        list_all-mono (is_between (image.handle + 1) (image.base + 1) (image.block + 1) next_handle next_image next_block) (is_same_or_other image) images (λ other high. grind (arith, nat_tests)) between in
        subst (λ (i : LoadedImage). list_all (is_same_or_other i) (image ∷ images) ≡ true) same (and_from (is_same_or_other image image) (list_all (is_same_or_other image) images) here others)
    by_head false found between later =
        let high : is_between (image.handle + 1) (image.base + 1) (image.block + 1) next_handle next_image next_block one ≡ true =
        found_passes (λ (i : LoadedImage). nat_eq i.handle number) (is_between (image.handle + 1) (image.base + 1) (image.block + 1) next_handle next_image next_block) images one found between in
        let here : is_same_or_other one image ≡ true = grind (arith, nat_tests) in
        and_from (is_same_or_other one image) (list_all (is_same_or_other one) images) here (later found)

-- without an image, its address is not among those of the images
pub bases-without : (one : LoadedImage) (images : List LoadedImage) → list_all (is_same_or_other one) images ≡ true → bases_of (without_image one.handle images) ≡ filter (λ (b : ℕ). not (nat_eq b one.base)) (bases_of images)
bases-without one [] all = refl
bases-without one (image ∷ images) all =
    let parts = and_parts (is_same_or_other one image) (list_all (is_same_or_other one) images) all in
    let same : nat_eq image.base one.base ≡ nat_eq image.handle one.handle = same_tests (nat_eq image.handle one.handle) (nat_eq image.base one.base) (nat_eq image.block one.block) parts.0 in
    by_test (nat_eq image.handle one.handle) (nat_eq image.base one.base) same (bases-without one images parts.1)
  where
    same_tests : (a b c : Bool) → ((a && b && c) || (not a && not b && not c)) ≡ true → b ≡ a
    same_tests true true c h = refl
    same_tests true false c h = absurd cc
    same_tests false true c h = absurd cc
    same_tests false false c h = refl

    by_test : (handle base : Bool) → base ≡ handle → bases_of (without_image one.handle images) ≡ filter (λ (b : ℕ). not (nat_eq b one.base)) (bases_of images)
        → bases_of (cond (not handle) (image ∷ without_image one.handle images) (without_image one.handle images)) ≡ cond (not base) (image.base ∷ filter (λ (b : ℕ). not (nat_eq b one.base)) (bases_of images)) (filter (λ (b : ℕ). not (nat_eq b one.base)) (bases_of images))
    by_test true true same later = later
    by_test true false same later = absurd cc
    by_test false true same later = absurd cc
    by_test false false same later = ap (λ bases. image.base ∷ bases) later
