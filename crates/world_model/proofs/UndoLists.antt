-- Elements that were taken out of a list, put back in their places.
use Rattle.std.proofs.Common.{◌≡◌, ℕ, ◌+◌, Bool, true, false, not, ◌||◌, ◌&&◌, cond, nat_eq, nat_le, nat_lt, List, [], ◌∷◌, filter, find, refl, sym, ap, ◌∙◌, arith}
use Rattle.std.specs.Prelude.{insert, Some, None}
use Rattle.std.specs.Bool.{MatchBool}
use Rattle.std.specs.List.{list_all, list_any, position_or_len}
use Rattle.std.proofs.Math.Numerals.{one-add}
use Rattle.std.proofs.lemmas.Bool.{and_from, and_parts, not-true, or_parts}
use Rattle.std.proofs.lemmas.Bool.Decides.{nat_tests}
use Rattle.world_model.specs.declared.bus_child.BusChild.{BusChild}
use Rattle.world_model.specs.declared.image.LoadedImage.{LoadedImage}
use Rattle.world_model.specs.declared.thunk.Thunk.{Thunk}
use Rattle.world_model.specs.BusChildren.{is_child, without_child}
use Rattle.world_model.specs.Images.{image_of}
use Rattle.world_model.specs.Kept.{are_apart, images_rise, numbers_rise}
use Rattle.world_model.specs.Undo.{with_thunk, with_thunks}
use Rattle.world_model.proofs.Segments.{list_all-filter}

-- ---- one element

-- the first element that passes a test is this one, and no other passes it
abbrev pub IsOnly : {X : Type 0} → (X → Bool) → List X → X → Type 0
IsOnly test [] x = ⊥
IsOnly test (y ∷ ys) x = MatchBool (test y) ((y ≡ x) × (list_any test ys ≡ false)) (IsOnly test ys x)

pub filter-none : {X : Type 0} (test : X → Bool) (xs : List X) → list_any test xs ≡ false → filter (λ (x : X). not (test x)) xs ≡ xs
filter-none test [] none = refl
filter-none test (x ∷ xs) none =
    let parts = or_parts (test x) (list_any test xs) none in
    rw parts.0 (ap (λ others. x ∷ others) (filter-none test xs parts.1))

one_back-more : {X : Type 0} (test : X → Bool) (y : X) (ys : List X) (x : X) (here : Bool) → test y ≡ here → MatchBool here ((y ≡ x) × (list_any test ys ≡ false)) (IsOnly test ys x)
    → (IsOnly test ys x → insert (filter (λ (z : X). not (test z)) ys) (position_or_len test ys) x ≡ ys)
    → insert (filter (λ (z : X). not (test z)) (y ∷ ys)) (position_or_len test (y ∷ ys)) x ≡ y ∷ ys
one_back-more test y ys x true is only later = rw is (ap (λ others. x ∷ others) (filter-none test ys only.1) ∙ ap (λ first. first ∷ ys) (sym only.0))
one_back-more test y ys x false is only later = rw is (rw one-add (ap (λ others. y ∷ others) (later only)))

-- it is put back where it was
pub one_back : {X : Type 0} (test : X → Bool) (xs : List X) (x : X) → IsOnly test xs x → insert (filter (λ (y : X). not (test y)) xs) (position_or_len test xs) x ≡ xs
one_back test [] x only = absurd only
one_back test (y ∷ ys) x only = one_back-more test y ys x (test y) refl only (one_back test ys x)

-- ---- children of the bus

other_handles : (handle other : ℕ) (children : List BusChild) → other ≡ handle → list_any (is_child other) children ≡ false → list_any (is_child handle) children ≡ false
other_handles handle other children same none = rw (← same) none

child_only-more : (handle : ℕ) (child other : BusChild) (rest : List BusChild) (here : Bool) → is_child handle other ≡ here → not (list_any (is_child other.handle) rest) ≡ true
    → cond here (Some other) (find (is_child handle) rest) ≡ Some child → (find (is_child handle) rest ≡ Some child → IsOnly (is_child handle) rest child)
    → MatchBool here ((other ≡ child) × (list_any (is_child handle) rest ≡ false)) (IsOnly (is_child handle) rest child)
child_only-more handle child other rest true is apart found later =
    let same : other.handle ≡ handle = grind (arith, nat_tests, is) in
    (cc, other_handles handle other.handle rest same (not-true (list_any (is_child other.handle) rest) apart))
child_only-more handle child other rest false is apart found later = later found

-- a child that is found is the only one of its handle
pub child_only : (handle : ℕ) (child : BusChild) (children : List BusChild) → are_apart children ≡ true → find (is_child handle) children ≡ Some child → IsOnly (is_child handle) children child
child_only handle child [] apart found = absurd cc
child_only handle child (other ∷ rest) apart found =
    let parts = and_parts (not (list_any (is_child other.handle) rest)) (are_apart rest) apart in
    child_only-more handle child other rest (is_child handle other) refl parts.0 found (child_only handle child rest parts.1)

none_found : (handle : ℕ) (children : List BusChild) → find (is_child handle) children ≡ None → list_any (is_child handle) children ≡ false
none_found handle [] none = refl
none_found handle (child ∷ children) none = by_head (is_child handle child) none (λ later. none_found handle children later)
  where
    by_head : (here : Bool) → cond here (Some child) (find (is_child handle) children) ≡ None → (find (is_child handle) children ≡ None → list_any (is_child handle) children ≡ false) → (here || list_any (is_child handle) children) ≡ false
    by_head true none later = absurd cc
    by_head false none later = later none

pub no_child : (handle : ℕ) (children : List BusChild) → find (is_child handle) children ≡ None → without_child handle children ≡ children
no_child handle children none = filter-none (is_child handle) children (none_found handle children none)

-- ---- images

abbrev is_image_of : ℕ → LoadedImage → Bool
is_image_of handle image = nat_eq image.handle handle

no_later : (low base block handle : ℕ) (images : List LoadedImage) (next_handle next_image next_block : ℕ) → images_rise low base block images next_handle next_image next_block ≡ true → nat_lt handle low ≡ true
    → list_any (is_image_of handle) images ≡ false
no_later low base block handle [] next_handle next_image next_block rise below = refl
no_later low base block handle (image ∷ images) next_handle next_image next_block rise below =
    let parts = and_parts (nat_le low image.handle && nat_le base image.base && nat_le block image.block) (images_rise (image.handle + 1) (image.base + 1) (image.block + 1) images next_handle next_image next_block) rise in
    let other : nat_eq image.handle handle ≡ false = grind (arith, nat_tests, parts.0, below) in
    let still : nat_lt handle (image.handle + 1) ≡ true = grind (arith, nat_tests, parts.0, below) in
    rw other (no_later (image.handle + 1) (image.base + 1) (image.block + 1) handle images next_handle next_image next_block parts.1 still)

image_only-more : (handle : ℕ) (one image : LoadedImage) (images : List LoadedImage) (here : Bool) → nat_eq image.handle handle ≡ here → list_any (is_image_of image.handle) images ≡ false
    → cond here (Some image) (image_of handle images) ≡ Some one → (image_of handle images ≡ Some one → IsOnly (is_image_of handle) images one)
    → MatchBool here ((image ≡ one) × (list_any (is_image_of handle) images ≡ false)) (IsOnly (is_image_of handle) images one)
image_only-more handle one image images true is none found later =
    let same : image.handle ≡ handle = grind (arith, nat_tests, is) in
    (cc, rw (← same) none)
image_only-more handle one image images false is none found later = later found

-- an image that is found is the only one of its handle
pub image_only : (low base block handle : ℕ) (one : LoadedImage) (images : List LoadedImage) (next_handle next_image next_block : ℕ) → images_rise low base block images next_handle next_image next_block ≡ true → image_of handle images ≡ Some one
    → IsOnly (is_image_of handle) images one
image_only low base block handle one [] next_handle next_image next_block rise found = absurd cc
image_only low base block handle one (image ∷ images) next_handle next_image next_block rise found =
    let parts = and_parts (nat_le low image.handle && nat_le base image.base && nat_le block image.block) (images_rise (image.handle + 1) (image.base + 1) (image.block + 1) images next_handle next_image next_block) rise in
    let still : nat_lt image.handle (image.handle + 1) ≡ true = grind (arith, nat_tests) in
    let none = no_later (image.handle + 1) (image.base + 1) (image.block + 1) image.handle images next_handle next_image next_block parts.1 still in
    image_only-more handle one image images (nat_eq image.handle handle) refl none found (image_only (image.handle + 1) (image.base + 1) (image.block + 1) handle one images next_handle next_image next_block parts.1)

-- ---- thunks

abbrev is_above : ℕ → Thunk → Bool
is_above number thunk = nat_lt number thunk.number

all_above : (number low : ℕ) (thunks : List Thunk) (next : ℕ) → numbers_rise low thunks next ≡ true → nat_lt number low ≡ true → list_all (is_above number) thunks ≡ true
all_above number low [] next rise below = refl
all_above number low (thunk ∷ thunks) next rise below =
    let parts = and_parts (nat_le low thunk.number) (numbers_rise (thunk.number + 1) thunks next) rise in
    let here : nat_lt number thunk.number ≡ true = grind (arith, nat_tests, parts.0, below) in
    let still : nat_lt number (thunk.number + 1) ≡ true = grind (arith, nat_tests, parts.0, below) in
    and_from (is_above number thunk) (list_all (is_above number) thunks) here (all_above number (thunk.number + 1) thunks next parts.1 still)

-- a thunk below all others comes first
with_thunk-first : (new : Thunk) (thunks : List Thunk) → list_all (is_above new.number) thunks ≡ true → with_thunk new thunks ≡ new ∷ thunks
with_thunk-first new [] above = refl
with_thunk-first new (thunk ∷ thunks) above =
    let parts = and_parts (is_above new.number thunk) (list_all (is_above new.number) thunks) above in
    let behind : nat_lt thunk.number new.number ≡ false = grind (arith, nat_tests, parts.0) in
    rw behind refl

-- and stays first
with_thunks-first : (gone : List Thunk) (first : Thunk) (thunks : List Thunk) → list_all (is_above first.number) gone ≡ true → with_thunks gone (first ∷ thunks) ≡ first ∷ with_thunks gone thunks
with_thunks-first [] first thunks above = refl
with_thunks-first (new ∷ gone) first thunks above =
    let parts = and_parts (is_above first.number new) (list_all (is_above first.number) gone) above in
    let before : nat_lt first.number new.number ≡ true = parts.0 in
    rw before (with_thunks-first gone first (with_thunk new thunks) parts.1)

-- thunks that pass a test are put back among the others
pub thunks_back : (test : Thunk → Bool) (low : ℕ) (thunks : List Thunk) (next : ℕ) → numbers_rise low thunks next ≡ true
    → with_thunks (filter test thunks) (filter (λ (thunk : Thunk). not (test thunk)) thunks) ≡ thunks
thunks_back test low [] next rise = refl
thunks_back test low (thunk ∷ thunks) next rise =
    let parts = and_parts (nat_le low thunk.number) (numbers_rise (thunk.number + 1) thunks next) rise in
    let still : nat_lt thunk.number (thunk.number + 1) ≡ true = grind (arith, nat_tests) in
    by_test (test thunk) refl (all_above thunk.number (thunk.number + 1) thunks next parts.1 still) (thunks_back test (thunk.number + 1) thunks next parts.1)
  where
    by_test : (gone : Bool) → test thunk ≡ gone → list_all (is_above thunk.number) thunks ≡ true → with_thunks (filter test thunks) (filter (λ (t : Thunk). not (test t)) thunks) ≡ thunks
        → with_thunks (filter test (thunk ∷ thunks)) (filter (λ (t : Thunk). not (test t)) (thunk ∷ thunks)) ≡ thunk ∷ thunks
    by_test true is above later =
        let left = list_all-filter (is_above thunk.number) (λ (t : Thunk). not (test t)) thunks above in
        let others = list_all-filter (is_above thunk.number) test thunks above in
        rw is (ap (with_thunks (filter test thunks)) (with_thunk-first thunk (filter (λ (t : Thunk). not (test t)) thunks) left)
        ∙ with_thunks-first (filter test thunks) thunk (filter (λ (t : Thunk). not (test t)) thunks) others ∙ ap (λ rest. thunk ∷ rest) later)
    by_test false is above later =
        let others = list_all-filter (is_above thunk.number) test thunks above in
        rw is (with_thunks-first (filter test thunks) thunk (filter (λ (t : Thunk). not (test t)) thunks) others ∙ ap (λ rest. thunk ∷ rest) later)
