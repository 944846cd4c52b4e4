-- A thunk is found once it is made, enters an image, and is removed with that image.
use Rattle.std.proofs.Common.{◌≡◌, ◌≤◌, ℕ, ◌+◌, Bool, true, false, not, ◌&&◌, ◌||◌, cond, nat_eq, nat_le, nat_lt, List, [], ◌∷◌, ◌++◌, filter, find, Option, Some, None, refl, sym, ap, ◌∙◌, subst, inl, inr, ◌⊎◌, arith}
use Rattle.std.specs.Prelude.{Result, Ok, is_some, option_map}
use Rattle.std.specs.List.{list_all, list_any}
use Rattle.std.proofs.lemmas.Bool.{and_from, and_parts, both_ways, eqb-true, or_cases, or_left, or_right}
use Rattle.std.proofs.lemmas.Bool.Decides.{nat_tests}
use Rattle.guest_memory.specs.declared.guest.MemRefusal.{MemRefusal}
use Rattle.guest_memory.specs.declared.segment.Segment.{Segment}
use Rattle.guest_memory.specs.declared.segment.SegKind.TheVariants as kind
use Rattle.guest_memory.specs.Segment.{end_of, has_bytes, is_image}
use Rattle.guest_memory.specs.GuestMemory.{beginning_at, begins, image_with, is_of, lie_from}
use Rattle.guest_memory.specs.declared.address_map.TheConstants.{FIRST_BLOCK, FIRST_IMAGE}
use Rattle.world_model.specs.declared.image.LoadedImage.{LoadedImage}
use Rattle.world_model.specs.declared.thunk.Thunk.{Thunk}
use Rattle.world_model.specs.World.{Soft, bases}
use Rattle.world_model.specs.Thunks.{enters as enters_segment, is_thunk_at, thunk_address, without_thunks}
use Rattle.world_model.specs.Images.{image_at, image_from, image_of, without_loaded}
use Rattle.world_model.specs.Kept.{IsKept, bases_of, has_entry, enters_image, numbers_rise}
use Rattle.world_model.specs.ThunkLaws.{DroppingTakesThunks, MadeIsFound, MakingKeepsOthers, ThunkEntersImage, is_image_handle}
use Rattle.world_model.proofs.Bases.{bases-cons}
use Rattle.world_model.proofs.ThunkTargets.{has_code, image_kind, is_some-find, numbers-range}
use Rattle.world_model.proofs.Segments.{list_all-not, none_before}
use Rattle.world_model.proofs.ImageLists.{all_same_or_other, found_passes, is_same_or_other}

-- ---- making

-- all numbers are below the next one
numbers_below : (number : ℕ) (thunks : List Thunk) (next : ℕ) → numbers_rise number thunks next ≡ true → list_all (λ (thunk : Thunk). nat_lt thunk.number next) thunks ≡ true
numbers_below number [] next rises = refl
numbers_below number (thunk ∷ thunks) next rises =
    let parts = and_parts (nat_le number thunk.number) (numbers_rise (thunk.number + 1) thunks next) rises in
    let range : thunk.number + 1 ≤ next = numbers-range (thunk.number + 1) thunks next parts.1 in
    let here : nat_lt thunk.number next ≡ true = grind (arith, nat_tests) in
    and_from (nat_lt thunk.number next) (list_all (λ (t : Thunk). nat_lt t.number next) thunks) here (numbers_below (thunk.number + 1) thunks next parts.1)

found_last : (thunks : List Thunk) (new : Thunk) → list_all (λ (thunk : Thunk). nat_lt thunk.number new.number) thunks ≡ true
    → find (is_thunk_at (thunk_address new.number)) (thunks ++ new ∷ []) ≡ Some new
found_last [] new below = let same : nat_eq (thunk_address new.number) (thunk_address new.number) ≡ true = grind (arith, nat_tests) in rw same refl
found_last (thunk ∷ thunks) new below =
    let parts = and_parts (nat_lt thunk.number new.number) (list_all (λ (t : Thunk). nat_lt t.number new.number) thunks) below in
    let other : nat_eq (thunk_address thunk.number) (thunk_address new.number) ≡ false = grind (arith, nat_tests, parts.0) in
    rw other (found_last thunks new parts.1)

pub finding : MadeIsFound
finding soft entry kept =
    let new : Thunk = record { number = soft.next_thunk; entry = entry } in
    ap (option_map (λ (thunk : Thunk). thunk.entry)) (found_last soft.thunks new (numbers_below 0 soft.thunks soft.next_thunk kept.thunks.numbers))

found_other : (thunks : List Thunk) (new : Thunk) (at : ℕ) → nat_eq (thunk_address new.number) at ≡ false → find (is_thunk_at at) (thunks ++ new ∷ []) ≡ find (is_thunk_at at) thunks
found_other [] new at other = rw other refl
found_other (thunk ∷ thunks) new at other = ap (λ (later : Option Thunk). cond (is_thunk_at at thunk) (Some thunk) later) (found_other thunks new at other)

pub keeping_others : MakingKeepsOthers
keeping_others soft entry at other =
    let new : Thunk = record { number = soft.next_thunk; entry = entry } in
    ap (option_map (λ (thunk : Thunk). thunk.entry)) (found_other soft.thunks new at other)

-- ---- entering

-- the address of an image that is found is one of those of images
base_listed : (at : ℕ) (segments : List Segment) (one : Segment) → find (has_code at) segments ≡ Some one → list_any (nat_eq one.base) (bases kind.Image segments) ≡ true
base_listed at [] one found = absurd cc
base_listed at (s ∷ rest) one found = by_head (is_image s.kind) (has_bytes s at 1) (sym (image_kind s.kind)) found (λ later. base_listed at rest one later)
  where
    by_head : (image has : Bool) → is_of kind.Image s ≡ image → cond (image && has) (Some s) (find (has_code at) rest) ≡ Some one
        → (find (has_code at) rest ≡ Some one → list_any (nat_eq one.base) (bases kind.Image rest) ≡ true) → list_any (nat_eq one.base) (bases kind.Image (s ∷ rest)) ≡ true
    by_head true true is found later =
        let same : s ≡ one = cc in
        let here : nat_eq one.base s.base ≡ true = subst (λ (x : Segment). nat_eq x.base s.base ≡ true) same (grind (arith, nat_tests)) in
        rw (bases-cons kind.Image true s rest is) (or_left (nat_eq one.base s.base) (list_any (nat_eq one.base) (bases kind.Image rest)) here)
    by_head true false is found later = rw (bases-cons kind.Image true s rest is) (or_right (nat_eq one.base s.base) (list_any (nat_eq one.base) (bases kind.Image rest)) (later found))
    by_head false has is found later = rw (bases-cons kind.Image false s rest is) (later found)

-- an image is found at an address that is listed among those of images
image_listed : (base : ℕ) (images : List LoadedImage) → list_any (nat_eq base) (bases_of images) ≡ true → is_some (image_from (Some base) images) ≡ true
image_listed base [] listed = absurd cc
image_listed base (image ∷ images) listed =
    by_head (nat_eq image.base base) refl (or_cases (nat_eq base image.base) (list_any (nat_eq base) (bases_of images)) listed) (λ later. image_listed base images later)
  where
    by_head : (here : Bool) → nat_eq image.base base ≡ here → (nat_eq base image.base ≡ true) ⊎ (list_any (nat_eq base) (bases_of images) ≡ true)
        → (list_any (nat_eq base) (bases_of images) ≡ true → is_some (image_from (Some base) images) ≡ true)
        → is_some (option_map (λ (i : LoadedImage). i.handle) (cond here (Some image) (find (λ (i : LoadedImage). nat_eq i.base base) images))) ≡ true
    by_head true is which rest = refl
    by_head false is (inl same) rest = absurd (grind (arith, nat_tests))
    by_head false is (inr later) rest = rest later

contents : (soft : Soft) (at : ℕ) → IsKept soft → is_some (image_with soft.memory at) ≡ true → is_some (image_at at soft) ≡ true
contents soft at kept some = by_found (image_with soft.memory at) refl some
  where
    by_found : (found : Option Segment) → image_with soft.memory at ≡ found → is_some found ≡ true → is_some (image_from (option_map (λ (segment : Segment). segment.base) found) soft.images) ≡ true
    by_found None is some = absurd cc
    by_found (Some one) is some =
        image_listed one.base soft.images (subst (λ (listed : List ℕ). list_any (nat_eq one.base) listed ≡ true) kept.images.segments (base_listed at soft.memory one is))

pub entering : ThunkEntersImage
entering soft at entry kept same = by_found (find (is_thunk_at at) soft.thunks) refl same
  where
    by_found : (found : Option Thunk) → find (is_thunk_at at) soft.thunks ≡ found → option_map (λ (thunk : Thunk). thunk.entry) found ≡ Some entry → is_some (image_at entry soft) ≡ true
    by_found None is same = absurd cc
    by_found (Some thunk) is same =
        let entered = found_passes (is_thunk_at at) (enters_image soft.memory) soft.thunks thunk is kept.thunks.targets in
        let where_to : thunk.entry ≡ entry = cc in
        subst (λ (at : ℕ). is_some (image_at at soft) ≡ true) where_to (contents soft thunk.entry kept entered)

-- ---- dropping

-- what is found has passed the test
found_passed : {A : Type 0} (P : A → Bool) (xs : List A) (x : A) → find P xs ≡ Some x → P x ≡ true
found_passed P [] x found = absurd cc
found_passed {A} P (y ∷ xs) x found = by_head (P y) refl found (λ later. found_passed P xs x later)
  where
    by_head : (here : Bool) → P y ≡ here → cond here (Some y) (find P xs) ≡ Some x → (find P xs ≡ Some x → P x ≡ true) → P x ≡ true
    by_head true is found later = let same : y ≡ x = cc in subst (λ (z : A). P z ≡ true) same is
    by_head false is found later = later found

-- segments that lie from an address on are found from there on
found_from : (P : Segment → Bool) (from : ℕ) (segments : List Segment) (one : Segment) → lie_from from segments ≡ true → find P segments ≡ Some one → from ≤ one.base
found_from P from [] one lies found = absurd cc
found_from P from (s ∷ rest) one lies found =
    let order = and_parts (nat_le from s.base) (lie_from (end_of s) rest) lies in
    let first : from ≤ s.base = grind (arith, nat_tests, order.0) in
    by_head (P s) first found (λ later. found_from P (end_of s) rest one order.1 later)
  where
    by_head : (here : Bool) → from ≤ s.base → cond here (Some s) (find P rest) ≡ Some one → (find P rest ≡ Some one → end_of s ≤ one.base) → from ≤ one.base
    by_head true first found later = let same : s ≡ one = cc in subst (λ (x : Segment). from ≤ x.base) same first
    by_head false first found later = let behind = later found in omega arith

begins_from : (base from : ℕ) (segments : List Segment) (one : Segment) → lie_from from segments ≡ true → beginning_at segments base ≡ Ok one → from ≤ one.base
begins_from base from [] one lies found = absurd cc
begins_from base from (s ∷ rest) one lies found =
    let order = and_parts (nat_le from s.base) (lie_from (end_of s) rest) lies in
    let first : from ≤ s.base = grind (arith, nat_tests, order.0) in
    by_head (nat_eq s.base base) first found (λ later. begins_from base (end_of s) rest one order.1 later)
  where
    by_head : (here : Bool) → from ≤ s.base → cond here (Ok s) (beginning_at rest base) ≡ Ok one → (beginning_at rest base ≡ Ok one → end_of s ≤ one.base) → from ≤ one.base
    by_head true first found later = let same : s ≡ one = cc in subst (λ (x : Segment). from ≤ x.base) same first
    by_head false first found later = let behind = later found in omega arith

-- no segment after one has an address that this one has
behind_has : (s one : Segment) (at : ℕ) → has_bytes s at 1 ≡ true → end_of s ≤ one.base → has_bytes one at 1 ≡ false
behind_has s one at has behind = grind (arith, nat_tests)

-- an image has an address exactly if it is the one that is found with that address
only_one : (at base from : ℕ) (segments : List Segment) (code one : Segment) → lie_from from segments ≡ true → find (has_code at) segments ≡ Some code → beginning_at segments base ≡ Ok one
    → is_image one.kind ≡ true → has_bytes one at 1 ≡ nat_eq code.base base
only_one at base from [] code one lies found is image = absurd cc
only_one at base from (s ∷ rest) code one lies found is image =
    let order = and_parts (nat_le from s.base) (lie_from (end_of s) rest) lies in
    by_head (is_image s.kind) (has_bytes s at 1) (nat_eq s.base base) refl refl refl order.1 found is (λ f i. only_one at base (end_of s) rest code one order.1 f i image)
  where
    by_head : (of has start : Bool) → is_image s.kind ≡ of → has_bytes s at 1 ≡ has → nat_eq s.base base ≡ start → lie_from (end_of s) rest ≡ true
        → cond (of && has) (Some s) (find (has_code at) rest) ≡ Some code → cond start (Ok s) (beginning_at rest base) ≡ Ok one
        → (find (has_code at) rest ≡ Some code → beginning_at rest base ≡ Ok one → has_bytes one at 1 ≡ nat_eq code.base base) → has_bytes one at 1 ≡ nat_eq code.base base
    by_head true true true of has start lie found is later =
        let same : s ≡ code = cc in
        let also : s ≡ one = cc in
        subst (λ (x : Segment). has_bytes x at 1 ≡ nat_eq code.base base) also (has ∙ sym start ∙ ap (λ (x : Segment). nat_eq x.base base) same)
    by_head true true false of has start lie found is later =
        let same : s ≡ code = cc in
        let behind = begins_from base (end_of s) rest one lie is in
        let away : has_bytes one at 1 ≡ false = behind_has s one at has behind in
        away ∙ sym start ∙ ap (λ (x : Segment). nat_eq x.base base) same
    by_head true false true of has start lie found is later =
        let also : s ≡ one = cc in
        let behind = found_from (has_code at) (end_of s) rest code lie found in
        let away : nat_eq code.base base ≡ false = grind (arith, nat_tests) in
        subst (λ (x : Segment). has_bytes x at 1 ≡ nat_eq code.base base) also (has ∙ sym away)
    by_head false has true of _ start lie found is later =
        let also : s ≡ one = cc in
        absurd (both_ways (is_image one.kind) (subst (λ (x : Segment). is_image x.kind ≡ false) also of) image)
    by_head true false false of has start lie found is later = later found is
    by_head false has false of _ start lie found is later = later found is

-- what passes one test passes another
any-more : {A : Type 0} (P Q : A → Bool) (xs : List A) → ((x : A) → P x ≡ true → Q x ≡ true) → list_any P xs ≡ true → list_any Q xs ≡ true
any-more P Q [] more some = some
any-more P Q (x ∷ xs) more some = elim (or_cases (P x) (list_any P xs) some) [
  | inl here ↦ or_left (Q x) (list_any Q xs) (more x here)
  | inr later ↦ or_right (Q x) (list_any Q xs) (any-more P Q xs more later)
]

-- the segment at an address, which is an image
record ImageThere (base : ℕ) (segments : List Segment) : Type 0 where
  segment : Segment
  is : beginning_at segments base ≡ Ok segment
  image : is_image segment.kind ≡ true

image_there : (base from : ℕ) (segments : List Segment) → lie_from from segments ≡ true → begins kind.Image base segments ≡ true → ImageThere base segments
image_there base from [] lies there = absurd cc
image_there base from (s ∷ rest) lies there =
    let order = and_parts (nat_le from s.base) (lie_from (end_of s) rest) lies in
    by_head (nat_eq s.base base) refl order.1 there (λ later. image_there base (end_of s) rest order.1 later)
  where
    by_head : (here : Bool) → nat_eq s.base base ≡ here → lie_from (end_of s) rest ≡ true → ((here && is_of kind.Image s) || begins kind.Image base rest) ≡ true
        → (begins kind.Image base rest ≡ true → ImageThere base rest) → ImageThere base (s ∷ rest)
    by_head true is lie there later =
        let same : s.base ≡ base = eqb-true s.base base is in
        let none : begins kind.Image base rest ≡ false = none_before kind.Image base (end_of s) rest lie (omega arith) in
        record {
          segment = s;
          is = rw is refl;
          image = elim (or_cases (is_of kind.Image s) (begins kind.Image base rest) there) [
            | inl of ↦ image_kind s.kind ∙ of
            | inr more ↦ absurd (both_ways (begins kind.Image base rest) none more)
          ];
        }
    by_head false is lie there later =
        let there = later there in
        record { segment = there.segment; is = rw is there.is; image = there.image }

-- the image that begins at an address is that of a handle exactly if the address is that of the
-- handle's image
that_image : (number : ℕ) (one : LoadedImage) (images : List LoadedImage) (base : ℕ) → list_all (is_same_or_other one) images ≡ true → image_of number images ≡ Some one
    → is_image_handle number (image_from (Some base) images) ≡ nat_eq base one.base
that_image number one images base all found = by_found (find (λ (i : LoadedImage). nat_eq i.base base) images) refl
  where
    same_tests : (a b c : Bool) → ((a && b && c) || (not a && not b && not c)) ≡ true → a ≡ b
    same_tests true true c h = refl
    same_tests true false c h = absurd cc
    same_tests false true c h = absurd cc
    same_tests false false c h = refl

    by_found : (there : Option LoadedImage) → find (λ (i : LoadedImage). nat_eq i.base base) images ≡ there → is_image_handle number (option_map (λ (i : LoadedImage). i.handle) there) ≡ nat_eq base one.base
    by_found None is =
        let none : list_any (λ (i : LoadedImage). nat_eq i.base base) images ≡ false = sym (is_some-find (λ (i : LoadedImage). nat_eq i.base base) images) ∙ ap is_some is in
        let other = found_passes (λ (i : LoadedImage). nat_eq i.handle number) (λ (i : LoadedImage). not (nat_eq i.base base)) images one found (list_all-not (λ (i : LoadedImage). nat_eq i.base base) images none) in
        grind (arith, nat_tests, other)
    by_found (Some image) is =
        let at : image.base ≡ base = eqb-true image.base base (found_passed (λ (i : LoadedImage). nat_eq i.base base) images image is) in
        let of : one.handle ≡ number = eqb-true one.handle number (found_passed (λ (i : LoadedImage). nat_eq i.handle number) images one found) in
        let both = found_passes (λ (i : LoadedImage). nat_eq i.base base) (is_same_or_other one) images image is all in
        ap (λ (n : ℕ). nat_eq image.handle n) (sym of) ∙ same_tests (nat_eq image.handle one.handle) (nat_eq image.base one.base) (nat_eq image.block one.block) both ∙ ap (λ (n : ℕ). nat_eq n one.base) at

-- two tests that agree on whatever passes a third
filter_with : {A : Type 0} (O P Q : A → Bool) (xs : List A) → ((x : A) → O x ≡ true → P x ≡ Q x) → list_all O xs ≡ true → filter P xs ≡ filter Q xs
filter_with O P Q [] same all = refl
filter_with O P Q (x ∷ xs) same all =
    let parts = and_parts (O x) (list_all O xs) all in
    rw (same x parts.0, filter_with O P Q xs same parts.1) refl

dropping_one : (soft : Soft) (number : ℕ) (one : LoadedImage) → IsKept soft → image_of number soft.images ≡ Some one
    → without_thunks (beginning_at soft.memory one.base) soft.thunks ≡ filter (λ (thunk : Thunk). not (is_image_handle number (image_at thunk.entry soft))) soft.thunks
dropping_one soft number one kept found =
    let memory = soft.memory in
    let entry = λ (s : Segment). nat_eq s.base one.base && is_of kind.Image s && has_bytes s one.entry 1 in
    let here = found_passes (λ (i : LoadedImage). nat_eq i.handle number) (has_entry memory) soft.images one found kept.images.entry_points in
    let begins_there = any-more entry (λ (s : Segment). nat_eq s.base one.base && is_of kind.Image s) memory (λ s passes. (and_parts (nat_eq s.base one.base && is_of kind.Image s) (has_bytes s one.entry 1) passes).0) here in
    let there = image_there one.base 0 memory kept.memory.apart begins_there in
    let all = all_same_or_other number one 3 FIRST_IMAGE FIRST_BLOCK soft.images soft.database.next soft.next_image soft.next_block kept.images.rising found in
    ap (λ (s : Result Segment MemRefusal). without_thunks s soft.thunks) there.is
    ∙ filter_with (enters_image memory) (λ (thunk : Thunk). not (enters_segment there.segment thunk)) (λ (thunk : Thunk). not (is_image_handle number (image_at thunk.entry soft))) soft.thunks
    (λ thunk entered. ap not (by_code thunk there all (image_with memory thunk.entry) refl entered))
    kept.thunks.targets
  where
    by_code : (thunk : Thunk) (there : ImageThere one.base soft.memory) → list_all (is_same_or_other one) soft.images ≡ true → (code : Option Segment) → image_with soft.memory thunk.entry ≡ code → is_some code ≡ true
        → enters_segment there.segment thunk ≡ is_image_handle number (image_from (option_map (λ (segment : Segment). segment.base) code) soft.images)
    by_code thunk there all None is some = absurd cc
    by_code thunk there all (Some code) is some =
        only_one thunk.entry one.base 0 soft.memory code there.segment kept.memory.apart is there.is there.image ∙ sym (that_image number one soft.images code.base all found)

pub dropping : DroppingTakesThunks
dropping soft handle kept some = by_image (image_of handle soft.images) refl some
  where
    by_image : (found : Option LoadedImage) → image_of handle soft.images ≡ found → is_some found ≡ true
        → (without_loaded found soft).thunks ≡ filter (λ (thunk : Thunk). not (is_image_handle handle (image_at thunk.entry soft))) soft.thunks
    by_image None is some = absurd cc
    by_image (Some one) is some = dropping_one soft handle one kept is
