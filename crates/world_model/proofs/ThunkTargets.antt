-- What thunks enter, as single changes leave it, and how their numbers rise.
use Rattle.std.proofs.Common.{◌≡◌, ◌≤◌, ℕ, ◌+◌, Bool, true, false, not, ◌&&◌, ◌||◌, cond, nat_eq, nat_le, List, [], ◌∷◌, ◌++◌, filter, find, Some, refl, sym, ap, ◌∙◌, subst, arith}
use Rattle.std.specs.Prelude.{Result, Ok, Err, is_some}
use Rattle.std.specs.List.{list_all, list_any}
use Rattle.std.proofs.lemmas.Bool.{and_from, and_left, and_parts, and_right, not-true, or_parts, or_right}
use Rattle.std.proofs.lemmas.Bool.Decides.{nat_tests}
use Rattle.guest_memory.specs.declared.guest.MemRefusal.{MemRefusal}
use Rattle.guest_memory.specs.declared.segment.Segment.{Segment}
use Rattle.guest_memory.specs.declared.segment.SegKind.{SegKind}
use Rattle.guest_memory.specs.declared.segment.SegKind.TheVariants as kind
use Rattle.guest_memory.specs.Segment.{has_bytes, is_image}
use Rattle.guest_memory.specs.GuestMemory.{beginning_at, begins, is_of, kind_number, mapped, put_bytes, unmapped, written}
use Rattle.guest_memory.proofs.PutLemmas.{list_any-put_bytes}
use Rattle.world_model.specs.declared.thunk.Thunk.{Thunk}
use Rattle.world_model.specs.Thunks.{enters, without_thunks}
use Rattle.world_model.specs.Kept.{enters_image, numbers_rise}
use Rattle.world_model.proofs.Segments.{list_all-filter_both, list_all-mono, list_any-mapped, list_any-written}

-- ---- the image that has an address

-- whether a segment is an image that has an address
abbrev pub has_code : ℕ → Segment → Bool
has_code at segment = is_image segment.kind && has_bytes segment at 1

-- something is found exactly if something passes
pub is_some-find : {A : Type 0} (P : A → Bool) (xs : List A) → is_some (find P xs) ≡ list_any P xs
is_some-find P [] = refl
is_some-find {A} P (x ∷ xs) = by_head (P x) (is_some-find P xs)
  where
    by_head : (here : Bool) → is_some (find P xs) ≡ list_any P xs → is_some (cond here (Some x) (find P xs)) ≡ (here || list_any P xs)
    by_head true later = refl
    by_head false later = later

-- what thunks enter in one memory they enter in another that has code at the same addresses
targets-same : (memory other : List Segment) (thunks : List Thunk) → ((at : ℕ) → list_any (has_code at) memory ≡ true → list_any (has_code at) other ≡ true)
    → list_all (enters_image memory) thunks ≡ true → list_all (enters_image other) thunks ≡ true
targets-same memory other thunks more all =
    list_all-mono (enters_image memory) (enters_image other) thunks
    (λ thunk has. is_some-find (has_code thunk.entry) other ∙ more thunk.entry (sym (is_some-find (has_code thunk.entry) memory) ∙ has))
    all

pub targets-mapped : (new : Segment) (memory : List Segment) (thunks : List Thunk) → list_all (enters_image memory) thunks ≡ true → list_all (enters_image (mapped new memory)) thunks ≡ true
targets-mapped new memory thunks all =
    targets-same memory (mapped new memory) thunks
    (λ at has. list_any-mapped (has_code at) new memory ∙ or_right (has_code at new) (list_any (has_code at) memory) has)
    all

pub targets-written : (memory : List Segment) (at n value : ℕ) (thunks : List Thunk) → list_all (enters_image memory) thunks ≡ true → list_all (enters_image (written memory at n value)) thunks ≡ true
targets-written memory at n value thunks all =
    targets-same memory (written memory at n value) thunks
    (λ code has.
    list_any-written (has_code code) memory at n value
    (λ s bytes same. ap (λ (size : ℕ). is_image s.kind && (nat_le s.base code && nat_le (code + 1) (s.base + size))) same)
    ∙ has)
    all

pub targets-put : (memory : List Segment) (at : ℕ) (bytes : List ℕ) (thunks : List Thunk) → list_all (enters_image memory) thunks ≡ true → list_all (enters_image (put_bytes memory at bytes)) thunks ≡ true
targets-put memory at bytes thunks all =
    targets-same memory (put_bytes memory at bytes) thunks
    (λ code has.
    list_any-put_bytes (has_code code) memory at bytes
    (λ s others same. ap (λ (size : ℕ). is_image s.kind && (nat_le s.base code && nat_le (code + 1) (s.base + size))) same)
    ∙ has)
    all

-- an image is of the kind of images
pub image_kind : (of : SegKind) → is_image of ≡ nat_eq (kind_number of) (kind_number kind.Image)
image_kind kind.Image = refl
image_kind kind.Pool = refl
image_kind kind.Firmware = refl
image_kind kind.Stack = refl
image_kind kind.Table = refl

-- without a segment that is no image
code-unmapped_other : (at base : ℕ) (segments : List Segment) → begins kind.Image base segments ≡ false → list_any (has_code at) (unmapped segments base) ≡ list_any (has_code at) segments
code-unmapped_other at base [] none = refl
code-unmapped_other at base (s ∷ rest) none =
    let parts = or_parts (nat_eq s.base base && is_of kind.Image s) (begins kind.Image base rest) none in
    by_head (nat_eq s.base base) parts.0 (code-unmapped_other at base rest parts.1)
  where
    by_head : (here : Bool) → (here && is_of kind.Image s) ≡ false → list_any (has_code at) (unmapped rest base) ≡ list_any (has_code at) rest
        → list_any (has_code at) (cond here rest (s ∷ unmapped rest base)) ≡ (has_code at s || list_any (has_code at) rest)
    by_head true other later =
        let no : has_code at s ≡ false = and_left (is_image s.kind) (has_bytes s at 1) (image_kind s.kind ∙ other) in
        rw no refl
    by_head false other later = ap (λ b. has_code at s || b) later

pub targets-unmapped_other : (base : ℕ) (memory : List Segment) (thunks : List Thunk) → begins kind.Image base memory ≡ false
    → list_all (enters_image memory) thunks ≡ true → list_all (enters_image (unmapped memory base)) thunks ≡ true
targets-unmapped_other base memory thunks none all = targets-same memory (unmapped memory base) thunks (λ at has. code-unmapped_other at base memory none ∙ has) all

-- without a segment that does not have the address
code-unmapped_one : (at base : ℕ) (segments : List Segment) (one : Segment) → beginning_at segments base ≡ Ok one → has_bytes one at 1 ≡ false
    → list_any (has_code at) (unmapped segments base) ≡ list_any (has_code at) segments
code-unmapped_one at base [] one found none = refl
code-unmapped_one at base (s ∷ rest) one found none = by_head (nat_eq s.base base) found (λ later. code-unmapped_one at base rest one later none)
  where
    by_head : (here : Bool) → cond here (Ok s) (beginning_at rest base) ≡ Ok one → (beginning_at rest base ≡ Ok one → list_any (has_code at) (unmapped rest base) ≡ list_any (has_code at) rest)
        → list_any (has_code at) (cond here rest (s ∷ unmapped rest base)) ≡ (has_code at s || list_any (has_code at) rest)
    by_head true found later =
        let same : s ≡ one = cc in
        let other : has_bytes s at 1 ≡ false = subst (λ (x : Segment). has_bytes x at 1 ≡ false) (sym same) none in
        let no : has_code at s ≡ false = and_right (is_image s.kind) (has_bytes s at 1) other in
        rw no refl
    by_head false found later = ap (λ b. has_code at s || b) (later found)

-- nothing is removed if nothing begins at the address
unmapped-none : (segments : List Segment) (base : ℕ) (refusal : MemRefusal) → beginning_at segments base ≡ Err refusal → unmapped segments base ≡ segments
unmapped-none [] base refusal none = refl
unmapped-none (s ∷ rest) base refusal none = by_head (nat_eq s.base base) none (λ later. unmapped-none rest base refusal later)
  where
    by_head : (here : Bool) → cond here (Ok s) (beginning_at rest base) ≡ Err refusal → (beginning_at rest base ≡ Err refusal → unmapped rest base ≡ rest)
        → cond here rest (s ∷ unmapped rest base) ≡ s ∷ rest
    by_head true none later = absurd cc
    by_head false none later = ap (λ others. s ∷ others) (later none)

-- without a segment, and the thunks that enter it
pub targets-without : (base : ℕ) (memory : List Segment) (thunks : List Thunk) → list_all (enters_image memory) thunks ≡ true
    → list_all (enters_image (unmapped memory base)) (without_thunks (beginning_at memory base) thunks) ≡ true
targets-without base memory thunks all = by_found (beginning_at memory base) refl
  where
    by_found : (found : Result Segment MemRefusal) → beginning_at memory base ≡ found → list_all (enters_image (unmapped memory base)) (without_thunks found thunks) ≡ true
    by_found (Err refusal) is = subst (λ (segments : List Segment). list_all (enters_image segments) thunks ≡ true) (sym (unmapped-none memory base refusal is)) all
    by_found (Ok one) is =
        list_all-filter_both (enters_image memory) (λ (thunk : Thunk). not (enters one thunk)) (enters_image (unmapped memory base)) thunks
        (λ thunk has apart.
        is_some-find (has_code thunk.entry) (unmapped memory base)
        ∙ code-unmapped_one thunk.entry base memory one is (not-true (enters one thunk) apart)
        ∙ sym (is_some-find (has_code thunk.entry) memory) ∙ has)
        all

-- ---- numbers

pub numbers-range : (number : ℕ) (thunks : List Thunk) (next : ℕ) → numbers_rise number thunks next ≡ true → number ≤ next
numbers-range number [] next rises = grind (arith, nat_tests, rises)
numbers-range number (thunk ∷ thunks) next rises =
    let parts = and_parts (nat_le number thunk.number) (numbers_rise (thunk.number + 1) thunks next) rises in
    let first : number ≤ thunk.number = grind (arith, nat_tests, parts.0) in
    omega (arith, numbers-range (thunk.number + 1) thunks next parts.1)

numbers-lower : (less number : ℕ) (thunks : List Thunk) (next : ℕ) → less ≤ number → numbers_rise number thunks next ≡ true → numbers_rise less thunks next ≡ true
numbers-lower less number [] next to rises =
    let range = numbers-range number [] next rises in
    grind (arith, nat_tests)
numbers-lower less number (thunk ∷ thunks) next to rises =
    let parts = and_parts (nat_le number thunk.number) (numbers_rise (thunk.number + 1) thunks next) rises in
    let first : nat_le less thunk.number ≡ true = grind (arith, nat_tests, parts.0) in
    and_from (nat_le less thunk.number) (numbers_rise (thunk.number + 1) thunks next) first parts.1

-- one more thunk, of the next number
pub numbers-push : (number : ℕ) (thunks : List Thunk) (new : Thunk) → numbers_rise number thunks new.number ≡ true → numbers_rise number (thunks ++ new ∷ []) (new.number + 1) ≡ true
numbers-push number [] new rises =
    let last : nat_le (new.number + 1) (new.number + 1) ≡ true = grind (arith, nat_tests) in
    and_from (nat_le number new.number) (nat_le (new.number + 1) (new.number + 1)) rises last
numbers-push number (thunk ∷ thunks) new rises =
    let parts = and_parts (nat_le number thunk.number) (numbers_rise (thunk.number + 1) thunks new.number) rises in
    and_from (nat_le number thunk.number) (numbers_rise (thunk.number + 1) (thunks ++ new ∷ []) (new.number + 1)) parts.0 (numbers-push (thunk.number + 1) thunks new parts.1)

pub numbers-filter : (P : Thunk → Bool) (number : ℕ) (thunks : List Thunk) (next : ℕ) → numbers_rise number thunks next ≡ true → numbers_rise number (filter P thunks) next ≡ true
numbers-filter P number [] next rises = rises
numbers-filter P number (thunk ∷ thunks) next rises =
    let parts = and_parts (nat_le number thunk.number) (numbers_rise (thunk.number + 1) thunks next) rises in
    let first : number ≤ thunk.number = grind (arith, nat_tests, parts.0) in
    let later = numbers-filter P (thunk.number + 1) thunks next parts.1 in
    elim (P thunk) as (λ b. numbers_rise number (cond b (thunk ∷ filter P thunks) (filter P thunks)) next ≡ true) [
      | true ↦ and_from (nat_le number thunk.number) (numbers_rise (thunk.number + 1) (filter P thunks) next) parts.0 later
      | false ↦ numbers-lower number (thunk.number + 1) (filter P thunks) next (omega arith) later
    ]

pub numbers-without : (found : Result Segment MemRefusal) (number : ℕ) (thunks : List Thunk) (next : ℕ) → numbers_rise number thunks next ≡ true → numbers_rise number (without_thunks found thunks) next ≡ true
numbers-without (Err refusal) number thunks next rises = rises
numbers-without (Ok one) number thunks next rises = numbers-filter (λ (thunk : Thunk). not (enters one thunk)) number thunks next rises
