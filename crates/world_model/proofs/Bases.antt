-- Where the segments of a kind begin, as mapping, unmapping and writing leave them.
use Rattle.std.proofs.Common.{◌≡◌, ◌≤◌, ◌<◌, ◌⊎◌, inl, inr, ℕ, Bool, true, false, not, ◌&&◌, cond, nat_eq, nat_le, nat_lt, List, [], ◌∷◌, ◌++◌, length, filter, refl, sym, ap, ◌∙◌, arith}
use Rattle.std.specs.List.{list_all}
use Rattle.std.proofs.lemmas.Bool.{and_parts, or_parts, or_from, and_right, eqb-true}
use Rattle.std.proofs.lemmas.Bool.Decides.{nat_tests}
use Rattle.guest_memory.specs.declared.segment.Segment.{Segment}
use Rattle.guest_memory.specs.declared.segment.SegKind.{SegKind}
use Rattle.guest_memory.specs.declared.segment.SegKind.TheVariants as kind
use Rattle.guest_memory.specs.Segment.{end_of, has_bytes, with_number}
use Rattle.guest_memory.specs.GuestMemory.{begins, is_of, kind_number, lie_from, mapped, put_bytes, unmapped, written}
use Rattle.guest_memory.proofs.PutLemmas.{parts-put_bytes}
use Rattle.guest_memory.specs.declared.address_map.TheConstants.{FIRST_IMAGE}
use Rattle.world_model.specs.World.{bases}
use Rattle.world_model.specs.Kept.{is_placed, is_in_region}

pub bases-cons : (of : SegKind) (is : Bool) (s : Segment) (segments : List Segment) → is_of of s ≡ is → bases of (s ∷ segments) ≡ cond is (s.base ∷ bases of segments) (bases of segments)
bases-cons of true s segments h = rw h refl
bases-cons of false s segments h = rw h refl

-- ---- writing

written-more : (of : SegKind) (s : Segment) (rest : List Segment) (at n value : ℕ) (has : Bool) → bases of (written rest at n value) ≡ bases of rest
    → bases of (cond has (with_number s at n value ∷ rest) (s ∷ written rest at n value)) ≡ bases of (s ∷ rest)
written-more of s rest at n value true later =
    let is = is_of of s in
    bases-cons of is (with_number s at n value) rest refl ∙ sym (bases-cons of is s rest refl)
written-more of s rest at n value false later =
    let is = is_of of s in
    bases-cons of is s (written rest at n value) refl ∙ ap (λ others. cond is (s.base ∷ others) others) later ∙ sym (bases-cons of is s rest refl)

pub bases-written : (of : SegKind) (segments : List Segment) (at n value : ℕ) → bases of (written segments at n value) ≡ bases of segments
bases-written of [] at n value = refl
bases-written of (s ∷ rest) at n value = written-more of s rest at n value (has_bytes s at n) (bases-written of rest at n value)

-- bytes that are put leave where segments begin
pub bases-put : (of : SegKind) (segments : List Segment) (at : ℕ) (bytes : List ℕ) → bases of (put_bytes segments at bytes) ≡ bases of segments
bases-put of segments at bytes = parts-put_bytes (is_of of) (λ (s : Segment). s.base) segments at bytes (λ s others same. refl) (λ s others same. refl)

-- ---- mapping

-- a segment of another kind
pub bases-mapped_other : (of : SegKind) (new : Segment) (segments : List Segment) → is_of of new ≡ false → bases of (mapped new segments) ≡ bases of segments
bases-mapped_other of new [] other = bases-cons of false new [] other
bases-mapped_other of new (s ∷ rest) other =
    let is = is_of of s in
    elim (nat_lt s.base new.base) as (λ b. bases of (cond b (s ∷ mapped new rest) (new ∷ s ∷ rest)) ≡ bases of (s ∷ rest)) [
      | true ↦ bases-cons of is s (mapped new rest) refl ∙ ap (λ others. cond is (s.base ∷ others) others) (bases-mapped_other of new rest other) ∙ sym (bases-cons of is s rest refl)
      | false ↦ bases-cons of false new (s ∷ rest) other
    ]

-- ---- unmapping

unmapped-more : (of : SegKind) (base : ℕ) (s : Segment) (rest : List Segment) (here : Bool) → nat_eq s.base base ≡ here → begins of base (s ∷ rest) ≡ false
    → (begins of base rest ≡ false → bases of (unmapped rest base) ≡ bases of rest)
    → bases of (cond here rest (s ∷ unmapped rest base)) ≡ bases of (s ∷ rest)
unmapped-more of base s rest true is none later =
    let parts = or_parts (nat_eq s.base base && is_of of s) (begins of base rest) none in
    let other : is_of of s ≡ false = rw is at parts.0 in
    sym (bases-cons of false s rest other)
unmapped-more of base s rest false is none later =
    let parts = or_parts (nat_eq s.base base && is_of of s) (begins of base rest) none in
    let is = is_of of s in
    bases-cons of is s (unmapped rest base) refl ∙ ap (λ others. cond is (s.base ∷ others) others) (later parts.1) ∙ sym (bases-cons of is s rest refl)

-- a segment of another kind
pub bases-unmapped_other : (of : SegKind) (base : ℕ) (segments : List Segment) → begins of base segments ≡ false → bases of (unmapped segments base) ≡ bases of segments
bases-unmapped_other of base [] none = refl
bases-unmapped_other of base (s ∷ rest) none = unmapped-more of base s rest (nat_eq s.base base) refl none (bases-unmapped_other of base rest)

-- no segment that lies after an address begins before it
other_behind : (of : SegKind) (base from : ℕ) (segments : List Segment) → lie_from from segments ≡ true → base < from → filter (λ (b : ℕ). not (nat_eq b base)) (bases of segments) ≡ bases of segments
other_behind of base from [] lies behind = refl
other_behind of base from (s ∷ rest) lies behind =
    let order = and_parts (nat_le from s.base) (lie_from (end_of s) rest) lies in
    let here : nat_eq s.base base ≡ false = grind (arith, nat_tests, order.0) in
    let from_here : from ≤ s.base = grind (arith, nat_tests, order.0) in
    let later = other_behind of base (end_of s) rest order.1 (omega arith) in
    let is = is_of of s in
    ap (filter (λ (b : ℕ). not (nat_eq b base))) (bases-cons of is s rest refl) ∙ other_by is here later ∙ sym (bases-cons of is s rest refl)
  where
    other_by : (is : Bool) → nat_eq s.base base ≡ false → filter (λ (b : ℕ). not (nat_eq b base)) (bases of rest) ≡ bases of rest
        → filter (λ (b : ℕ). not (nat_eq b base)) (cond is (s.base ∷ bases of rest) (bases of rest)) ≡ cond is (s.base ∷ bases of rest) (bases of rest)
    other_by true here later = rw (here, later) refl
    other_by false here later = later

unmapped_one-more : (of : SegKind) (base from : ℕ) (s : Segment) (rest : List Segment) (here is : Bool) → nat_eq s.base base ≡ here → is_of of s ≡ is → lie_from from (s ∷ rest) ≡ true
    → bases of (unmapped rest base) ≡ filter (λ (b : ℕ). not (nat_eq b base)) (bases of rest)
    → bases of (cond here rest (s ∷ unmapped rest base)) ≡ filter (λ (b : ℕ). not (nat_eq b base)) (bases of (s ∷ rest))
unmapped_one-more of base from s rest true true at is lies later =
    let order = and_parts (nat_le from s.base) (lie_from (end_of s) rest) lies in
    let same : s.base ≡ base = eqb-true s.base base at in
    rw (bases-cons of true s rest is, at) (sym (other_behind of base (end_of s) rest order.1 (omega arith)))
unmapped_one-more of base from s rest true false at is lies later =
    let order = and_parts (nat_le from s.base) (lie_from (end_of s) rest) lies in
    let same : s.base ≡ base = eqb-true s.base base at in
    rw (bases-cons of false s rest is) (sym (other_behind of base (end_of s) rest order.1 (omega arith)))
unmapped_one-more of base from s rest false true at is lies later =
    rw (bases-cons of true s rest is, bases-cons of true s (unmapped rest base) is, at) (ap (λ others. s.base ∷ others) later)
unmapped_one-more of base from s rest false false at is lies later =
    rw (bases-cons of false s rest is, bases-cons of false s (unmapped rest base) is) later

-- a segment of any kind
pub bases-unmapped : (of : SegKind) (base from : ℕ) (segments : List Segment) → lie_from from segments ≡ true
    → bases of (unmapped segments base) ≡ filter (λ (b : ℕ). not (nat_eq b base)) (bases of segments)
bases-unmapped of base from [] lies = refl
bases-unmapped of base from (s ∷ rest) lies =
    let order = and_parts (nat_le from s.base) (lie_from (end_of s) rest) lies in
    unmapped_one-more of base from s rest (nat_eq s.base base) (is_of of s) refl refl lies (bases-unmapped of base (end_of s) rest order.1)

-- ---- images

-- a segment that lies in its region and begins at or after the next image's address is no image
none_behind-more : (next block : ℕ) (s : Segment) → is_placed next block s ≡ true → next ≤ s.base → is_of kind.Image s ≡ false
none_behind-more next block s right behind = none next block s.kind s.base (length s.bytes) right behind
  where
    none : (next block : ℕ) (kind : SegKind) (base size : ℕ) → is_in_region next block kind base size ≡ true → next ≤ base → nat_eq (kind_number kind) 0 ≡ false
    none next block kind.Image base size right behind = grind (arith, nat_tests)
    none next block kind.Pool base size right behind = refl
    none next block kind.Firmware base size right behind = refl
    none next block kind.Stack base size right behind = refl
    none next block kind.Table base size right behind = refl

-- segments after the next image's address have no image among them
none_behind : (next block from : ℕ) (segments : List Segment) → list_all (is_placed next block) segments ≡ true → lie_from from segments ≡ true → next ≤ from → bases kind.Image segments ≡ []
none_behind next block from [] placed lies behind = refl
none_behind next block from (s ∷ rest) placed lies behind =
    let parts = and_parts (is_placed next block s) (list_all (is_placed next block) rest) placed in
    let order = and_parts (nat_le from s.base) (lie_from (end_of s) rest) lies in
    let here : from ≤ s.base = grind (arith, nat_tests, order.0) in
    bases-cons kind.Image false s rest (none_behind-more next block s parts.0 (omega arith))
    ∙ none_behind next block (end_of s) rest parts.1 order.1 (omega arith)

-- an image at the next image's address comes after all others
pub bases-mapped_image : (next block from : ℕ) (new : Segment) (segments : List Segment) → list_all (is_placed next block) segments ≡ true → lie_from from segments ≡ true → is_of kind.Image new ≡ true → new.base ≡ next
    → bases kind.Image (mapped new segments) ≡ bases kind.Image segments ++ new.base ∷ []
bases-mapped_image next block from new [] placed lies is at = bases-cons kind.Image true new [] is
bases-mapped_image next block from new (s ∷ rest) placed lies is at =
    let parts = and_parts (is_placed next block s) (list_all (is_placed next block) rest) placed in
    let order = and_parts (nat_le from s.base) (lie_from (end_of s) rest) lies in
    let later = bases-mapped_image next block (end_of s) new rest parts.1 order.1 is at in
    bases_by (nat_lt s.base new.base) refl parts.0 order.1 later
  where
    append-cond : (b : Bool) (x : ℕ) (xs ys : List ℕ) → cond b (x ∷ xs ++ ys) (xs ++ ys) ≡ cond b (x ∷ xs) xs ++ ys
    append-cond true x xs ys = refl
    append-cond false x xs ys = refl

    bases_by : (before : Bool) → nat_lt s.base new.base ≡ before → is_placed next block s ≡ true → lie_from (end_of s) rest ≡ true → bases kind.Image (mapped new rest) ≡ bases kind.Image rest ++ new.base ∷ []
        → bases kind.Image (cond before (s ∷ mapped new rest) (new ∷ s ∷ rest)) ≡ bases kind.Image (s ∷ rest) ++ new.base ∷ []
    bases_by true h right lie later =
        let is_image = is_of kind.Image s in
        bases-cons kind.Image is_image s (mapped new rest) refl ∙ ap (λ others. cond is_image (s.base ∷ others) others) later
        ∙ append-cond is_image s.base (bases kind.Image rest) (new.base ∷ []) ∙ ap (λ others. others ++ new.base ∷ []) (sym (bases-cons kind.Image is_image s rest refl))
    bases_by false h right lie later =
        let behind : next ≤ s.base = grind (arith, nat_tests) in
        let none : bases kind.Image (s ∷ rest) ≡ [] =
        bases-cons kind.Image false s rest (none_behind-more next block s right behind) ∙ none_behind next block (end_of s) rest (and_parts (is_placed next block s) (list_all (is_placed next block) rest) placed).1 lie (omega arith) in
        bases-cons kind.Image true new (s ∷ rest) is ∙ ap (λ others. new.base ∷ others) none ∙ sym (ap (λ others. others ++ new.base ∷ []) none)

-- no image begins outside the range of images
pub no_image : (next block base : ℕ) (segments : List Segment) → list_all (is_placed next block) segments ≡ true → (base < FIRST_IMAGE) ⊎ (next ≤ base) → begins kind.Image base segments ≡ false
no_image next block base [] placed away = refl
no_image next block base (s ∷ rest) placed away =
    let parts = and_parts (is_placed next block s) (list_all (is_placed next block) rest) placed in
    or_from (nat_eq s.base base && is_of kind.Image s) (begins kind.Image base rest) (other next block base s.kind s.base (length s.bytes) parts.0 away) (no_image next block base rest parts.1 away)
  where
    other : (next block at : ℕ) (kind : SegKind) (base size : ℕ) → is_in_region next block kind base size ≡ true → (at < FIRST_IMAGE) ⊎ (next ≤ at) → (nat_eq base at && nat_eq (kind_number kind) 0) ≡ false
    other next block at kind.Image base size right (inl before) = grind (arith, nat_tests)
    other next block at kind.Image base size right (inr behind) = grind (arith, nat_tests)
    other next block at kind.Pool base size right away = and_right (nat_eq base at) false refl
    other next block at kind.Firmware base size right away = and_right (nat_eq base at) false refl
    other next block at kind.Stack base size right away = and_right (nat_eq base at) false refl
    other next block at kind.Table base size right away = and_right (nat_eq base at) false refl
