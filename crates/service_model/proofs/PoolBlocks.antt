-- Blocks of the pool that are freed and made: what this leaves as it was.
use Rattle.std.proofs.Common.{◌≡◌, ◌≤◌, ◌<◌, inl, inr, ℕ, Bool, true, false, ◌&&◌, ◌||◌, cond, nat_eq, nat_le, nat_lt, List, [], ◌∷◌, refl, sym, ap, ◌∙◌, arith}
use Rattle.std.specs.List.{list_any}
use Rattle.std.proofs.lemmas.Bool.{and_parts, eqb-true, or_cases, or_parts}
use Rattle.std.proofs.lemmas.Bool.Decides.{nat_tests}
use Rattle.guest_memory.specs.declared.segment.Segment.{Segment}
use Rattle.guest_memory.specs.declared.segment.SegKind.{SegKind}
use Rattle.guest_memory.specs.declared.segment.SegKind.TheVariants.{Image, Pool, Firmware, Stack, Table}
use Rattle.guest_memory.specs.Segment.{end_of, has_bytes, is_writable, meets}
use Rattle.guest_memory.specs.GuestMemory.{begins, holder, is_of, is_writable_holder, is_writable_range, kind_number, lie_from, mapped, unmapped}
use Rattle.world_model.specs.Fixed.{fixed_segments}

fixed-cons : (writable : Bool) (s : Segment) (rest : List Segment) → is_writable s.kind ≡ writable → fixed_segments (s ∷ rest) ≡ cond writable (fixed_segments rest) (s ∷ fixed_segments rest)
fixed-cons true s rest is = rw is refl
fixed-cons false s rest is = rw is refl

-- ---- a block of the pool is freed

pool-writable : (kind : SegKind) → nat_eq (kind_number kind) (kind_number Pool) ≡ true → is_writable kind ≡ true
pool-writable Image is = refl
pool-writable Pool is = refl
pool-writable Firmware is = absurd cc
pool-writable Stack is = refl
pool-writable Table is = absurd cc

begins-behind : (from : ℕ) (segments : List Segment) (at : ℕ) → lie_from from segments ≡ true → begins Pool at segments ≡ true → from ≤ at
begins-behind from [] at lies there = absurd cc
begins-behind from (s ∷ rest) at lies there =
    let order = and_parts (nat_le from s.base) (lie_from (end_of s) rest) lies in
    let here : from ≤ s.base = grind (arith, nat_tests, order.0) in
    elim (or_cases (nat_eq s.base at && is_of Pool s) (begins Pool at rest) there) [
      | inl it ↦
          let same : s.base ≡ at = eqb-true s.base at (and_parts (nat_eq s.base at) (is_of Pool s) it).0 in
          omega arith
      | inr later ↦
          let behind : end_of s ≤ at = begins-behind (end_of s) rest at order.1 later in
          omega arith
    ]

freeing-more : (from : ℕ) (s : Segment) (rest : List Segment) (at : ℕ) (here writable : Bool) → nat_eq s.base at ≡ here → is_writable s.kind ≡ writable → lie_from from (s ∷ rest) ≡ true → begins Pool at (s ∷ rest) ≡ true
    → (begins Pool at rest ≡ true → fixed_segments (unmapped rest at) ≡ fixed_segments rest)
    → fixed_segments (cond here rest (s ∷ unmapped rest at)) ≡ fixed_segments (s ∷ rest)
freeing-more from s rest at true true is can lies there later = sym (fixed-cons true s rest can)
freeing-more from s rest at true false is can lies there later =
    let order = and_parts (nat_le from s.base) (lie_from (end_of s) rest) lies in
    let same : s.base ≡ at = eqb-true s.base at is in
    elim (or_cases (nat_eq s.base at && is_of Pool s) (begins Pool at rest) there) [
      | inl it ↦
          let writable : is_writable s.kind ≡ true = pool-writable s.kind (and_parts (nat_eq s.base at) (is_of Pool s) it).1 in
          absurd cc
      | inr behind ↦
          let after : end_of s ≤ at = begins-behind (end_of s) rest at order.1 behind in
          absurd (omega arith)
    ]
freeing-more from s rest at false writable is can lies there later =
    let others : begins Pool at rest ≡ true = rw is at there in
    fixed-cons writable s (unmapped rest at) can ∙ ap (λ others. cond writable others (s ∷ others)) (later others) ∙ sym (fixed-cons writable s rest can)

pub freeing : (from : ℕ) (segments : List Segment) (at : ℕ) → lie_from from segments ≡ true → begins Pool at segments ≡ true → fixed_segments (unmapped segments at) ≡ fixed_segments segments
freeing from [] at lies there = refl
freeing from (s ∷ rest) at lies there =
    freeing-more from s rest at (nat_eq s.base at) (is_writable s.kind) refl refl lies there
    (λ others. freeing (end_of s) rest at (and_parts (nat_le from s.base) (lie_from (end_of s) rest) lies).1 others)

-- ---- a block of the pool is made

-- a segment that meets none has none of their bytes
has-none : (new s : Segment) (at n : ℕ) → 0 < n → meets new s ≡ false → has_bytes s at n ≡ true → has_bytes new at n ≡ false
has-none new s at n some apart has = grind (arith, nat_tests, apart, has)

none-of-held-more : (new s : Segment) (rest : List Segment) (at n : ℕ) (has : Bool) → 0 < n → has_bytes s at n ≡ has → meets new s ≡ false → is_writable_holder (holder (s ∷ rest) at n) ≡ true
    → (is_writable_holder (holder rest at n) ≡ true → has_bytes new at n ≡ false)
    → has_bytes new at n ≡ false
none-of-held-more new s rest at n true some is apart can later = has-none new s at n some apart is
none-of-held-more new s rest at n false some is apart can later = later (rw is at can)

none-of-held : (new : Segment) (segments : List Segment) (at n : ℕ) → 0 < n → list_any (λ (other : Segment). meets new other) segments ≡ false → is_writable_holder (holder segments at n) ≡ true → has_bytes new at n ≡ false
none-of-held new [] at n some apart can = absurd cc
none-of-held new (s ∷ rest) at n some apart can =
    let parts = or_parts (meets new s) (list_any (λ (other : Segment). meets new other) rest) apart in
    none-of-held-more new s rest at n (has_bytes s at n) some refl parts.0 can (λ others. none-of-held new rest at n some parts.1 others)

mapping-more : (new s : Segment) (rest : List Segment) (at n : ℕ) (before has : Bool) → has_bytes s at n ≡ has → has_bytes new at n ≡ false
    → is_writable_holder (holder (s ∷ rest) at n) ≡ true
    → (is_writable_holder (holder rest at n) ≡ true → is_writable_holder (holder (mapped new rest) at n) ≡ true)
    → is_writable_holder (holder (cond before (s ∷ mapped new rest) (new ∷ s ∷ rest)) at n) ≡ true
mapping-more new s rest at n true true is none can later = rw is (rw is at can)
mapping-more new s rest at n true false is none can later = rw is (later (rw is at can))
mapping-more new s rest at n false has is none can later = rw none can

mapping-some : (new : Segment) (segments : List Segment) (at n : ℕ) → 0 < n → list_any (λ (other : Segment). meets new other) segments ≡ false → is_writable_holder (holder segments at n) ≡ true → is_writable_holder (holder (mapped new segments) at n) ≡ true
mapping-some new [] at n some apart can = absurd cc
mapping-some new (s ∷ rest) at n some apart can =
    mapping-more new s rest at n (nat_lt s.base new.base) (has_bytes s at n) refl (none-of-held new (s ∷ rest) at n some apart can) can
    (λ others. mapping-some new rest at n some (or_parts (meets new s) (list_any (λ (other : Segment). meets new other) rest) apart).1 others)

-- what could be written can be written
pub mapping : (new : Segment) (segments : List Segment) (at n : ℕ) → list_any (λ (other : Segment). meets new other) segments ≡ false → is_writable_range segments at n ≡ true → is_writable_range (mapped new segments) at n ≡ true
mapping new segments at n apart can = by_test (nat_eq n 0) refl
  where
    by_test : (none : Bool) → nat_eq n 0 ≡ none → (nat_eq n 0 || is_writable_holder (holder (mapped new segments) at n)) ≡ true
    by_test true is = rw is refl
    by_test false is =
        let some : 0 < n = grind (arith, nat_tests, is) in
        rw is (mapping-some new segments at n some apart (rw is at can))
