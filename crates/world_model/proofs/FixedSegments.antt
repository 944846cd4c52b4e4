-- Segments that no code may write keep their bytes while they are mapped.
use Rattle.std.proofs.Common.{◌≡◌, ◌≤◌, ℕ, ◌+◌, Bool, true, false, not, cond, nat_eq, nat_le, nat_lt, List, [], ◌∷◌, refl, sym, ap, ◌∙◌, arith}
use Rattle.std.specs.Prelude.{Ok, Err, if◌then◌else◌}
use Rattle.std.specs.List.{list_all}
use Rattle.std.proofs.lemmas.Bool.{and_from, and_parts, eqb-true, not-true}
use Rattle.std.proofs.lemmas.Bool.Decides.{nat_tests}
use Rattle.guest_memory.specs.declared.segment.Segment.{Segment}
use Rattle.guest_memory.specs.declared.guest.MemRefusal.TheVariants.{ReadOnly}
use Rattle.guest_memory.specs.Segment.{end_of, has_bytes, is_writable, with_number}
use Rattle.guest_memory.specs.GuestMemory.{lie_from, mapped, unmapped, write_answer, written}
use Rattle.guest_memory.proofs.PutLemmas.{fixed-put_bytes}
use Rattle.world_model.specs.Fixed.{MappingKeepsFixed, PuttingKeepsFixed, UnmappingKeepsFixed, WritingKeepsFixed, fixed_segments}
use Rattle.world_model.proofs.Segments.{list_all-filter, list_all-mono}

fixed-cons : (writable : Bool) (s : Segment) (rest : List Segment) → is_writable s.kind ≡ writable → fixed_segments (s ∷ rest) ≡ cond writable (fixed_segments rest) (s ∷ fixed_segments rest)
fixed-cons true s rest is = rw is refl
fixed-cons false s rest is = rw is refl

-- ---- writing

writing-more : (s : Segment) (rest : List Segment) (at n value : ℕ) (has writable : Bool) → has_bytes s at n ≡ has → is_writable s.kind ≡ writable → write_answer (s ∷ rest) at n ≡ Ok tt
    → (write_answer rest at n ≡ Ok tt → fixed_segments (written rest at n value) ≡ fixed_segments rest)
    → fixed_segments (cond has (with_number s at n value ∷ rest) (s ∷ written rest at n value)) ≡ fixed_segments (s ∷ rest)
writing-more s rest at n value true true has is done later = fixed-cons true (with_number s at n value) rest is ∙ sym (fixed-cons true s rest is)
writing-more s rest at n value true false has is done later =
    let refused : write_answer (s ∷ rest) at n ≡ Err ReadOnly = rw (has, is) refl in
    absurd cc
writing-more s rest at n value false writable has is done later =
    let same : fixed_segments (written rest at n value) ≡ fixed_segments rest = later (rw has at done) in
    fixed-cons writable s (written rest at n value) is ∙ ap (λ others. cond writable others (s ∷ others)) same ∙ sym (fixed-cons writable s rest is)

pub writing : WritingKeepsFixed
writing [] at n value done = refl
writing (s ∷ rest) at n value done = writing-more s rest at n value (has_bytes s at n) (is_writable s.kind) refl refl done (λ later. writing rest at n value later)

pub putting : PuttingKeepsFixed
putting segments at bytes can = fixed-put_bytes segments at bytes can

-- ---- mapping

-- segments that lie from an address on begin there or after it
pub all_from : (low from : ℕ) (segments : List Segment) → lie_from from segments ≡ true → low ≤ from → list_all (λ (s : Segment). nat_le low s.base) segments ≡ true
all_from low from [] lies le = refl
all_from low from (s ∷ rest) lies le =
    let order = and_parts (nat_le from s.base) (lie_from (end_of s) rest) lies in
    let here : nat_le low s.base ≡ true = grind (arith, nat_tests, order.0) in
    let behind : low ≤ s.base = grind (arith, nat_tests, order.0) in
    and_from (nat_le low s.base) (list_all (λ (s : Segment). nat_le low s.base) rest) here (all_from low (end_of s) rest order.1 (omega arith))

pub mapped-first : (new : Segment) (segments : List Segment) → list_all (λ (s : Segment). nat_le new.base s.base) segments ≡ true → mapped new segments ≡ new ∷ segments
mapped-first new [] all = refl
mapped-first new (s ∷ rest) all =
    let parts = and_parts (nat_le new.base s.base) (list_all (λ (s : Segment). nat_le new.base s.base) rest) all in
    let behind : nat_lt s.base new.base ≡ false = grind (arith, nat_tests, parts.0) in
    rw behind refl

-- the fixed segments with a new one, unless that is writable
abbrev added : Bool → Segment → List Segment → List Segment
added writable new others = if writable then others else mapped new others

mapping-more : (new s : Segment) (rest : List Segment) (from : ℕ) (before writable one : Bool) → nat_lt s.base new.base ≡ before → is_writable s.kind ≡ writable → is_writable new.kind ≡ one → lie_from from (s ∷ rest) ≡ true
    → fixed_segments (mapped new rest) ≡ added one new (fixed_segments rest)
    → fixed_segments (cond before (s ∷ mapped new rest) (new ∷ s ∷ rest)) ≡ added one new (fixed_segments (s ∷ rest))
mapping-more new s rest from true true one order is new_is lies later =
    fixed-cons true s (mapped new rest) is ∙ later ∙ sym (ap (added one new) (fixed-cons true s rest is))
mapping-more new s rest from true false true order is new_is lies later =
    fixed-cons false s (mapped new rest) is ∙ ap (λ others. s ∷ others) later ∙ sym (fixed-cons false s rest is)
mapping-more new s rest from true false false order is new_is lies later =
    let one : mapped new (s ∷ fixed_segments rest) ≡ s ∷ mapped new (fixed_segments rest) = rw order refl in
    fixed-cons false s (mapped new rest) is ∙ ap (λ others. s ∷ others) later ∙ sym one ∙ sym (ap (mapped new) (fixed-cons false s rest is))
mapping-more new s rest from false writable true order is new_is lies later = fixed-cons true new (s ∷ rest) new_is
mapping-more new s rest from false writable false order is new_is lies later =
    let parts = and_parts (nat_le from s.base) (lie_from (end_of s) rest) lies in
    let here : nat_le new.base s.base ≡ true = grind (arith, nat_tests, order) in
    let low : new.base ≤ end_of s = grind (arith, nat_tests, order) in
    let all : list_all (λ (s : Segment). nat_le new.base s.base) (s ∷ rest) ≡ true =
    and_from (nat_le new.base s.base) (list_all (λ (s : Segment). nat_le new.base s.base) rest) here (all_from new.base (end_of s) rest parts.1 low) in
    fixed-cons false new (s ∷ rest) new_is
    ∙ sym (mapped-first new (fixed_segments (s ∷ rest)) (list_all-filter (λ (s : Segment). nat_le new.base s.base) (λ (s : Segment). not (is_writable s.kind)) (s ∷ rest) all))

mapping_from : (from : ℕ) (segments : List Segment) (new : Segment) → lie_from from segments ≡ true → fixed_segments (mapped new segments) ≡ added (is_writable new.kind) new (fixed_segments segments)
mapping_from from [] new lies = by_new (is_writable new.kind) refl
  where
    by_new : (one : Bool) → is_writable new.kind ≡ one → fixed_segments (new ∷ []) ≡ added one new []
    by_new true is = fixed-cons true new [] is
    by_new false is = fixed-cons false new [] is
mapping_from from (s ∷ rest) new lies =
    let parts = and_parts (nat_le from s.base) (lie_from (end_of s) rest) lies in
    mapping-more new s rest from (nat_lt s.base new.base) (is_writable s.kind) (is_writable new.kind) refl refl refl lies (mapping_from (end_of s) rest new parts.1)

pub mapping : MappingKeepsFixed
mapping segments new lies = mapping_from 0 segments new lies

-- ---- unmapping

unmapped-none : (base : ℕ) (segments : List Segment) → list_all (λ (s : Segment). not (nat_eq s.base base)) segments ≡ true → unmapped segments base ≡ segments
unmapped-none base [] all = refl
unmapped-none base (s ∷ rest) all =
    let parts = and_parts (not (nat_eq s.base base)) (list_all (λ (s : Segment). not (nat_eq s.base base)) rest) all in
    let other : nat_eq s.base base ≡ false = not-true (nat_eq s.base base) parts.0 in
    rw other (ap (λ others. s ∷ others) (unmapped-none base rest parts.1))

unmapping-more : (base from : ℕ) (s : Segment) (rest : List Segment) (here writable : Bool) → nat_eq s.base base ≡ here → is_writable s.kind ≡ writable → lie_from from (s ∷ rest) ≡ true
    → fixed_segments (unmapped rest base) ≡ unmapped (fixed_segments rest) base
    → fixed_segments (cond here rest (s ∷ unmapped rest base)) ≡ unmapped (fixed_segments (s ∷ rest)) base
unmapping-more base from s rest true true at is lies later =
    let parts = and_parts (nat_le from s.base) (lie_from (end_of s) rest) lies in
    let same : s.base ≡ base = eqb-true s.base base at in
    let behind : list_all (λ (o : Segment). nat_le (base + 1) o.base) rest ≡ true = all_from (base + 1) (end_of s) rest parts.1 (omega arith) in
    let others : list_all (λ (o : Segment). not (nat_eq o.base base)) rest ≡ true =
    list_all-mono (λ (o : Segment). nat_le (base + 1) o.base) (λ (o : Segment). not (nat_eq o.base base)) rest (λ o high. grind (arith, nat_tests)) behind in
    sym (ap (λ others. unmapped others base) (fixed-cons true s rest is)
    ∙ unmapped-none base (fixed_segments rest) (list_all-filter (λ (o : Segment). not (nat_eq o.base base)) (λ (o : Segment). not (is_writable o.kind)) rest others))
unmapping-more base from s rest true false at is lies later = sym (ap (λ others. unmapped others base) (fixed-cons false s rest is) ∙ rw at refl)
unmapping-more base from s rest false true at is lies later =
    fixed-cons true s (unmapped rest base) is ∙ later ∙ sym (ap (λ others. unmapped others base) (fixed-cons true s rest is))
unmapping-more base from s rest false false at is lies later =
    let one : unmapped (s ∷ fixed_segments rest) base ≡ s ∷ unmapped (fixed_segments rest) base = rw at refl in
    fixed-cons false s (unmapped rest base) is ∙ ap (λ others. s ∷ others) later ∙ sym one ∙ sym (ap (λ others. unmapped others base) (fixed-cons false s rest is))

unmapping_from : (from : ℕ) (segments : List Segment) (base : ℕ) → lie_from from segments ≡ true → fixed_segments (unmapped segments base) ≡ unmapped (fixed_segments segments) base
unmapping_from from [] base lies = refl
unmapping_from from (s ∷ rest) base lies =
    let parts = and_parts (nat_le from s.base) (lie_from (end_of s) rest) lies in
    unmapping-more base from s rest (nat_eq s.base base) (is_writable s.kind) refl refl lies (unmapping_from (end_of s) rest base parts.1)

pub unmapping : UnmappingKeepsFixed
unmapping segments base lies = unmapping_from 0 segments base lies
