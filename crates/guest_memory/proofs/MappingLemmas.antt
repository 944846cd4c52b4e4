-- Mapping and unmapping undo one another.
use Rattle.std.proofs.Common.{◌≡◌, ◌<◌, ◌≤◌, ℕ, Bool, true, false, nat_lt, nat_eq, cond, List, [], ◌∷◌, Ok, refl, ap, sym, ◌∙◌, arith}
use Rattle.std.proofs.lemmas.Bool.Decides.{nat_tests}
use Rattle.guest_memory.specs.Segment.{end_of}
use Rattle.guest_memory.specs.GuestMemory.{lie_from, mapped, unmapped, beginning_at}
use Rattle.guest_memory.specs.Laws.{UnmappedTakesBackMapped, MappedBeginsThere, MappedTakesBackUnmapped}
use Rattle.guest_memory.specs.declared.segment.Segment.{Segment}
use Rattle.guest_memory.proofs.OrderLemmas.{head_lies}

-- ---- unmapping what was mapped

not_equal : (a b : ℕ) → a < b → nat_eq a b ≡ false
not_equal a b h = grind (arith, nat_tests, h)

same_number : (a : ℕ) → nat_eq a a ≡ true
same_number a = grind (arith, nat_tests)

unmapped-mapped-more : (new segment : Segment) (segments : List Segment) (below : Bool) → nat_lt segment.base new.base ≡ below → unmapped (mapped new segments) new.base ≡ segments
    → unmapped (cond below (segment ∷ mapped new segments) (new ∷ segment ∷ segments)) new.base ≡ segment ∷ segments
unmapped-mapped-more new segment segments true is rest =
    let other : nat_eq segment.base new.base ≡ false = not_equal segment.base new.base (grind (arith, nat_tests, is)) in
    rw other (ap (λ others. segment ∷ others) rest)
unmapped-mapped-more new segment segments false is rest = rw (same_number new.base) refl

pub unmapped_takes_back_mapped : UnmappedTakesBackMapped
unmapped_takes_back_mapped [] new = rw (same_number new.base) refl
unmapped_takes_back_mapped (segment ∷ segments) new =
    unmapped-mapped-more new segment segments (nat_lt segment.base new.base) refl (unmapped_takes_back_mapped segments new)

beginning_at-mapped-more : (new segment : Segment) (segments : List Segment) (below : Bool) → nat_lt segment.base new.base ≡ below → beginning_at (mapped new segments) new.base ≡ Ok new
    → beginning_at (cond below (segment ∷ mapped new segments) (new ∷ segment ∷ segments)) new.base ≡ Ok new
beginning_at-mapped-more new segment segments true is rest =
    let other : nat_eq segment.base new.base ≡ false = not_equal segment.base new.base (grind (arith, nat_tests, is)) in
    rw other rest
beginning_at-mapped-more new segment segments false is rest = rw (same_number new.base) refl

pub mapped_begins_there : MappedBeginsThere
mapped_begins_there [] new = rw (same_number new.base) refl
mapped_begins_there (segment ∷ segments) new =
    beginning_at-mapped-more new segment segments (nat_lt segment.base new.base) refl (mapped_begins_there segments new)

-- ---- mapping what was unmapped

-- a segment in front of all others is mapped in front
mapped-front : (new : Segment) (segments : List Segment) → lie_from (end_of new) segments ≡ true → mapped new segments ≡ new ∷ segments
mapped-front new [] lie = refl
mapped-front new (segment ∷ segments) lie =
    let after : end_of new ≤ segment.base = (head_lies (end_of new) segment segments lie).0 in
    let not_below : nat_lt segment.base new.base ≡ false = grind (arith, nat_tests, after) in
    rw not_below refl

begins_above-more : (a : ℕ) (first : Segment) (segments : List Segment) (base : ℕ) (segment : Segment) (here : Bool) → a ≤ first.base → cond here (Ok first) (beginning_at segments base) ≡ Ok segment
    → (beginning_at segments base ≡ Ok segment → end_of first ≤ segment.base) → a ≤ segment.base
begins_above-more a first segments base segment true low is rest =
    let same : first ≡ segment = cc in
    omega (arith, low, ap (λ (s : Segment). s.base) same)
begins_above-more a first segments base segment false low is rest = omega (arith, low, rest is)

-- one that begins at an address lies at or above the address from which the segments lie
begins_above : (a : ℕ) (segments : List Segment) (base : ℕ) (segment : Segment) → lie_from a segments ≡ true → beginning_at segments base ≡ Ok segment → a ≤ segment.base
begins_above a [] base segment lie is = absurd cc
begins_above a (first ∷ segments) base segment lie is =
    let parts = head_lies a first segments lie in
    begins_above-more a first segments base segment (nat_eq first.base base) parts.0 is (begins_above (end_of first) segments base segment parts.1)

mapped-unmapped-more : (a : ℕ) (first : Segment) (segments : List Segment) (base : ℕ) (segment : Segment) (here : Bool) → lie_from (end_of first) segments ≡ true → cond here (Ok first) (beginning_at segments base) ≡ Ok segment
    → (beginning_at segments base ≡ Ok segment → mapped segment (unmapped segments base) ≡ segments)
    → mapped segment (cond here segments (first ∷ unmapped segments base)) ≡ first ∷ segments
mapped-unmapped-more a first segments base segment true lie is rest =
    let same : first ≡ segment = cc in
    ap (λ s. mapped s segments) (sym same) ∙ mapped-front first segments lie
mapped-unmapped-more a first segments base segment false lie is rest =
    let above : end_of first ≤ segment.base = begins_above (end_of first) segments base segment lie is in
    let below : nat_lt first.base segment.base ≡ true = grind (arith, nat_tests, above) in
    rw below (ap (λ others. first ∷ others) (rest is))

mapped-unmapped : (a : ℕ) (segments : List Segment) (base : ℕ) (segment : Segment) → lie_from a segments ≡ true → beginning_at segments base ≡ Ok segment → mapped segment (unmapped segments base) ≡ segments
mapped-unmapped a [] base segment lie is = absurd cc
mapped-unmapped a (first ∷ segments) base segment lie is =
    let parts = head_lies a first segments lie in
    mapped-unmapped-more a first segments base segment (nat_eq first.base base) parts.1 is (mapped-unmapped (end_of first) segments base segment parts.1)

pub mapped_takes_back_unmapped : MappedTakesBackUnmapped
mapped_takes_back_unmapped segments base segment lie is = mapped-unmapped 0 segments base segment lie is
