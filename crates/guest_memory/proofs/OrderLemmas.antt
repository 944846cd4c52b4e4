-- Segments in order of address: where they lie, by their places, and what at most one of them has.
use Rattle.std.proofs.Common.{◌≡◌, ◌<◌, ◌≤◌, ℕ, zero, suc, true, cond, List, [], ◌∷◌, length, get_or, refl, arith}
use Rattle.std.specs.List.{count_by}
use Rattle.std.proofs.lemmas.List.Sums.{sum_by-cons}
use Rattle.std.proofs.lemmas.Bool.Decides.{nat_tests}
use Rattle.guest_memory.specs.Segment.{has_bytes, end_of}
use Rattle.guest_memory.specs.GuestMemory.{lie_from}
use Rattle.guest_memory.specs.Laws.{NoTwoMeet, OneHasAByte}
use Rattle.guest_memory.specs.declared.segment.Segment.{Segment}

-- the first of some segments in order, and the others
pub head_lies : (a : ℕ) (segment : Segment) (segments : List Segment) → lie_from a (segment ∷ segments) ≡ true → (a ≤ segment.base) × (lie_from (end_of segment) segments ≡ true)
head_lies a segment segments lie = grind (arith, nat_tests, lie)

-- each begins at or above the address from which they lie
pub low_at : (a : ℕ) (segments : List Segment) (i : ℕ) (d : Segment) → lie_from a segments ≡ true → i < length segments → a ≤ (get_or segments i d).base
low_at a [] i d lie h = absurd (omega (arith, h))
low_at a (segment ∷ segments) zero d lie h = (head_lies a segment segments lie).0
low_at a (segment ∷ segments) (suc i) d lie h =
    let parts = head_lies a segment segments lie in
    omega (arith, parts.0, low_at (end_of segment) segments i d parts.1 (omega (arith, h)))

-- each ends at or below the base of those after it
pub ends_at : (a : ℕ) (segments : List Segment) (i j : ℕ) (d : Segment) → lie_from a segments ≡ true → i < j → j < length segments
    → end_of (get_or segments i d) ≤ (get_or segments j d).base
ends_at a [] i j d lie before h = absurd (omega (arith, h))
ends_at a (segment ∷ segments) i zero d lie before h = absurd (omega (arith, before))
ends_at a (segment ∷ segments) zero (suc j) d lie before h =
    low_at (end_of segment) segments j d (head_lies a segment segments lie).1 (omega (arith, h))
ends_at a (segment ∷ segments) (suc i) (suc j) d lie before h =
    ends_at (end_of segment) segments i j d (head_lies a segment segments lie).1 (omega (arith, before)) (omega (arith, h))

pub no_two_meet : NoTwoMeet
no_two_meet segments i j d lie before h =
    let after : end_of (get_or segments i d) ≤ (get_or segments j d).base = ends_at 0 segments i j d lie before h in
    grind (arith, nat_tests, after)

-- none has a byte below all of them
none_below : (a : ℕ) (segments : List Segment) (at : ℕ) → lie_from a segments ≡ true → at < a → count_by (λ segment. has_bytes segment at 1) segments ≡ 0
none_below a [] at lie below = refl
none_below a (segment ∷ segments) at lie below =
    let parts = head_lies a segment segments lie in
    let rest : count_by (λ s. has_bytes s at 1) segments ≡ 0 = none_below (end_of segment) segments at parts.1 (omega (arith, parts.0)) in
    let split = sum_by-cons (λ s. cond (has_bytes s at 1) 1 0) segment segments in
    grind (arith, nat_tests, rest, split, parts.0)

one_has : (a : ℕ) (segments : List Segment) (at : ℕ) → lie_from a segments ≡ true → count_by (λ segment. has_bytes segment at 1) segments ≤ 1
one_has a [] at lie = omega arith
one_has a (segment ∷ segments) at lie =
    let parts = head_lies a segment segments lie in
    let rest : count_by (λ s. has_bytes s at 1) segments ≤ 1 = one_has (end_of segment) segments at parts.1 in
    let none : at < end_of segment → count_by (λ s. has_bytes s at 1) segments ≡ 0 = none_below (end_of segment) segments at parts.1 in
    let split = sum_by-cons (λ s. cond (has_bytes s at 1) 1 0) segment segments in
    grind (arith, nat_tests, rest, none, split)

pub one_has_a_byte : OneHasAByte
one_has_a_byte segments at lie = one_has 0 segments at lie
