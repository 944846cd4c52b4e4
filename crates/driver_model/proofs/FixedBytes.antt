-- The bytes of segments that no code may write, as changes of memory leave them.
use Rattle.std.proofs.Common.{◌≡◌, ◌<◌, ◌≤◌, ℕ, Bool, true, false, ◌&&◌, ◌||◌, not, cond, nat_eq, nat_le, List, [], ◌∷◌, refl, arith}
use Rattle.std.specs.List.{list_all}
use Rattle.std.proofs.lemmas.Bool.{and_from, and_parts}
use Rattle.std.proofs.lemmas.Bool.Decides.{nat_tests}
use Rattle.guest_memory.specs.declared.segment.Segment.{Segment}
use Rattle.guest_memory.specs.declared.segment.SegKind.TheVariants.{Firmware}
use Rattle.guest_memory.specs.Segment.{end_of, is_writable}
use Rattle.guest_memory.specs.GuestMemory.{is_of, lie_from, mapped, unmapped}
use Rattle.world_model.specs.World.{Soft}
use Rattle.world_model.specs.Fixed.{fixed_segments}
use Rattle.world_model.proofs.Segments.{list_all-both, list_all-mapped, list_all-mono}
use Rattle.driver_model.specs.Staying.{KeepsBytes, if_fixed, is_later_block}

-- ---- tests of the segments that no code may write

-- the list of these segments passes a test, if each segment that no code may write passes it
fixed_pass : (test : Segment → Bool) (segments : List Segment) → list_all (if_fixed test) segments ≡ true → list_all test (fixed_segments segments) ≡ true
fixed_pass test [] all = refl
fixed_pass test (segment ∷ segments) all =
    let parts = and_parts (if_fixed test segment) (list_all (if_fixed test) segments) all in
    by_kind (is_writable segment.kind) parts.0 (fixed_pass test segments parts.1)
  where
    by_kind : (writable : Bool) → (writable || test segment) ≡ true → list_all test (fixed_segments segments) ≡ true
        → list_all test (cond (not writable) (segment ∷ fixed_segments segments) (fixed_segments segments)) ≡ true
    by_kind true passes others = others
    by_kind false passes others = and_from (test segment) (list_all test (fixed_segments segments)) passes others

-- and the other way round
pass_if_fixed : (test : Segment → Bool) (segments : List Segment) → list_all test (fixed_segments segments) ≡ true → list_all (if_fixed test) segments ≡ true
pass_if_fixed test [] all = refl
pass_if_fixed test (segment ∷ segments) all = by_kind (is_writable segment.kind) all (pass_if_fixed test segments)
  where
    by_kind : (writable : Bool) → list_all test (cond (not writable) (segment ∷ fixed_segments segments) (fixed_segments segments)) ≡ true
        → (list_all test (fixed_segments segments) ≡ true → list_all (if_fixed test) segments ≡ true)
        → ((writable || test segment) && list_all (if_fixed test) segments) ≡ true
    by_kind true all others = others all
    by_kind false all others =
        let parts = and_parts (test segment) (list_all test (fixed_segments segments)) all in
        and_from (test segment) (list_all (if_fixed test) segments) parts.0 (others parts.1)

or_wider : (a b c : Bool) → (b ≡ true → c ≡ true) → (a || b) ≡ true → (a || c) ≡ true
or_wider true b c wider is = refl
or_wider false b c wider is = wider is

or_first : (a b : Bool) → a ≡ true → (a || b) ≡ true
or_first true b is = refl
or_first false b is = absurd cc

-- what passes a test passes a wider one
pass_wider : (narrow wide : Segment → Bool) (segments : List Segment) → ((segment : Segment) → narrow segment ≡ true → wide segment ≡ true)
    → list_all (if_fixed narrow) segments ≡ true → list_all (if_fixed wide) segments ≡ true
pass_wider narrow wide segments wider all =
    list_all-mono (if_fixed narrow) (if_fixed wide) segments (λ segment passes. or_wider (is_writable segment.kind) (narrow segment) (wide segment) (wider segment) passes) all

pub pass_mapped : (test : Segment → Bool) (new : Segment) (segments : List Segment) → if_fixed test new ≡ true → list_all (if_fixed test) segments ≡ true
    → list_all (if_fixed test) (mapped new segments) ≡ true
pass_mapped test new segments one all =
    rw (list_all-mapped (if_fixed test) new segments) (and_from (if_fixed test new) (list_all (if_fixed test) segments) one all)

-- what passes a test passes it as what no code may write, or as a later block
pub pass_later : (old : Soft) (test : Segment → Bool) (segments : List Segment) → list_all (if_fixed test) segments ≡ true
    → list_all (if_fixed (λ (segment : Segment). test segment || is_later_block old segment)) segments ≡ true
pass_later old test segments all =
    pass_wider test (λ (segment : Segment). test segment || is_later_block old segment) segments
    (λ segment is. or_first (test segment) (is_later_block old segment) is) all

-- ---- changes of memory

-- the segments that no code may write are the same
pub bytes_same : (old new : Soft) → fixed_segments new.memory ≡ fixed_segments old.memory → KeepsBytes old new
bytes_same old new same test all =
    let there : list_all test (fixed_segments new.memory) ≡ true = rw same (fixed_pass test old.memory all) in
    pass_wider test (λ (segment : Segment). test segment || is_later_block old segment) new.memory
    (λ segment passes. or_first (test segment) (is_later_block old segment) passes) (pass_if_fixed test new.memory there)

-- the new segments pass each test that the old ones pass
pub bytes_by_tests : (old new : Soft) → ((test : Segment → Bool) → list_all (if_fixed test) old.memory ≡ true → list_all (if_fixed test) new.memory ≡ true) → KeepsBytes old new
bytes_by_tests old new passes test all =
    pass_wider test (λ (segment : Segment). test segment || is_later_block old segment) new.memory
    (λ segment is. or_first (test segment) (is_later_block old segment) is) (passes test all)

-- a block that is later than one block is later than each before it
later_than_before : (one two : Soft) (segment : Segment) → one.next_block ≤ two.next_block → is_later_block two segment ≡ true → is_later_block one segment ≡ true
later_than_before one two segment rises is =
    let parts = and_parts (is_of Firmware segment) (nat_le two.next_block segment.base) is in
    let later : nat_le one.next_block segment.base ≡ true = grind (arith, nat_tests, rises, parts.1) in
    and_from (is_of Firmware segment) (nat_le one.next_block segment.base) parts.0 later

or_again : (a b c : Bool) → (c ≡ true → b ≡ true) → ((a || b) || c) ≡ true → (a || b) ≡ true
or_again true b c again is = refl
or_again false true c again is = refl
or_again false false c again is = again is

-- one change after another
pub bytes_joined : (one two three : Soft) → one.next_block ≤ two.next_block → KeepsBytes one two → KeepsBytes two three → KeepsBytes one three
bytes_joined one two three rises first second test all =
    pass_wider (λ (segment : Segment). (test segment || is_later_block one segment) || is_later_block two segment)
    (λ (segment : Segment). test segment || is_later_block one segment) three.memory
    (λ segment passes. or_again (test segment) (is_later_block one segment) (is_later_block two segment) (later_than_before one two segment rises) passes)
    (second (λ (segment : Segment). test segment || is_later_block one segment) (first test all))

-- ---- an address at which a segment is mapped, and unmapped again

abbrev is_elsewhere : (base : ℕ) → Segment → Bool
is_elsewhere base segment = not (nat_eq segment.base base)

lie_elsewhere : (from base : ℕ) (segments : List Segment) → base < from → lie_from from segments ≡ true → list_all (is_elsewhere base) segments ≡ true
lie_elsewhere from base [] before lie = refl
lie_elsewhere from base (segment ∷ segments) before lie =
    let parts = and_parts (nat_le from segment.base) (lie_from (end_of segment) segments) lie in
    let other : is_elsewhere base segment ≡ true = grind (arith, nat_tests, before, parts.0) in
    let before_end : base < end_of segment = grind (arith, nat_tests, before, parts.0) in
    and_from (is_elsewhere base segment) (list_all (is_elsewhere base) segments) other (lie_elsewhere (end_of segment) base segments before_end parts.1)

-- after the segment there is unmapped, all lie elsewhere
pub unmapped_elsewhere : (from base : ℕ) (segments : List Segment) → lie_from from segments ≡ true → list_all (is_elsewhere base) (unmapped segments base) ≡ true
unmapped_elsewhere from base [] lie = refl
unmapped_elsewhere from base (segment ∷ segments) lie =
    let parts = and_parts (nat_le from segment.base) (lie_from (end_of segment) segments) lie in
    by_head (nat_eq segment.base base) refl parts.1 (unmapped_elsewhere (end_of segment) base segments parts.1)
  where
    by_head : (here : Bool) → nat_eq segment.base base ≡ here → lie_from (end_of segment) segments ≡ true → list_all (is_elsewhere base) (unmapped segments base) ≡ true
        → list_all (is_elsewhere base) (cond here segments (segment ∷ unmapped segments base)) ≡ true
    by_head true is lie others =
        let before_end : base < end_of segment = grind (arith, nat_tests, is) in
        lie_elsewhere (end_of segment) base segments before_end lie
    by_head false is lie others = rw is others

-- a wider test, which a segment at an address passes in any case
pub pass_except_address : (test : Segment → Bool) (base : ℕ) (segments : List Segment) → list_all (if_fixed test) segments ≡ true
    → list_all (if_fixed (λ (segment : Segment). test segment || nat_eq segment.base base)) segments ≡ true
pass_except_address test base segments all =
    pass_wider test (λ (segment : Segment). test segment || nat_eq segment.base base) segments (λ segment passes. or_first (test segment) (nat_eq segment.base base) passes) all

or_without : (writable test here later : Bool) → (writable || ((test || here) || later)) ≡ true → not here ≡ true → (writable || (test || later)) ≡ true
or_without true test here later is other = refl
or_without false true here later is other = refl
or_without false false true later is other = absurd cc
or_without false false false later is other = is

-- if no segment lies there, all pass the narrow test
pub pass_elsewhere : (test later : Segment → Bool) (base : ℕ) (segments : List Segment)
    → list_all (if_fixed (λ (segment : Segment). (test segment || nat_eq segment.base base) || later segment)) segments ≡ true
    → list_all (is_elsewhere base) segments ≡ true → list_all (if_fixed (λ (segment : Segment). test segment || later segment)) segments ≡ true
pass_elsewhere test later base segments all elsewhere =
    list_all-both (if_fixed (λ (segment : Segment). (test segment || nat_eq segment.base base) || later segment)) (is_elsewhere base)
    (if_fixed (λ (segment : Segment). test segment || later segment)) segments
    (λ segment passes other. or_without (is_writable segment.kind) (test segment) (nat_eq segment.base base) (later segment) passes other) all elsewhere
