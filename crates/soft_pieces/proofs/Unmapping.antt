-- Segments that were mapped and are unmapped again.
use Rattle.std.proofs.Common.{◌≡◌, ◌∙◌, Bool, true, false, cond, nat_eq, nat_lt, List, [], ◌∷◌, refl, ap, arith}
use Rattle.std.specs.Prelude.{Result, Ok, Err, OnErr}
use Rattle.std.proofs.lemmas.Bool.Decides.{nat_tests}
use Rattle.fw_types.specs.declared.memory.OutOfMemory.{OutOfMemory}
use Rattle.guest_memory.specs.declared.segment.Segment.{Segment}
use Rattle.guest_memory.specs.GuestMemory.{mapped, unmapped}

-- what was mapped is unmapped again
pub unmapped-mapped : (new : Segment) (segments : List Segment) → unmapped (mapped new segments) new.base ≡ segments
unmapped-mapped new [] = let same : nat_eq new.base new.base ≡ true = grind (arith, nat_tests) in rw same refl
unmapped-mapped new (s ∷ rest) = by_order (nat_lt s.base new.base) refl (unmapped-mapped new rest)
  where
    by_order : (before : Bool) → nat_lt s.base new.base ≡ before → unmapped (mapped new rest) new.base ≡ rest → unmapped (cond before (s ∷ mapped new rest) (new ∷ s ∷ rest)) new.base ≡ s ∷ rest
    by_order true is later = let other : nat_eq s.base new.base ≡ false = grind (arith, nat_tests) in rw other (ap (λ others. s ∷ others) later)
    by_order false is later = let same : nat_eq new.base new.base ≡ true = grind (arith, nat_tests) in rw same refl

-- after a second segment was refused, the first is unmapped again
pub unmapped_again : (result : Result Unit OutOfMemory) (after between last before : List Segment) (first : Segment) → OnErr result (after ≡ between) → between ≡ mapped first before → last ≡ unmapped after first.base
    → OnErr result (last ≡ before)
unmapped_again (Ok done) after between last before first err is unmapped_is = tt
unmapped_again (Err error) after between last before first err is unmapped_is =
    unmapped_is ∙ ap (λ (segments : List Segment). unmapped segments first.base) (err ∙ is) ∙ unmapped-mapped first before

-- two segments were mapped, and are unmapped again
pub unmapped_both : (result : Result Unit OutOfMemory) (after between last before : List Segment) (segment block : Segment) → after ≡ mapped segment (mapped block before) → between ≡ unmapped after segment.base → last ≡ unmapped between block.base
    → OnErr result (last ≡ before)
unmapped_both (Ok done) after between last before segment block is first second = tt
unmapped_both (Err error) after between last before segment block is first second =
    second ∙ ap (λ (segments : List Segment). unmapped segments block.base) (first ∙ ap (λ (segments : List Segment). unmapped segments segment.base) is ∙ unmapped-mapped segment (mapped block before)) ∙ unmapped-mapped block before
