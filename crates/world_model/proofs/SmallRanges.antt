-- No segment has more than 2^63 bytes, so no range of more can be read or written.
use Rattle.std.proofs.Common.{◌≡◌, ◌≤◌, ◌<◌, ℕ, ◌+◌, ◌^◌, Bool, true, false, ◌&&◌, nat_eq, nat_le, List, [], ◌∷◌, length, None, refl, arith}
use Rattle.std.proofs.lemmas.Bool.{and_parts}
use Rattle.std.proofs.lemmas.Bool.Decides.{nat_tests}
use Rattle.guest_memory.specs.declared.segment.Segment.{Segment}
use Rattle.guest_memory.specs.Segment.{end_of, has_bytes}
use Rattle.guest_memory.specs.GuestMemory.{holder, lie_from}
use Rattle.world_model.specs.Kept.{RangesAreSmall}

-- segments that lie one after another end by 2^63
low : (from : ℕ) (segments : List Segment) → lie_from from segments ≡ true → from ≤ 2 ^ 63
low from [] lie = grind (arith, nat_tests, lie)
low from (s ∷ rest) lie =
    let parts = and_parts (nat_le from s.base) (lie_from (end_of s) rest) lie in
    let later : end_of s ≤ 2 ^ 63 = low (end_of s) rest parts.1 in
    let above : from ≤ s.base = grind (arith, nat_tests, parts.0) in
    omega arith

-- so none has such a range
none_holds : (from at n : ℕ) (segments : List Segment) → lie_from from segments ≡ true → 2 ^ 63 < n → holder segments at n ≡ None
none_holds from at n [] lie large = refl
none_holds from at n (s ∷ rest) lie large =
    let parts = and_parts (nat_le from s.base) (lie_from (end_of s) rest) lie in
    let end : end_of s ≤ 2 ^ 63 = low (end_of s) rest parts.1 in
    let short : s.base + length s.bytes ≤ 2 ^ 63 = omega arith in
    let past : nat_le (at + n) (s.base + length s.bytes) ≡ false = grind (arith, nat_tests) in
    let hasnt : has_bytes s at n ≡ false = rw past (by_first (nat_le s.base at)) in
    rw hasnt (none_holds (end_of s) at n rest parts.1 large)
  where
    by_first : (b : Bool) → (b && false) ≡ false
    by_first true = refl
    by_first false = refl

pub ranges_small : RangesAreSmall
ranges_small soft at n kept large =
    let some : nat_eq n 0 ≡ false = grind (arith, nat_tests) in
    let none = none_holds 0 at n soft.memory kept.memory.apart large in
    (rw (some, none) refl, rw (some, none) refl)
