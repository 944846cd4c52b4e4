-- How mapping, unmapping and writing leave segments apart, and what segments that lie apart have.
use Rattle.std.proofs.Common.{◌≡◌, ◌≤◌, ℕ, ◌^◌, cond, true, false, List, [], ◌∷◌, length, refl, ap, sym, ◌∙◌, arith}
use Rattle.std.specs.List.{list_any}
use Rattle.std.proofs.lemmas.Bool.Decides.{nat_tests}
use Rattle.byteorder.specs.Endian.{little_bytes}
use Rattle.byteorder.specs.Numbers.{length-bytes_low_first}
use Rattle.guest_memory.specs.Segment.{has_bytes, with_number, end_of, meets}
use Rattle.guest_memory.specs.GuestMemory.{written, put_bytes, lie_from, overlaps, mapped, unmapped}
use Rattle.guest_memory.specs.declared.segment.Segment.{Segment}
use Rattle.guest_memory.proofs.PutLemmas.{length-with_bytes, lie_from-put_bytes}
pub use Rattle.guest_memory.proofs.PutLemmas.{length-replaced}

-- ---- a write

-- a number is written as its bytes are put
pub written-as_bytes : (segments : List Segment) (at n value : ℕ) → written segments at n value ≡ put_bytes segments at (little_bytes n value)
written-as_bytes [] at n value = refl
written-as_bytes (segment ∷ segments) at n value =
    let size : length (little_bytes n value) ≡ n = length-bytes_low_first 0 n value in
    ap (λ others. cond (has_bytes segment at n) (with_number segment at n value ∷ segments) (segment ∷ others)) (written-as_bytes segments at n value)
    ∙ ap (λ (m : ℕ). cond (has_bytes segment at m) (with_number segment at n value ∷ segments) (segment ∷ put_bytes segments at (little_bytes n value))) (sym size)

-- a write leaves where the segments lie
pub lie_from-written : (from : ℕ) (segments : List Segment) (at n value : ℕ) → lie_from from (written segments at n value) ≡ lie_from from segments
lie_from-written from segments at n value = ap (lie_from from) (written-as_bytes segments at n value) ∙ lie_from-put_bytes from segments at (little_bytes n value)

-- a write leaves a segment's length
pub length-with_number : (segment : Segment) (at n value : ℕ) → has_bytes segment at n ≡ true → length (with_number segment at n value).bytes ≡ length segment.bytes
length-with_number segment at n value has =
    length-with_bytes segment at (little_bytes n value) (ap (has_bytes segment at) (length-bytes_low_first 0 n value) ∙ has)

-- ---- unmapping

-- segments that lie from an address on lie from each one below it
lie_from-below : (segments : List Segment) (a b : ℕ) → a ≤ b → lie_from b segments ≡ true → lie_from a segments ≡ true
lie_from-below [] a b h lie = grind (arith, nat_tests)
lie_from-below (segment ∷ segments) a b h lie = grind (arith, nat_tests)

lie_from-unmapped-more : (a : ℕ) (segment : Segment) (segments : List Segment) (base : ℕ) → lie_from a (segment ∷ segments) ≡ true
    → (lie_from (end_of segment) segments ≡ true → lie_from (end_of segment) (unmapped segments base) ≡ true)
    → lie_from a (unmapped (segment ∷ segments) base) ≡ true
lie_from-unmapped-more a segment segments base lie rest =
    let below : a ≤ end_of segment → lie_from (end_of segment) segments ≡ true → lie_from a segments ≡ true = λ h l. lie_from-below segments a (end_of segment) h l in
    grind (arith, nat_tests, rest, below)

-- segments still lie apart without one
pub lie_from-unmapped : (a : ℕ) (segments : List Segment) (base : ℕ) → lie_from a segments ≡ true → lie_from a (unmapped segments base) ≡ true
lie_from-unmapped a [] base lie = lie
lie_from-unmapped a (segment ∷ segments) base lie =
    lie_from-unmapped-more a segment segments base lie (lie_from-unmapped (end_of segment) segments base)

-- ---- mapping

lie_from-mapped-more : (a : ℕ) (new segment : Segment) (segments : List Segment) → lie_from a (segment ∷ segments) ≡ true → a ≤ new.base → end_of new ≤ 2 ^ 63 → list_any (λ other. meets new other) (segment ∷ segments) ≡ false
    → (lie_from (end_of segment) segments ≡ true → end_of segment ≤ new.base → list_any (λ other. meets new other) segments ≡ false → lie_from (end_of segment) (mapped new segments) ≡ true)
    → lie_from a (mapped new (segment ∷ segments)) ≡ true
lie_from-mapped-more a new segment segments lie from end apart rest = grind (arith, nat_tests, rest)

-- segments lie apart with one more that meets none
lie_from-mapped : (a : ℕ) (new : Segment) (segments : List Segment) → lie_from a segments ≡ true → a ≤ new.base → end_of new ≤ 2 ^ 63 → list_any (λ other. meets new other) segments ≡ false
    → lie_from a (mapped new segments) ≡ true
lie_from-mapped a new [] lie from end apart = grind (arith, nat_tests)
lie_from-mapped a new (segment ∷ segments) lie from end apart =
    lie_from-mapped-more a new segment segments lie from end apart (λ l f n. lie_from-mapped (end_of segment) new segments l f end n)

pub lie_from-mapped_apart : (new : Segment) (segments : List Segment) → lie_from 0 segments ≡ true → overlaps segments new ≡ false → lie_from 0 (mapped new segments) ≡ true
lie_from-mapped_apart new segments lie room =
    lie_from-mapped 0 new segments lie (omega arith) (grind (arith, nat_tests)) (grind (arith, nat_tests))
