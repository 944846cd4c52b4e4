-- How many bytes of a kind there are with one more segment.
use Rattle.std.proofs.Common.{◌≡◌, ℕ, ◌+◌, true, false, cond, nat_eq, nat_lt, List, [], ◌∷◌, length, refl, arith}
use Rattle.std.specs.Prelude.{if◌then◌else◌}
use Rattle.std.proofs.lemmas.List.Sums.{sum_by-cons}
use Rattle.guest_memory.specs.declared.segment.Segment.{Segment}
use Rattle.guest_memory.specs.declared.segment.SegKind.{SegKind}
use Rattle.guest_memory.specs.GuestMemory.{is_of, kind_number, mapped, total_of}

abbrev part : SegKind → Segment → ℕ
part kind segment = if nat_eq (kind_number segment.kind) (kind_number kind) then length segment.bytes else 0

total-cons : (kind : SegKind) (s : Segment) (segments : List Segment) → total_of (s ∷ segments) kind ≡ part kind s + total_of segments kind
total-cons kind s segments = sum_by-cons (part kind) s segments

pub total-mapped : (kind : SegKind) (new : Segment) (segments : List Segment) → total_of (mapped new segments) kind ≡ part kind new + total_of segments kind
total-mapped kind new [] = total-cons kind new []
total-mapped kind new (s ∷ rest) =
    elim (nat_lt s.base new.base) as (λ b. total_of (cond b (s ∷ mapped new rest) (new ∷ s ∷ rest)) kind ≡ part kind new + total_of (s ∷ rest) kind) [
      | true ↦ omega (arith, total-cons kind s (mapped new rest), total-mapped kind new rest, total-cons kind s rest)
      | false ↦ total-cons kind new (s ∷ rest)
    ]

-- a segment of another kind adds nothing
pub total-other : (kind : SegKind) (new : Segment) (segments : List Segment) → is_of kind new ≡ false → total_of (mapped new segments) kind ≡ total_of segments kind
total-other kind new segments other =
    let none : part kind new ≡ 0 = rw other refl in
    omega (arith, total-mapped kind new segments)
