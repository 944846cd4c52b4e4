-- The totals of segments: what one more segment and one fewer make of them, what a write leaves, and how large they get.
use Rattle.std.proofs.Common.{◌≡◌, ◌<◌, ◌≤◌, ℕ, ◌+◌, ◌^◌, Bool, true, false, not, nat_eq, nat_lt, cond, List, [], ◌∷◌, length, Ok, refl, ap, subst, sym, ◌∙◌, arith}
use Rattle.std.specs.Prelude.{if◌then◌else◌}
use Rattle.std.specs.List.{list_any, sum_by}
use Rattle.std.proofs.lemmas.List.Sums.{sum_by-cons}
use Rattle.std.proofs.lemmas.Bool.Decides.{nat_tests}
use Rattle.byteorder.specs.Endian.{little_bytes}
use Rattle.guest_memory.specs.Segment.{has_bytes, is_block, with_bytes, extent, end_of, meets}
use Rattle.guest_memory.specs.GuestMemory.{lie_from, overlaps, put_bytes, written, kind_number, total_of, block_count, mapped, unmapped, beginning_at}
use Rattle.guest_memory.specs.Totals.{IsInOrder, totals_of, total_in, with_segment, without_segment}
use Rattle.guest_memory.specs.declared.segment.Segment.{Segment}
use Rattle.guest_memory.specs.declared.segment.SegKind.{SegKind}
use Rattle.guest_memory.specs.declared.segment.SegKind.TheVariants.{Image, Pool, Firmware, Stack, Table}
use Rattle.guest_memory.specs.declared.totals.Totals.{Totals}
use Rattle.guest_memory.proofs.OrderLemmas.{head_lies}
use Rattle.guest_memory.proofs.PutLemmas.{IgnoresBytes, length-with_bytes, lie_from-put_bytes}
use Rattle.guest_memory.proofs.SegmentLemmas.{lie_from-mapped_apart, lie_from-unmapped, written-as_bytes}

-- the bytes of a segment that count for a kind
abbrev pub size_in : SegKind → Segment → ℕ
size_in kind segment = if nat_eq (kind_number segment.kind) (kind_number kind) then length segment.bytes else 0

-- one if a segment is a block
abbrev pub block_in : Segment → ℕ
block_in segment = cond (is_block segment.kind) 1 0

-- totals with equal parts are equal
same_totals : (t u : Totals) → t.image ≡ u.image → t.pool ≡ u.pool → t.firmware ≡ u.firmware → t.stack ≡ u.stack → t.table ≡ u.table → t.blocks ≡ u.blocks → t ≡ u
same_totals t u image pool firmware stack table blocks =
    ap (λ (x : ℕ). record t { image = x }) image
    ∙ ap (λ (x : ℕ). record t { image = u.image; pool = x }) pool
    ∙ ap (λ (x : ℕ). record t { image = u.image; pool = u.pool; firmware = x }) firmware
    ∙ ap (λ (x : ℕ). record t { image = u.image; pool = u.pool; firmware = u.firmware; stack = x }) stack
    ∙ ap (λ (x : ℕ). record t { image = u.image; pool = u.pool; firmware = u.firmware; stack = u.stack; table = x }) table
    ∙ ap (λ (x : ℕ). record t { image = u.image; pool = u.pool; firmware = u.firmware; stack = u.stack; table = u.table; blocks = x }) blocks

-- ---- the total of a kind

pub total_in-of : (segments : List Segment) (kind : SegKind) → total_in (totals_of segments) kind ≡ total_of segments kind
total_in-of segments Image = refl
total_in-of segments Pool = refl
total_in-of segments Firmware = refl
total_in-of segments Stack = refl
total_in-of segments Table = refl

-- ---- one more segment

-- of each sum over the segments
sum_by-mapped : (f : Segment → ℕ) (new : Segment) (segments : List Segment) → sum_by f (mapped new segments) ≡ sum_by f segments + f new
sum_by-mapped f new [] = omega (arith, sum_by-cons f new [])
sum_by-mapped f new (first ∷ segments) = by (nat_lt first.base new.base) (sum_by-mapped f new segments)
  where
    by : (below : Bool) → sum_by f (mapped new segments) ≡ sum_by f segments + f new → sum_by f (cond below (first ∷ mapped new segments) (new ∷ first ∷ segments)) ≡ sum_by f (first ∷ segments) + f new
    by true rest = omega (arith, rest, sum_by-cons f first (mapped new segments), sum_by-cons f first segments)
    by false rest = omega (arith, sum_by-cons f new (first ∷ segments))

more : (segments : List Segment) (new : Segment) (kind : SegKind) → total_of (mapped new segments) kind ≡ total_of segments kind + size_in kind new
more segments new kind = sum_by-mapped (size_in kind) new segments

more_blocks : (segments : List Segment) (new : Segment) → block_count (mapped new segments) ≡ block_count segments + block_in new
more_blocks segments new = sum_by-mapped block_in new segments

totals_of-mapped : (segments : List Segment) (base : ℕ) (bytes : List ℕ) (kind : SegKind)
    → totals_of (mapped (record { base = base; bytes = bytes; kind = kind }) segments) ≡ with_segment (totals_of segments) kind (length bytes)
totals_of-mapped segments base bytes Image =
    let new : Segment = record { base = base; bytes = bytes; kind = Image } in
    same_totals (totals_of (mapped new segments)) (with_segment (totals_of segments) Image (length bytes))
    (more segments new Image) (omega (arith, more segments new Pool)) (omega (arith, more segments new Firmware)) (omega (arith, more segments new Stack)) (omega (arith, more segments new Table)) (omega (arith, more_blocks segments new))
totals_of-mapped segments base bytes Pool =
    let new : Segment = record { base = base; bytes = bytes; kind = Pool } in
    same_totals (totals_of (mapped new segments)) (with_segment (totals_of segments) Pool (length bytes))
    (omega (arith, more segments new Image)) (more segments new Pool) (omega (arith, more segments new Firmware)) (omega (arith, more segments new Stack)) (omega (arith, more segments new Table)) (more_blocks segments new)
totals_of-mapped segments base bytes Firmware =
    let new : Segment = record { base = base; bytes = bytes; kind = Firmware } in
    same_totals (totals_of (mapped new segments)) (with_segment (totals_of segments) Firmware (length bytes))
    (omega (arith, more segments new Image)) (omega (arith, more segments new Pool)) (more segments new Firmware) (omega (arith, more segments new Stack)) (omega (arith, more segments new Table)) (more_blocks segments new)
totals_of-mapped segments base bytes Stack =
    let new : Segment = record { base = base; bytes = bytes; kind = Stack } in
    same_totals (totals_of (mapped new segments)) (with_segment (totals_of segments) Stack (length bytes))
    (omega (arith, more segments new Image)) (omega (arith, more segments new Pool)) (omega (arith, more segments new Firmware)) (more segments new Stack) (omega (arith, more segments new Table)) (omega (arith, more_blocks segments new))
totals_of-mapped segments base bytes Table =
    let new : Segment = record { base = base; bytes = bytes; kind = Table } in
    same_totals (totals_of (mapped new segments)) (with_segment (totals_of segments) Table (length bytes))
    (omega (arith, more segments new Image)) (omega (arith, more segments new Pool)) (omega (arith, more segments new Firmware)) (omega (arith, more segments new Stack)) (more segments new Table) (omega (arith, more_blocks segments new))

-- ---- one fewer

sum_by-unmapped : (f : Segment → ℕ) (segments : List Segment) (base : ℕ) (gone : Segment) → beginning_at segments base ≡ Ok gone → sum_by f (unmapped segments base) + f gone ≡ sum_by f segments
sum_by-unmapped f [] base gone there = absurd cc
sum_by-unmapped f (first ∷ segments) base gone there = by (nat_eq first.base base) there (sum_by-unmapped f segments base gone)
  where
    by : (here : Bool) → cond here (Ok first) (beginning_at segments base) ≡ Ok gone → (beginning_at segments base ≡ Ok gone → sum_by f (unmapped segments base) + f gone ≡ sum_by f segments)
        → sum_by f (cond here segments (first ∷ unmapped segments base)) + f gone ≡ sum_by f (first ∷ segments)
    by true there rest = let same : first ≡ gone = cc in omega (arith, sum_by-cons f first segments, ap f same)
    by false there rest = omega (arith, rest there, sum_by-cons f first (unmapped segments base), sum_by-cons f first segments)

fewer : (segments : List Segment) (base : ℕ) (gone : Segment) (kind : SegKind) → beginning_at segments base ≡ Ok gone → total_of (unmapped segments base) kind + size_in kind gone ≡ total_of segments kind
fewer segments base gone kind there = sum_by-unmapped (size_in kind) segments base gone there

fewer_blocks : (segments : List Segment) (base : ℕ) (gone : Segment) → beginning_at segments base ≡ Ok gone → block_count (unmapped segments base) + block_in gone ≡ block_count segments
fewer_blocks segments base gone there = sum_by-unmapped block_in segments base gone there

totals_of-unmapped-by : (segments : List Segment) (base : ℕ) (kind : SegKind) (size : ℕ)
    → total_of (unmapped segments base) Image + (if nat_eq (kind_number kind) 0 then size else 0) ≡ total_of segments Image
    → total_of (unmapped segments base) Pool + (if nat_eq (kind_number kind) 1 then size else 0) ≡ total_of segments Pool
    → total_of (unmapped segments base) Firmware + (if nat_eq (kind_number kind) 2 then size else 0) ≡ total_of segments Firmware
    → total_of (unmapped segments base) Stack + (if nat_eq (kind_number kind) 3 then size else 0) ≡ total_of segments Stack
    → total_of (unmapped segments base) Table + (if nat_eq (kind_number kind) 4 then size else 0) ≡ total_of segments Table
    → block_count (unmapped segments base) + cond (is_block kind) 1 0 ≡ block_count segments
    → totals_of (unmapped segments base) ≡ without_segment (totals_of segments) kind size
totals_of-unmapped-by segments base Image size image pool firmware stack table blocks =
    same_totals (totals_of (unmapped segments base)) (without_segment (totals_of segments) Image size)
    (omega (arith, image)) (omega (arith, pool)) (omega (arith, firmware)) (omega (arith, stack)) (omega (arith, table)) (omega (arith, blocks))
totals_of-unmapped-by segments base Pool size image pool firmware stack table blocks =
    same_totals (totals_of (unmapped segments base)) (without_segment (totals_of segments) Pool size)
    (omega (arith, image)) (omega (arith, pool)) (omega (arith, firmware)) (omega (arith, stack)) (omega (arith, table)) (omega (arith, blocks))
totals_of-unmapped-by segments base Firmware size image pool firmware stack table blocks =
    same_totals (totals_of (unmapped segments base)) (without_segment (totals_of segments) Firmware size)
    (omega (arith, image)) (omega (arith, pool)) (omega (arith, firmware)) (omega (arith, stack)) (omega (arith, table)) (omega (arith, blocks))
totals_of-unmapped-by segments base Stack size image pool firmware stack table blocks =
    same_totals (totals_of (unmapped segments base)) (without_segment (totals_of segments) Stack size)
    (omega (arith, image)) (omega (arith, pool)) (omega (arith, firmware)) (omega (arith, stack)) (omega (arith, table)) (omega (arith, blocks))
totals_of-unmapped-by segments base Table size image pool firmware stack table blocks =
    same_totals (totals_of (unmapped segments base)) (without_segment (totals_of segments) Table size)
    (omega (arith, image)) (omega (arith, pool)) (omega (arith, firmware)) (omega (arith, stack)) (omega (arith, table)) (omega (arith, blocks))

pub totals_of-unmapped : (segments : List Segment) (base : ℕ) (gone : Segment) → beginning_at segments base ≡ Ok gone → totals_of (unmapped segments base) ≡ without_segment (totals_of segments) gone.kind (length gone.bytes)
totals_of-unmapped segments base gone there =
    totals_of-unmapped-by segments base gone.kind (length gone.bytes)
    (fewer segments base gone Image there) (fewer segments base gone Pool there) (fewer segments base gone Firmware there) (fewer segments base gone Stack there) (fewer segments base gone Table there) (fewer_blocks segments base gone there)

-- a segment's bytes are among those of its kind
own_size : (kind : SegKind) (total rest size : ℕ) → rest + (if nat_eq (kind_number kind) (kind_number kind) then size else 0) ≡ total → size ≤ total
own_size kind total rest size h = grind (arith, nat_tests, h)

pub size-le-total : (segments : List Segment) (base : ℕ) (gone : Segment) → beginning_at segments base ≡ Ok gone → length gone.bytes ≤ total_of segments gone.kind
size-le-total segments base gone there =
    own_size gone.kind (total_of segments gone.kind) (total_of (unmapped segments base) gone.kind) (length gone.bytes) (fewer segments base gone gone.kind there)

pub block-counted : (segments : List Segment) (base : ℕ) (gone : Segment) → beginning_at segments base ≡ Ok gone → is_block gone.kind ≡ true → 0 < block_count segments
block-counted segments base gone there is =
    let split : block_count (unmapped segments base) + cond (is_block gone.kind) 1 0 ≡ block_count segments = fewer_blocks segments base gone there in
    let count : Bool → ℕ = λ b. cond b 1 0 in
    let one : count (is_block gone.kind) ≡ count true = ap count is in
    omega (arith, split, one)

-- ---- a write

sum_by-put_bytes-more : (f : Segment → ℕ) (segment : Segment) (segments : List Segment) (at : ℕ) (bytes : List ℕ) (has : Bool) → has_bytes segment at (length bytes) ≡ has → IgnoresBytes f
    → sum_by f (put_bytes segments at bytes) ≡ sum_by f segments
    → sum_by f (cond has (with_bytes segment at bytes ∷ segments) (segment ∷ put_bytes segments at bytes)) ≡ sum_by f (segment ∷ segments)
sum_by-put_bytes-more f segment segments at bytes true has ignores rest =
    sum_by-cons f (with_bytes segment at bytes) segments
    ∙ ap (λ (n : ℕ). n + sum_by f segments) (ignores segment (with_bytes segment at bytes).bytes (length-with_bytes segment at bytes has))
    ∙ sym (sum_by-cons f segment segments)
sum_by-put_bytes-more f segment segments at bytes false has ignores rest =
    sum_by-cons f segment (put_bytes segments at bytes) ∙ ap (λ (n : ℕ). f segment + n) rest ∙ sym (sum_by-cons f segment segments)

sum_by-put_bytes : (f : Segment → ℕ) (segments : List Segment) (at : ℕ) (bytes : List ℕ) → IgnoresBytes f → sum_by f (put_bytes segments at bytes) ≡ sum_by f segments
sum_by-put_bytes f [] at bytes ignores = refl
sum_by-put_bytes f (segment ∷ segments) at bytes ignores =
    sum_by-put_bytes-more f segment segments at bytes (has_bytes segment at (length bytes)) refl ignores (sum_by-put_bytes f segments at bytes ignores)

size_ignores : (kind : SegKind) → IgnoresBytes (size_in kind)
size_ignores kind segment bytes size = ap (λ (n : ℕ). if nat_eq (kind_number segment.kind) (kind_number kind) then n else 0) size

pub totals_of-put_bytes : (segments : List Segment) (at : ℕ) (bytes : List ℕ) → totals_of (put_bytes segments at bytes) ≡ totals_of segments
totals_of-put_bytes segments at bytes =
    let total = λ (kind : SegKind). sum_by-put_bytes (size_in kind) segments at bytes (size_ignores kind) in
    same_totals (totals_of (put_bytes segments at bytes)) (totals_of segments)
    (total Image) (total Pool) (total Firmware) (total Stack) (total Table) (sum_by-put_bytes block_in segments at bytes (λ segment b size. refl))

-- ---- how large they get

sum_by-le-more : (a : ℕ) (f : Segment → ℕ) (segment : Segment) (segments : List Segment) → lie_from a (segment ∷ segments) ≡ true → f segment ≤ extent segment → end_of segment + sum_by f segments ≤ 2 ^ 63 → a + sum_by f (segment ∷ segments) ≤ 2 ^ 63
sum_by-le-more a f segment segments lie small rest =
    let parts = head_lies a segment segments lie in
    let split = sum_by-cons f segment segments in
    omega (arith, parts.0, small, rest, split)

-- segments that lie apart take no more addresses than there are
sum_by-le : (a : ℕ) (f : Segment → ℕ) (segments : List Segment) → ((segment : Segment) → f segment ≤ extent segment) → lie_from a segments ≡ true → a + sum_by f segments ≤ 2 ^ 63
sum_by-le a f [] small lie = grind (arith, nat_tests, lie)
sum_by-le a f (segment ∷ segments) small lie =
    sum_by-le-more a f segment segments lie (small segment) (sum_by-le (end_of segment) f segments small (head_lies a segment segments lie).1)

size_small : (kind : SegKind) (segment : Segment) → size_in kind segment ≤ extent segment
size_small kind segment = grind (arith, nat_tests)

block_small : (segment : Segment) → block_in segment ≤ extent segment
block_small segment = grind (arith, nat_tests)

pub total_bound : (segments : List Segment) (kind : SegKind) → lie_from 0 segments ≡ true → total_of segments kind ≤ 2 ^ 63
total_bound segments kind lie = omega (arith, sum_by-le 0 (size_in kind) segments (size_small kind) lie)

pub block_bound : (segments : List Segment) → lie_from 0 segments ≡ true → block_count segments ≤ 2 ^ 63
block_bound segments lie = omega (arith, sum_by-le 0 block_in segments block_small lie)

-- a segment that ends by 2^63 has no more bytes
pub size_bound : (base : ℕ) (bytes : List ℕ) (kind : SegKind) → not (nat_lt (2 ^ 63) (end_of (record { base = base; bytes = bytes; kind = kind }))) ≡ true → length bytes ≤ 2 ^ 63
size_bound base bytes kind range = grind (arith, nat_tests, range)

-- ---- what holds of a memory

no_overlap : (segments : List Segment) (new : Segment) → not (nat_lt (2 ^ 63) (end_of new)) ≡ true → list_any (λ other. meets new other) segments ≡ false → overlaps segments new ≡ false
no_overlap segments new range apart = grind (arith, range, apart)

-- one more that ends by 2^63 and meets none lies apart
pub lie_from-mapped_one : (segments : List Segment) (new : Segment) → lie_from 0 segments ≡ true → not (nat_lt (2 ^ 63) (end_of new)) ≡ true → list_any (λ other. meets new other) segments ≡ false → lie_from 0 (mapped new segments) ≡ true
lie_from-mapped_one segments new lie range apart = lie_from-mapped_apart new segments lie (no_overlap segments new range apart)

pub in_order-mapped : (segments : List Segment) (totals : Totals) (base : ℕ) (bytes : List ℕ) (kind : SegKind) → IsInOrder segments totals → lie_from 0 (mapped (record { base = base; bytes = bytes; kind = kind }) segments) ≡ true
    → IsInOrder (mapped (record { base = base; bytes = bytes; kind = kind }) segments) (with_segment totals kind (length bytes))
in_order-mapped segments totals base bytes kind is lie = record {
  apart = lie;
  sums = ap (λ t. with_segment t kind (length bytes)) is.sums ∙ sym (totals_of-mapped segments base bytes kind);
}

-- so does one that was taken out, put back so that the segments lie in order afterwards
pub put_back_size : (segments : List Segment) (new : Segment) → lie_from 0 (mapped new segments) ≡ true → length new.bytes ≤ 2 ^ 63
put_back_size segments new lie =
    let all : total_of (mapped new segments) new.kind ≤ 2 ^ 63 = total_bound (mapped new segments) new.kind lie in
    let one : length new.bytes ≤ total_of (mapped new segments) new.kind = own_size new.kind (total_of (mapped new segments) new.kind) (total_of segments new.kind) (length new.bytes) (sym (more segments new new.kind)) in
    omega (arith, all, one)

pub in_order-unmapped : (segments : List Segment) (totals : Totals) (base : ℕ) (gone : Segment) → IsInOrder segments totals → beginning_at segments base ≡ Ok gone
    → IsInOrder (unmapped segments base) (without_segment totals gone.kind (length gone.bytes))
in_order-unmapped segments totals base gone is there = record {
  apart = lie_from-unmapped 0 segments base is.apart;
  sums = ap (λ t. without_segment t gone.kind (length gone.bytes)) is.sums ∙ sym (totals_of-unmapped segments base gone there);
}

pub in_order-put_bytes : (segments : List Segment) (totals : Totals) (at : ℕ) (bytes : List ℕ) → IsInOrder segments totals → IsInOrder (put_bytes segments at bytes) totals
in_order-put_bytes segments totals at bytes is = record {
  apart = lie_from-put_bytes 0 segments at bytes ∙ is.apart;
  sums = is.sums ∙ sym (totals_of-put_bytes segments at bytes);
}

pub in_order-answered : (done : Bool) (segments : List Segment) (totals : Totals) (at n value : ℕ) → IsInOrder segments totals → IsInOrder (if done then written segments at n value else segments) totals
in_order-answered true segments totals at n value is = subst (λ (after : List Segment). IsInOrder after totals) (sym (written-as_bytes segments at n value)) (in_order-put_bytes segments totals at (little_bytes n value) is)
in_order-answered false segments totals at n value is = is
