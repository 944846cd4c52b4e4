-- Segments without the bytes of a large block.
use Rattle.std.proofs.Common.{◌≡◌, ◌≤◌, ◌<◌, ℕ, Bool, true, false, ◌&&◌, ◌||◌, cond, nat_eq, nat_le, nat_lt, List, [], ◌∷◌, length, take, map, zero, suc, refl, sym, ap, ◌∙◌, arith}
use Rattle.std.specs.Prelude.{Ok, Result}
use Rattle.std.specs.List.{list_all, list_any}
use Rattle.std.proofs.lemmas.Bool.{and_from, and_parts, both_ways, or_from, or_parts}
use Rattle.std.proofs.lemmas.Bool.Decides.{nat_tests}
use Rattle.guest_memory.specs.declared.guest.MemRefusal.{MemRefusal}
use Rattle.guest_memory.specs.declared.segment.Segment.{Segment}
use Rattle.guest_memory.specs.declared.segment.SegKind.{SegKind}
use Rattle.guest_memory.specs.declared.segment.SegKind.TheVariants as kind
use Rattle.guest_memory.specs.Segment.{end_of, has_bytes, is_writable, with_bytes}
use Rattle.guest_memory.specs.GuestMemory.{beginning_at, is_of, kind_number, lie_from, mapped, unmapped}
use Rattle.guest_memory.proofs.PutLemmas.{length-with_bytes}
use Rattle.world_model.specs.World.{bases}
use Rattle.world_model.specs.Kept.{is_in_region, is_placed}
use Rattle.world_model.specs.Undo.{put_if_there}
use Rattle.world_model.specs.Images.{block_size}
use Rattle.world_model.specs.BlockBytes.{emptied, emptied_at, is_large_block}
use Rattle.world_model.proofs.Segments.{list_any-none}
use Rattle.world_model.proofs.FixedSegments.{all_from}
use Rattle.world_model.proofs.UndoSegments.{at-cons, at_addresses, none_behind, put_if_there-is, put_if_there-none, put_there, put_there-none}

-- segments without the bytes of the large block at an address
abbrev pub all_emptied : ℕ → List Segment → List Segment
all_emptied at segments = map (emptied_at at) segments

pub is-emptied : (at : ℕ) (s : Segment) → is_large_block at s ≡ true → emptied_at at s ≡ emptied s
is-emptied at s large = rw large refl

pub is-same : (at : ℕ) (s : Segment) → is_large_block at s ≡ false → emptied_at at s ≡ s
is-same at s small = rw small refl

not_large : (at : ℕ) (s : Segment) → nat_eq s.base at ≡ false → is_large_block at s ≡ false
not_large at s other = rw other (none (is_of kind.Pool s))
  where
    none : (b : Bool) → (b && false) ≡ false
    none true = refl
    none false = refl

pub base-emptied : (at : ℕ) (s : Segment) → (emptied_at at s).base ≡ s.base
base-emptied at s = by_large (is_large_block at s)
  where
    by_large : (large : Bool) → (cond large (emptied s) s).base ≡ s.base
    by_large true = refl
    by_large false = refl

pub kind-emptied : (at : ℕ) (s : Segment) → (emptied_at at s).kind ≡ s.kind
kind-emptied at s = by_large (is_large_block at s)
  where
    by_large : (large : Bool) → (cond large (emptied s) s).kind ≡ s.kind
    by_large true = refl
    by_large false = refl

less-emptied : (at : ℕ) (s : Segment) → length (emptied_at at s).bytes ≤ length s.bytes
less-emptied at s = by_large (is_large_block at s)
  where
    by_large : (large : Bool) → length (cond large (emptied s) s).bytes ≤ length s.bytes
    by_large true = omega arith
    by_large false = omega arith

-- ---- tests

-- a test that does not depend on the bytes of a large block
pub any-emptied : (P : Segment → Bool) (at : ℕ) (segments : List Segment) → ((s : Segment) → is_large_block at s ≡ true → P (emptied s) ≡ P s) → list_any P (all_emptied at segments) ≡ list_any P segments
any-emptied P at [] same = refl
any-emptied P at (s ∷ rest) same = by_large (is_large_block at s) refl (any-emptied P at rest same)
  where
    by_large : (large : Bool) → is_large_block at s ≡ large → list_any P (all_emptied at rest) ≡ list_any P rest → (P (emptied_at at s) || list_any P (all_emptied at rest)) ≡ (P s || list_any P rest)
    by_large true is later = ap (λ (x : Segment). P x || list_any P (all_emptied at rest)) (is-emptied at s is) ∙ ap (λ (b : Bool). b || list_any P (all_emptied at rest)) (same s is) ∙ ap (λ (b : Bool). P s || b) later
    by_large false is later = ap (λ (x : Segment). P x || list_any P (all_emptied at rest)) (is-same at s is) ∙ ap (λ (b : Bool). P s || b) later

-- if no segment is the large block, nothing changes
pub none-emptied : (at : ℕ) (segments : List Segment) → list_any (is_large_block at) segments ≡ false → all_emptied at segments ≡ segments
none-emptied at [] none = refl
none-emptied at (s ∷ rest) none =
    let parts = or_parts (is_large_block at s) (list_any (is_large_block at) rest) none in
    ap (λ (x : Segment). x ∷ all_emptied at rest) (is-same at s parts.0) ∙ ap (λ xs. s ∷ xs) (none-emptied at rest parts.1)

take-emptied : (n at : ℕ) (segments : List Segment) → take n (all_emptied at segments) ≡ all_emptied at (take n segments)
take-emptied zero at segments = refl
take-emptied (suc n) at [] = refl
take-emptied (suc n) at (s ∷ rest) = ap (λ xs. emptied_at at s ∷ xs) (take-emptied n at rest)

-- the first segments stay if none of them is the large block
pub front-emptied : (n at : ℕ) (segments front : List Segment) → take n segments ≡ front → list_any (is_large_block at) front ≡ false → take n (all_emptied at segments) ≡ front
front-emptied n at segments front is none = take-emptied n at segments ∙ ap (all_emptied at) is ∙ none-emptied at front none

-- ---- places

pub lie_from-emptied : (low from at : ℕ) (segments : List Segment) → low ≤ from → lie_from from segments ≡ true → lie_from low (all_emptied at segments) ≡ true
lie_from-emptied low from at [] le lies = grind (arith, nat_tests)
lie_from-emptied low from at (s ∷ rest) le lies =
    let parts = and_parts (nat_le from s.base) (lie_from (end_of s) rest) lies in
    let less : end_of (emptied_at at s) ≤ end_of s = omega (arith, base-emptied at s, less-emptied at s) in
    let base : (emptied_at at s).base ≡ s.base = base-emptied at s in
    let from_here : from ≤ s.base = grind (arith, nat_tests, parts.0) in
    let low_here : low ≤ (emptied_at at s).base = omega arith in
    let here : nat_le low (emptied_at at s).base ≡ true = grind (arith, nat_tests, low_here) in
    and_from (nat_le low (emptied_at at s).base) (lie_from (end_of (emptied_at at s)) (all_emptied at rest)) here (lie_from-emptied (end_of (emptied_at at s)) (end_of s) at rest less parts.1)

smaller_pool : (image block : ℕ) (of : SegKind) (base size : ℕ) → nat_eq (kind_number of) (kind_number kind.Pool) ≡ true → is_in_region image block of base size ≡ true → is_in_region image block of base 0 ≡ true
smaller_pool image block kind.Pool base size is right = grind (arith, nat_tests)
smaller_pool image block kind.Firmware base size is right = absurd cc
smaller_pool image block kind.Image base size is right = absurd cc
smaller_pool image block kind.Stack base size is right = absurd cc
smaller_pool image block kind.Table base size is right = absurd cc

pub placed-emptied : (image block at : ℕ) (segments : List Segment) → list_all (is_placed image block) segments ≡ true → list_all (is_placed image block) (all_emptied at segments) ≡ true
placed-emptied image block at [] all = refl
placed-emptied image block at (s ∷ rest) all =
    let parts = and_parts (is_placed image block s) (list_all (is_placed image block) rest) all in
    and_from (is_placed image block (emptied_at at s)) (list_all (is_placed image block) (all_emptied at rest)) (by_large (is_large_block at s) refl parts.0) (placed-emptied image block at rest parts.1)
  where
    by_large : (large : Bool) → is_large_block at s ≡ large → is_placed image block s ≡ true → is_placed image block (emptied_at at s) ≡ true
    by_large true is right =
        let of = and_parts (is_of kind.Pool s) (nat_eq s.base at && nat_lt block_size (length s.bytes)) is in
        ap (is_placed image block) (is-emptied at s is) ∙ smaller_pool image block s.kind s.base (length s.bytes) of.0 right
    by_large false is right = ap (is_placed image block) (is-same at s is) ∙ right

pub bases-emptied : (of : SegKind) (at : ℕ) (segments : List Segment) → bases of (all_emptied at segments) ≡ bases of segments
bases-emptied of at [] = refl
bases-emptied of at (s ∷ rest) = by_kind (is_of of s) refl (bases-emptied of at rest)
  where
    by_kind : (is : Bool) → is_of of s ≡ is → bases of (all_emptied at rest) ≡ bases of rest → bases of (emptied_at at s ∷ all_emptied at rest) ≡ bases of (s ∷ rest)
    by_kind true is later =
        let also : is_of of (emptied_at at s) ≡ true = ap (λ (k : SegKind). nat_eq (kind_number k) (kind_number of)) (kind-emptied at s) ∙ is in
        rw (also, is) (ap (λ (b : ℕ). b ∷ bases of (all_emptied at rest)) (base-emptied at s) ∙ ap (λ (bs : List ℕ). s.base ∷ bs) later)
    by_kind false is later =
        let also : is_of of (emptied_at at s) ≡ false = ap (λ (k : SegKind). nat_eq (kind_number k) (kind_number of)) (kind-emptied at s) ∙ is in
        rw (also, is) later

-- if no block lies at an address or above it, none is the large block there
pub none_large : (image block at : ℕ) (segments : List Segment) → block ≤ at → list_all (is_placed image block) segments ≡ true → list_any (is_large_block at) segments ≡ false
none_large image block at segments le placed = list_any-none (is_placed image block) (is_large_block at) segments (λ s right. by_kind s.kind s.base (length s.bytes) right) placed
  where
    by_kind : (of : SegKind) (base size : ℕ) → is_in_region image block of base size ≡ true → (nat_eq (kind_number of) (kind_number kind.Pool) && (nat_eq base at && nat_lt block_size size)) ≡ false
    by_kind kind.Pool base size right = grind (arith, nat_tests)
    by_kind kind.Firmware base size right = refl
    by_kind kind.Image base size right = refl
    by_kind kind.Stack base size right = refl
    by_kind kind.Table base size right = refl

-- ---- leaving out, unmapping and mapping

pub at-emptied : (p : ℕ → Bool) (at : ℕ) (segments : List Segment) → at_addresses p (all_emptied at segments) ≡ all_emptied at (at_addresses p segments)
at-emptied p at [] = refl
at-emptied p at (s ∷ rest) = by_test (p s.base) refl (at-emptied p at rest)
  where
    by_test : (is : Bool) → p s.base ≡ is → at_addresses p (all_emptied at rest) ≡ all_emptied at (at_addresses p rest)
        → at_addresses p (emptied_at at s ∷ all_emptied at rest) ≡ all_emptied at (at_addresses p (s ∷ rest))
    by_test true is later =
        at-cons p true (emptied_at at s) (all_emptied at rest) (ap p (base-emptied at s) ∙ is) ∙ ap (λ xs. emptied_at at s ∷ xs) later ∙ sym (ap (all_emptied at) (at-cons p true s rest is))
    by_test false is later = at-cons p false (emptied_at at s) (all_emptied at rest) (ap p (base-emptied at s) ∙ is) ∙ later ∙ sym (ap (all_emptied at) (at-cons p false s rest is))

pub unmapped-emptied : (at base : ℕ) (segments : List Segment) → unmapped (all_emptied at segments) base ≡ all_emptied at (unmapped segments base)
unmapped-emptied at base [] = refl
unmapped-emptied at base (s ∷ rest) = by_head (nat_eq s.base base) refl (unmapped-emptied at base rest)
  where
    by_head : (here : Bool) → nat_eq s.base base ≡ here → unmapped (all_emptied at rest) base ≡ all_emptied at (unmapped rest base)
        → unmapped (emptied_at at s ∷ all_emptied at rest) base ≡ all_emptied at (cond here rest (s ∷ unmapped rest base))
    by_head true is later =
        let also : nat_eq (emptied_at at s).base base ≡ true = ap (λ (b : ℕ). nat_eq b base) (base-emptied at s) ∙ is in
        rw also refl
    by_head false is later =
        let also : nat_eq (emptied_at at s).base base ≡ false = ap (λ (b : ℕ). nat_eq b base) (base-emptied at s) ∙ is in
        rw also (ap (λ xs. emptied_at at s ∷ xs) later)

pub mapped-emptied : (at : ℕ) (new : Segment) (segments : List Segment) → emptied_at at new ≡ new → mapped new (all_emptied at segments) ≡ all_emptied at (mapped new segments)
mapped-emptied at new [] same = ap (λ (x : Segment). x ∷ []) (sym same)
mapped-emptied at new (s ∷ rest) same = by_head (nat_lt s.base new.base) refl (mapped-emptied at new rest same)
  where
    by_head : (before : Bool) → nat_lt s.base new.base ≡ before → mapped new (all_emptied at rest) ≡ all_emptied at (mapped new rest)
        → mapped new (emptied_at at s ∷ all_emptied at rest) ≡ all_emptied at (cond before (s ∷ mapped new rest) (new ∷ s ∷ rest))
    by_head true is later =
        let also : nat_lt (emptied_at at s).base new.base ≡ true = ap (λ (b : ℕ). nat_lt b new.base) (base-emptied at s) ∙ is in
        rw also (ap (λ xs. emptied_at at s ∷ xs) later)
    by_head false is later =
        let also : nat_lt (emptied_at at s).base new.base ≡ false = ap (λ (b : ℕ). nat_lt b new.base) (base-emptied at s) ∙ is in
        rw also (ap (λ (x : Segment). x ∷ (emptied_at at s ∷ all_emptied at rest)) (sym same))

-- what lies above a segment at an address is not the large block at that address
none_behind_large : (at : ℕ) (s : Segment) (rest : List Segment) → lie_from (end_of s) rest ≡ true → nat_eq s.base at ≡ true → list_any (is_large_block at) rest ≡ false
none_behind_large at s rest behind is =
    list_any-none (λ (o : Segment). nat_le (end_of s) o.base) (is_large_block at) rest (λ o high. not_large at o (grind (arith, nat_tests)))
    (all_from (end_of s) (end_of s) rest behind (omega arith))

none_beside : (low at : ℕ) (new : Segment) (segments : List Segment) → lie_from low (mapped new segments) ≡ true → nat_eq new.base at ≡ true → list_any (is_large_block at) segments ≡ false
none_beside low at new [] lies is = refl
none_beside low at new (s ∷ rest) lies is = by_head (nat_lt s.base new.base) refl lies (λ order. none_beside (end_of s) at new rest order is)
  where
    by_head : (before : Bool) → nat_lt s.base new.base ≡ before → lie_from low (cond before (s ∷ mapped new rest) (new ∷ s ∷ rest)) ≡ true
        → (lie_from (end_of s) (mapped new rest) ≡ true → list_any (is_large_block at) rest ≡ false) → list_any (is_large_block at) (s ∷ rest) ≡ false
    by_head true less order later =
        let parts = and_parts (nat_le low s.base) (lie_from (end_of s) (mapped new rest)) order in
        or_from (is_large_block at s) (list_any (is_large_block at) rest) (not_large at s (grind (arith, nat_tests))) (later parts.1)
    by_head false less order later = none_behind_large at new (s ∷ rest) (and_parts (nat_le low new.base) (lie_from (end_of new) (s ∷ rest)) order).1 is

-- no segment can be mapped at the address of the large block
pub not_twice : (low at : ℕ) (new : Segment) (segments : List Segment) → lie_from low (mapped new segments) ≡ true → list_any (is_large_block at) segments ≡ true → is_large_block at new ≡ false
not_twice low at new segments lies there = by_new (is_large_block at new) refl
  where
    by_new : (large : Bool) → is_large_block at new ≡ large → is_large_block at new ≡ false
    by_new false is = is
    by_new true is =
        let parts = and_parts (is_of kind.Pool new) (nat_eq new.base at && nat_lt block_size (length new.bytes)) is in
        let own = and_parts (nat_eq new.base at) (nat_lt block_size (length new.bytes)) parts.1 in
        absurd (both_ways (list_any (is_large_block at) segments) (none_beside low at new segments lies own.0) there)

-- ---- bytes that are put back

-- a segment without bytes has no range
no_range : (s : Segment) (at n : ℕ) → 0 < n → has_bytes (emptied s) at n ≡ false
no_range s at n some = grind (arith, nat_tests, some)

-- a large block stays one as bytes are put into it
large-with_bytes : (block at : ℕ) (s : Segment) (bytes : List ℕ) → has_bytes s at (length bytes) ≡ true → is_large_block block (with_bytes s at bytes) ≡ is_large_block block s
large-with_bytes block at s bytes has = ap (λ (size : ℕ). is_of kind.Pool s && (nat_eq s.base block && nat_lt block_size size)) (length-with_bytes s at bytes has)

put-more : (block at : ℕ) (bytes : List ℕ) (s : Segment) (rest : List Segment) (large has own : Bool) → is_large_block block s ≡ large → has_bytes s at (length bytes) ≡ has → is_writable s.kind ≡ own → 0 < length bytes
    → (has_bytes s at (length bytes) ≡ true → put_there at bytes rest ≡ rest) → put_there at bytes (all_emptied block rest) ≡ all_emptied block (put_there at bytes rest)
    → put_there at bytes (cond large (emptied s) s ∷ all_emptied block rest) ≡ all_emptied block (cond has (cond own (with_bytes s at bytes) s ∷ rest) (s ∷ put_there at bytes rest))
put-more block at bytes s rest true true true is range can some past later =
    let none : has_bytes (emptied s) at (length bytes) ≡ false = no_range s at (length bytes) some in
    let still : emptied_at block (with_bytes s at bytes) ≡ emptied s = is-emptied block (with_bytes s at bytes) (large-with_bytes block at s bytes range ∙ is) in
    rw none (ap (λ xs. emptied s ∷ xs) (later ∙ ap (all_emptied block) (past range)) ∙ ap (λ (x : Segment). x ∷ all_emptied block rest) (sym still))
put-more block at bytes s rest true true false is range can some past later =
    let none : has_bytes (emptied s) at (length bytes) ≡ false = no_range s at (length bytes) some in
    rw none (ap (λ xs. emptied s ∷ xs) (later ∙ ap (all_emptied block) (past range)) ∙ ap (λ (x : Segment). x ∷ all_emptied block rest) (sym (is-emptied block s is)))
put-more block at bytes s rest true false own is range can some past later =
    let none : has_bytes (emptied s) at (length bytes) ≡ false = no_range s at (length bytes) some in
    rw none (ap (λ xs. emptied s ∷ xs) later ∙ ap (λ (x : Segment). x ∷ all_emptied block (put_there at bytes rest)) (sym (is-emptied block s is)))
put-more block at bytes s rest false true true is range can some past later =
    let same : emptied_at block (with_bytes s at bytes) ≡ with_bytes s at bytes = is-same block (with_bytes s at bytes) (large-with_bytes block at s bytes range ∙ is) in
    rw (range, can) (ap (λ (x : Segment). x ∷ all_emptied block rest) (sym same))
put-more block at bytes s rest false true false is range can some past later = rw (range, can) (ap (λ (x : Segment). x ∷ all_emptied block rest) (sym (is-same block s is)))
put-more block at bytes s rest false false own is range can some past later =
    rw range (ap (λ xs. s ∷ xs) later ∙ ap (λ (x : Segment). x ∷ all_emptied block (put_there at bytes rest)) (sym (is-same block s is)))

put_there-emptied : (block from at : ℕ) (bytes : List ℕ) (segments : List Segment) → lie_from from segments ≡ true → 0 < length bytes → put_there at bytes (all_emptied block segments) ≡ all_emptied block (put_there at bytes segments)
put_there-emptied block from at bytes [] lies some = refl
put_there-emptied block from at bytes (s ∷ rest) lies some =
    let parts = and_parts (nat_le from s.base) (lie_from (end_of s) rest) lies in
    put-more block at bytes s rest (is_large_block block s) (has_bytes s at (length bytes)) (is_writable s.kind) refl refl refl some
    (λ has. put_there-none at bytes rest (none_behind s rest at (length bytes) some has parts.1)) (put_there-emptied block (end_of s) at bytes rest parts.1 some)

-- bytes are put back before or after a block is emptied
pub put_if_there-emptied : (block at : ℕ) (bytes : List ℕ) (segments : List Segment) → lie_from 0 segments ≡ true → put_if_there at bytes (all_emptied block segments) ≡ all_emptied block (put_if_there at bytes segments)
put_if_there-emptied block at [] segments lies = put_if_there-none at (all_emptied block segments) ∙ sym (ap (all_emptied block) (put_if_there-none at segments))
put_if_there-emptied block at (b ∷ bytes) segments lies =
    let some : 0 < length (b ∷ bytes) = omega arith in
    put_if_there-is at (b ∷ bytes) (all_emptied block segments) some ∙ put_there-emptied block 0 at (b ∷ bytes) segments lies some ∙ sym (ap (all_emptied block) (put_if_there-is at (b ∷ bytes) segments some))

-- ---- the block itself

-- what begins at an address begins there without its bytes
pub beginning-emptied : (at : ℕ) (segments : List Segment) (segment : Segment) → beginning_at segments at ≡ Ok segment → is_large_block at segment ≡ true → beginning_at (all_emptied at segments) at ≡ Ok (emptied segment)
beginning-emptied at [] segment is large = absurd cc
beginning-emptied at (s ∷ rest) segment is large = by_head (nat_eq s.base at) refl is (λ later. beginning-emptied at rest segment later large)
  where
    by_head : (here : Bool) → nat_eq s.base at ≡ here → ◌≡◌ {A = Result Segment MemRefusal} (cond here (Ok s) (beginning_at rest at)) (Ok segment)
        → (beginning_at rest at ≡ Ok segment → beginning_at (all_emptied at rest) at ≡ Ok (emptied segment))
        → beginning_at (emptied_at at s ∷ all_emptied at rest) at ≡ Ok (emptied segment)
    by_head true here found later =
        let same : s ≡ segment = cc in
        let also : nat_eq (emptied_at at s).base at ≡ true = ap (λ (b : ℕ). nat_eq b at) (base-emptied at s) ∙ here in
        rw also (ap Ok (is-emptied at s (ap (is_large_block at) same ∙ large) ∙ ap emptied same))
    by_head false here found later =
        let also : nat_eq (emptied_at at s).base at ≡ false = ap (λ (b : ℕ). nat_eq b at) (base-emptied at s) ∙ here in
        rw also (later found)

-- it is not there once it is unmapped
pub unmapped-large : (from at : ℕ) (segments : List Segment) → lie_from from segments ≡ true → list_any (is_large_block at) (unmapped segments at) ≡ false
unmapped-large from at [] lies = refl
unmapped-large from at (s ∷ rest) lies =
    let parts = and_parts (nat_le from s.base) (lie_from (end_of s) rest) lies in
    by_head (nat_eq s.base at) refl parts.1 (unmapped-large (end_of s) at rest parts.1)
  where
    by_head : (here : Bool) → nat_eq s.base at ≡ here → lie_from (end_of s) rest ≡ true → list_any (is_large_block at) (unmapped rest at) ≡ false
        → list_any (is_large_block at) (cond here rest (s ∷ unmapped rest at)) ≡ false
    by_head true is order later = none_behind_large at s rest order is
    by_head false is order later =
        or_from (is_large_block at s) (list_any (is_large_block at) (unmapped rest at)) (not_large at s is) later
