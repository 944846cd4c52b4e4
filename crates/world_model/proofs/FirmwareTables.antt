-- The tables stay in front of all other segments.
use Rattle.std.proofs.Common.{◌≡◌, ◌<◌, ℕ, Bool, true, false, not, cond, nat_lt, List, [], ◌∷◌, ◌++◌, length, take, drop, refl, sym, ap, ◌∙◌, arith}
use Rattle.std.specs.Prelude.{Ok, Err}
use Rattle.std.specs.List.{list_all}
use Rattle.std.proofs.lemmas.Bool.{and_parts, not-true}
use Rattle.std.proofs.lemmas.Bool.Decides.{nat_tests}
use Rattle.std.proofs.lemmas.List.{take-append-drop}
use Rattle.guest_memory.specs.declared.segment.Segment.{Segment}
use Rattle.guest_memory.specs.Segment.{has_bytes, is_writable, with_number}
use Rattle.guest_memory.specs.declared.guest.MemRefusal.TheVariants.{ReadOnly}
use Rattle.guest_memory.specs.GuestMemory.{is_writable_range, mapped, put_bytes, unmapped, write_answer, written}
use Rattle.guest_memory.proofs.PutLemmas.{put_bytes-behind}
use Rattle.guest_memory.specs.declared.address_map.TheConstants.{FIRMWARE_IMAGE}
use Rattle.world_model.specs.Tables.{tables}
use Rattle.world_model.proofs.Segments.{mapped-behind, unmapped-behind}

-- what is written lies after segments that can't be written
front-written-more : (s : Segment) (rest : List Segment) (at n value : ℕ) (has : Bool) → has_bytes s at n ≡ has → is_writable s.kind ≡ false → write_answer (s ∷ rest) at n ≡ Ok tt
    → (write_answer rest at n ≡ Ok tt) × (cond has (with_number s at n value ∷ rest) (s ∷ written rest at n value) ≡ s ∷ written rest at n value)
front-written-more s rest at n value true is fixed done =
    let refused : write_answer (s ∷ rest) at n ≡ Err ReadOnly = rw (is, fixed) refl in
    absurd cc
front-written-more s rest at n value false is fixed done = (rw is at done, refl)

written-behind : (front rest : List Segment) (at n value : ℕ) → list_all (λ (s : Segment). not (is_writable s.kind)) front ≡ true → write_answer (front ++ rest) at n ≡ Ok tt
    → written (front ++ rest) at n value ≡ front ++ written rest at n value
written-behind [] rest at n value fixed done = refl
written-behind (s ∷ front) rest at n value fixed done =
    let parts = and_parts (not (is_writable s.kind)) (list_all (λ (s : Segment). not (is_writable s.kind)) front) fixed in
    let one = front-written-more s (front ++ rest) at n value (has_bytes s at n) refl (not-true (is_writable s.kind) parts.0) done in
    one.1 ∙ ap (λ others. s ∷ others) (written-behind front rest at n value parts.1 one.0)

-- ---- the tables

split : (memory : List Segment) → take 4 memory ≡ tables → memory ≡ tables ++ drop 4 memory
split memory front = sym (take-append-drop 4 memory) ∙ ap (λ first. first ++ drop 4 memory) front

-- what lies after the tables is mapped after them
pub tables-mapped : (memory : List Segment) (new : Segment) → take 4 memory ≡ tables → FIRMWARE_IMAGE < new.base → take 4 (mapped new memory) ≡ tables
tables-mapped memory new front behind =
    let before : list_all (λ (s : Segment). nat_lt s.base new.base) tables ≡ true = grind (arith, nat_tests) in
    ap (λ m. take 4 (mapped new m)) (split memory front) ∙ ap (take 4) (mapped-behind tables (drop 4 memory) new before)

pub tables-unmapped : (memory : List Segment) (base : ℕ) → take 4 memory ≡ tables → FIRMWARE_IMAGE < base → take 4 (unmapped memory base) ≡ tables
tables-unmapped memory base front behind =
    let before : list_all (λ (s : Segment). nat_lt s.base base) tables ≡ true = grind (arith, nat_tests) in
    ap (λ m. take 4 (unmapped m base)) (split memory front) ∙ ap (take 4) (unmapped-behind tables (drop 4 memory) base before)

pub tables-written : (memory : List Segment) (at n value : ℕ) → take 4 memory ≡ tables → write_answer memory at n ≡ Ok tt → take 4 (written memory at n value) ≡ tables
tables-written memory at n value front done =
    let whole = split memory front in
    ap (λ m. take 4 (written m at n value)) whole ∙ ap (take 4) (written-behind tables (drop 4 memory) at n value refl (ap (λ m. write_answer m at n) (sym whole) ∙ done))

-- so are bytes that are put in a range that code may write
pub tables-put : (memory : List Segment) (at : ℕ) (bytes : List ℕ) → take 4 memory ≡ tables → is_writable_range memory at (length bytes) ≡ true → take 4 (put_bytes memory at bytes) ≡ tables
tables-put memory at bytes front can =
    let whole = split memory front in
    ap (λ m. take 4 (put_bytes m at bytes)) whole ∙ ap (take 4) (put_bytes-behind tables (drop 4 memory) at bytes refl (ap (λ m. is_writable_range m at (length bytes)) (sym whole) ∙ can))
