-- No byte of a segment that was unmapped can be read.
use Rattle.std.proofs.Common.{◌≡◌, ◌≤◌, ◌<◌, ℕ, Bool, true, false, ◌||◌, cond, nat_eq, nat_le, List, [], ◌∷◌, refl, sym, ap, ◌∙◌, subst, arith, eqb-true}
use Rattle.std.specs.Prelude.{Ok}
use Rattle.std.specs.List.{list_any}
use Rattle.std.proofs.lemmas.Bool.{and_parts, or_from}
use Rattle.std.proofs.lemmas.Bool.Decides.{nat_tests}
use Rattle.guest_memory.specs.declared.segment.Segment.{Segment}
use Rattle.guest_memory.specs.Segment.{end_of, has_bytes}
use Rattle.guest_memory.specs.GuestMemory.{beginning_at, is_readable, lie_from, unmapped}
use Rattle.guest_memory.proofs.SegmentLemmas.{lie_from-unmapped}
use Rattle.world_model.proofs.Segments.{list_any-unmapped_less}
use Rattle.world_model.proofs.ThunkTargets.{is_some-find}
use Rattle.world_model.specs.declared.image.LoadedImage.{LoadedImage}
use Rattle.driver_model.specs.UnloadLaws.{is_segment_of}

abbrev has_byte : (at : ℕ) → Segment → Bool
has_byte at segment = has_bytes segment at 1

-- segments that lie from an address on have no byte before it
none_before_all : (from at : ℕ) (segments : List Segment) → lie_from from segments ≡ true → at < from → list_any (has_byte at) segments ≡ false
none_before_all from at [] lies before = refl
none_before_all from at (s ∷ rest) lies before =
    let order = and_parts (nat_le from s.base) (lie_from (end_of s) rest) lies in
    let first : from ≤ s.base = grind (arith, nat_tests, order.0) in
    let none : has_byte at s ≡ false = grind (arith, nat_tests, first) in
    or_from (has_byte at s) (list_any (has_byte at) rest) none (none_before_all (end_of s) at rest order.1 (omega arith))

begins_from : (base from : ℕ) (segments : List Segment) (one : Segment) → lie_from from segments ≡ true → beginning_at segments base ≡ Ok one → from ≤ one.base
begins_from base from [] one lies found = absurd cc
begins_from base from (s ∷ rest) one lies found =
    let order = and_parts (nat_le from s.base) (lie_from (end_of s) rest) lies in
    let first : from ≤ s.base = grind (arith, nat_tests, order.0) in
    by_head (nat_eq s.base base) first found (λ later. begins_from base (end_of s) rest one order.1 later)
  where
    by_head : (here : Bool) → from ≤ s.base → cond here (Ok s) (beginning_at rest base) ≡ Ok one → (beginning_at rest base ≡ Ok one → end_of s ≤ one.base) → from ≤ one.base
    by_head true first found later = let same : s ≡ one = cc in subst (λ (x : Segment). from ≤ x.base) same first
    by_head false first found later = let after = later found in omega arith

none_of_unmapped : (base at from : ℕ) (segments : List Segment) (one : Segment) → lie_from from segments ≡ true → beginning_at segments base ≡ Ok one → has_byte at one ≡ true
    → list_any (has_byte at) (unmapped segments base) ≡ false
none_of_unmapped base at from [] one lies found has = absurd cc
none_of_unmapped base at from (s ∷ rest) one lies found has =
    let order = and_parts (nat_le from s.base) (lie_from (end_of s) rest) lies in
    by_head (nat_eq s.base base) order.1 found (λ later. none_of_unmapped base at (end_of s) rest one order.1 later has)
  where
    by_head : (here : Bool) → lie_from (end_of s) rest ≡ true → cond here (Ok s) (beginning_at rest base) ≡ Ok one
        → (beginning_at rest base ≡ Ok one → list_any (has_byte at) (unmapped rest base) ≡ false)
        → list_any (has_byte at) (cond here rest (s ∷ unmapped rest base)) ≡ false
    by_head true lie found later =
        let same : s ≡ one = cc in
        let here : has_byte at s ≡ true = subst (λ (x : Segment). has_byte at x ≡ true) (sym same) has in
        let before : at < end_of s = grind (arith, nat_tests, here) in
        none_before_all (end_of s) at rest lie before
    by_head false lie found later =
        let after : end_of s ≤ one.base = begins_from base (end_of s) rest one lie found in
        let none : has_byte at s ≡ false = grind (arith, nat_tests, has, after) in
        or_from (has_byte at s) (list_any (has_byte at) (unmapped rest base)) none (later found)

-- a segment that begins elsewhere is found as before
found_elsewhere : (base other : ℕ) (segments : List Segment) → nat_eq other base ≡ false → beginning_at (unmapped segments base) other ≡ beginning_at segments other
found_elsewhere base other [] apart = refl
found_elsewhere base other (s ∷ rest) apart = by_head (nat_eq s.base base) refl (found_elsewhere base other rest apart)
  where
    by_head : (here : Bool) → nat_eq s.base base ≡ here → beginning_at (unmapped rest base) other ≡ beginning_at rest other
        → beginning_at (cond here rest (s ∷ unmapped rest base)) other ≡ beginning_at (s ∷ rest) other
    by_head true is later = let away : nat_eq s.base other ≡ false = grind (arith, nat_tests, is, apart) in rw away refl
    by_head false is later = ap (cond (nat_eq s.base other) (Ok s)) later

-- no byte of an image's segments can be read after its sweep
pub unreadable : (image : LoadedImage) (memory : List Segment) (segment : Segment) (at : ℕ) → lie_from 0 memory ≡ true
    → beginning_at memory segment.base ≡ Ok segment → is_segment_of image segment ≡ true → has_bytes segment at 1 ≡ true
    → is_readable (unmapped (unmapped memory image.base) image.block) at 1 ≡ false
unreadable image memory segment at lies found of has =
    is_some-find (has_byte at) (unmapped (unmapped memory image.base) image.block) ∙ by_base (nat_eq segment.base image.base) refl of
  where
    without : List Segment
    without = unmapped memory image.base

    less : (there : Bool) → list_any (has_byte at) (unmapped without image.block) ≡ there → list_any (has_byte at) without ≡ false → there ≡ false
    less true is none = sym (list_any-unmapped_less (has_byte at) image.block without is) ∙ none
    less false is none = refl

    by_base : (bytes : Bool) → nat_eq segment.base image.base ≡ bytes → (bytes || nat_eq segment.base image.block) ≡ true → list_any (has_byte at) (unmapped without image.block) ≡ false
    by_base true is of =
        let base : segment.base ≡ image.base = eqb-true segment.base image.base is in
        let there : beginning_at memory image.base ≡ Ok segment = rw (← base) found in
        less (list_any (has_byte at) (unmapped without image.block)) refl (none_of_unmapped image.base at 0 memory segment lies there has)
    by_base false is of =
        let base : segment.base ≡ image.block = eqb-true segment.base image.block of in
        let there : beginning_at without image.block ≡ Ok segment = rw (← base) (found_elsewhere image.base segment.base memory is ∙ found) in
        none_of_unmapped image.block at 0 without segment (lie_from-unmapped 0 memory image.base lies) there has
