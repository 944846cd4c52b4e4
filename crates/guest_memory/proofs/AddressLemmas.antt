-- Segments in order, by the addresses at which they begin: which one has a range, which one another meets, and what a write leaves.
use Rattle.std.proofs.Common.{◌≡◌, ◌<◌, ◌≤◌, ℕ, ◌+◌, Bool, true, false, nat_lt, nat_le, nat_eq, ◌&&◌, ◌||◌, cond, List, [], ◌∷◌, length, Option, Some, None, Result, Ok, Err, is_ok, refl, ap, sym, ◌∙◌, arith}
use Rattle.std.specs.List.{list_any}
use Rattle.std.specs.Result.{result_ok}
use Rattle.std.proofs.Math.Bool.{and-false}
use Rattle.std.proofs.lemmas.Bool.{both_ways, false_from_ne_true}
use Rattle.std.proofs.lemmas.Bool.Decides.{nat_tests}
use Rattle.guest_memory.specs.Segment.{has_bytes, is_image, with_bytes, end_of, meets}
use Rattle.guest_memory.specs.GuestMemory.{holder, image_with, lie_from, mapped, beginning_at, begins, is_of, put_bytes, unmapped}
use Rattle.guest_memory.specs.Segments.{IsLastUpTo, NoneUpTo}
use Rattle.guest_memory.specs.declared.segment.Segment.{Segment}
use Rattle.guest_memory.specs.declared.segment.SegKind.{SegKind}
use Rattle.guest_memory.specs.declared.guest.MemRefusal.{MemRefusal}
use Rattle.guest_memory.specs.declared.guest.MemRefusal.TheVariants.{NoSegment}
use Rattle.guest_memory.proofs.OrderLemmas.{head_lies}

-- ---- where segments begin

pub same_base : (a b : ℕ) → a ≡ b → nat_eq a b ≡ true
same_base a b same = grind (arith, nat_tests, same)

is_same : (a b : ℕ) → nat_eq a b ≡ true → a ≡ b
is_same a b same = grind (arith, nat_tests, same)

-- whether one begins at an address: the first of some, or one of the others
pub first_or_later : (first : Segment) (segments : List Segment) (base : ℕ) → is_ok (beginning_at segments base) ≡ true → is_ok (beginning_at (first ∷ segments) base) ≡ true
first_or_later first segments base later = by (nat_eq first.base base)
  where
    by : (here : Bool) → is_ok (cond here (Ok first) (beginning_at segments base)) ≡ true
    by true = refl
    by false = later

pub first_begins : (first : Segment) (segments : List Segment) → is_ok (beginning_at (first ∷ segments) first.base) ≡ true
first_begins first segments = rw (same_base first.base first.base refl) refl

-- one that begins at an address lies at or above the address from which the segments lie
pub begins_from : (a : ℕ) (segments : List Segment) (base : ℕ) → lie_from a segments ≡ true → is_ok (beginning_at segments base) ≡ true → a ≤ base
begins_from a [] base lie there = absurd cc
begins_from a (first ∷ segments) base lie there =
    let parts = head_lies a first segments lie in
    by (nat_eq first.base base) refl there (begins_from (end_of first) segments base parts.1)
  where
    by : (here : Bool) → nat_eq first.base base ≡ here → is_ok (cond here (Ok first) (beginning_at segments base)) ≡ true → (is_ok (beginning_at segments base) ≡ true → end_of first ≤ base) → a ≤ base
    by true is there rest = let parts = head_lies a first segments lie in omega (arith, parts.0, is_same first.base base is)
    by false is there rest = let parts = head_lies a first segments lie in omega (arith, parts.0, rest there)

-- ---- which one has a range

pub lacks_after : (segment : Segment) (at n : ℕ) → 0 < n → end_of segment ≤ at → has_bytes segment at n ≡ false
lacks_after segment at n some ends = grind (arith, nat_tests, some, ends)

lacks_before : (segment : Segment) (at n : ℕ) → at < segment.base → has_bytes segment at n ≡ false
lacks_before segment at n begins = grind (arith, nat_tests, begins)

pub has_base : (segment : Segment) (at n : ℕ) → has_bytes segment at n ≡ true → segment.base ≤ at
has_base segment at n has = grind (arith, nat_tests, has)

-- none has it if each begins above its first address
holder_above : (segments : List Segment) (at n : ℕ) → ((base : ℕ) → is_ok (beginning_at segments base) ≡ true → at < base) → holder segments at n ≡ None
holder_above [] at n above = refl
holder_above (first ∷ segments) at n above =
    let lacks : has_bytes first at n ≡ false = lacks_before first at n (above first.base (first_begins first segments)) in
    rw lacks (holder_above segments at n (λ base there. above base (first_or_later first segments base there)))

pub holder_none_up_to : (segments : List Segment) (at n : ℕ) → NoneUpTo at segments → holder segments at n ≡ None
holder_none_up_to segments at n none =
    holder_above segments at n (λ base there. above base there (nat_le base at) refl)
  where
    above : (base : ℕ) → is_ok (beginning_at segments base) ≡ true → (low : Bool) → nat_le base at ≡ low → at < base
    above base there true low = absurd (both_ways (is_ok (beginning_at segments base)) (none base (grind (arith, nat_tests, low))) there)
    above base there false low = grind (arith, nat_tests, low)

-- the segment that begins at an address is the first, or one of the others, which begin after its end
module _ (a : ℕ) (first : Segment) (segments : List Segment) (segment : Segment) (lie : lie_from a (first ∷ segments) ≡ true) where
  same_first : nat_eq first.base segment.base ≡ true → beginning_at (first ∷ segments) segment.base ≡ Ok segment → first ≡ segment
  same_first is there = let found : Ok first ≡ beginning_at (first ∷ segments) segment.base = rw is refl in cc

  among_later : nat_eq first.base segment.base ≡ false → beginning_at (first ∷ segments) segment.base ≡ Ok segment → beginning_at segments segment.base ≡ Ok segment
  among_later is there = let found : beginning_at segments segment.base ≡ beginning_at (first ∷ segments) segment.base = rw is refl in found ∙ there

  after_first : nat_eq first.base segment.base ≡ false → beginning_at (first ∷ segments) segment.base ≡ Ok segment → end_of first ≤ segment.base
  after_first is there = begins_from (end_of first) segments segment.base (head_lies a first segments lie).1 (ap is_ok (among_later is there))

-- the segment that has the range is the one of all that does
pub holder_is : (a : ℕ) (segments : List Segment) (segment : Segment) (at n : ℕ) → lie_from a segments ≡ true → beginning_at segments segment.base ≡ Ok segment → 0 < n → has_bytes segment at n ≡ true → holder segments at n ≡ Some segment
holder_is a [] segment at n lie there some has = absurd cc
holder_is a (first ∷ segments) segment at n lie there some has =
    by (nat_eq first.base segment.base) refl (λ later. holder_is (end_of first) segments segment at n (head_lies a first segments lie).1 later some has)
  where
    by : (here : Bool) → nat_eq first.base segment.base ≡ here → (beginning_at segments segment.base ≡ Ok segment → holder segments at n ≡ Some segment) → holder (first ∷ segments) at n ≡ Some segment
    by true is rest =
        let same : first ≡ segment = same_first a first segments segment lie is there in
        let here : has_bytes first at n ≡ true = ap (λ (s : Segment). has_bytes s at n) same ∙ has in
        rw here (ap Some same)
    by false is rest =
        let ends : end_of first ≤ at = omega (arith, after_first a first segments segment lie is there, has_base segment at n has) in
        let lacks : has_bytes first at n ≡ false = lacks_after first at n some ends in
        rw lacks (rest (among_later a first segments segment lie is there))

-- none has it if the last that begins at its first address or below does not
lacks_all : (a : ℕ) (segments : List Segment) (segment : Segment) (at n : ℕ) → lie_from a segments ≡ true → beginning_at segments segment.base ≡ Ok segment → segment.base ≤ at → 0 < n → has_bytes segment at n ≡ false
    → ((base : ℕ) → base ≤ at → is_ok (beginning_at segments base) ≡ true → base ≤ segment.base) → holder segments at n ≡ None
lacks_all a [] segment at n lie there low some lacks greatest = refl
lacks_all a (first ∷ segments) segment at n lie there low some lacks greatest =
    by (nat_eq first.base segment.base) refl (λ later. lacks_all (end_of first) segments segment at n (head_lies a first segments lie).1 later low some lacks (λ base le begins. greatest base le (first_or_later first segments base begins)))
  where
    by : (here : Bool) → nat_eq first.base segment.base ≡ here → (beginning_at segments segment.base ≡ Ok segment → holder segments at n ≡ None) → holder (first ∷ segments) at n ≡ None
    by true is rest =
        let same : first ≡ segment = same_first a first segments segment lie is there in
        let here : has_bytes first at n ≡ false = ap (λ (s : Segment). has_bytes s at n) same ∙ lacks in
        let ends : segment.base < end_of first = omega (arith, ap (λ (s : Segment). s.base) same) in
        rw here (holder_none_up_to segments at n (λ base le.
        false_from_ne_true (is_ok (beginning_at segments base)) (λ begins.
        absurd (omega (arith, ends, begins_from (end_of first) segments base (head_lies a first segments lie).1 begins, greatest base le (first_or_later first segments base begins))))))
    by false is rest =
        let ends : end_of first ≤ at = omega (arith, after_first a first segments segment lie is there) in
        let without : has_bytes first at n ≡ false = lacks_after first at n some ends in
        rw without (rest (among_later a first segments segment lie is there))

pub holder_without : (segments : List Segment) (segment : Segment) (at n : ℕ) → lie_from 0 segments ≡ true → IsLastUpTo at segments segment → 0 < n → has_bytes segment at n ≡ false → holder segments at n ≡ None
holder_without segments segment at n lie last some lacks = lacks_all 0 segments segment at n lie last.here last.low some lacks last.greatest

-- ---- the segments that another meets

clear_after : (new segment : Segment) → end_of new ≤ segment.base → meets new segment ≡ false
clear_after new segment ends = grind (arith, nat_tests, ends)

none_meets : (segments : List Segment) (new : Segment) → ((base : ℕ) → is_ok (beginning_at segments base) ≡ true → end_of new ≤ base) → list_any (λ other. meets new other) segments ≡ false
none_meets [] new above = refl
none_meets (first ∷ segments) new above =
    let clear : meets new first ≡ false = clear_after new first (above first.base (first_begins first segments)) in
    rw clear (none_meets segments new (λ base there. above base (first_or_later first segments base there)))

-- it meets none if none begins before its end
pub meets_none_up_to : (segments : List Segment) (new : Segment) (at : ℕ) → at + 1 ≡ end_of new → NoneUpTo at segments → list_any (λ other. meets new other) segments ≡ false
meets_none_up_to segments new at end none =
    none_meets segments new (λ base there. above base there (nat_le base at) refl)
  where
    above : (base : ℕ) → is_ok (beginning_at segments base) ≡ true → (low : Bool) → nat_le base at ≡ low → end_of new ≤ base
    above base there true low = absurd (both_ways (is_ok (beginning_at segments base)) (none base (grind (arith, nat_tests, low))) there)
    above base there false low = let up : at < base = grind (arith, nat_tests, low) in omega (arith, up, end)

-- one before the last of them meets it only if the last does
meets_by_last : (new first last : Segment) → end_of first ≤ last.base → last.base < end_of new → (rest : Bool) → rest ≡ meets new last → (meets new first || rest) ≡ meets new last
meets_by_last new first last ends low rest is = grind (arith, nat_tests, ends, low, is)

or-false : (b : Bool) → (b || false) ≡ b
or-false true = refl
or-false false = refl

meets_all : (a : ℕ) (segments : List Segment) (new last : Segment) (at : ℕ) → lie_from a segments ≡ true → at + 1 ≡ end_of new → beginning_at segments last.base ≡ Ok last → last.base ≤ at
    → ((base : ℕ) → base ≤ at → is_ok (beginning_at segments base) ≡ true → base ≤ last.base) → list_any (λ other. meets new other) segments ≡ meets new last
meets_all a [] new last at lie end there low greatest = absurd cc
meets_all a (first ∷ segments) new last at lie end there low greatest =
    by (nat_eq first.base last.base) refl (λ later. meets_all (end_of first) segments new last at (head_lies a first segments lie).1 end later low (λ base le begins. greatest base le (first_or_later first segments base begins)))
  where
    by : (here : Bool) → nat_eq first.base last.base ≡ here → (beginning_at segments last.base ≡ Ok last → list_any (λ other. meets new other) segments ≡ meets new last)
        → list_any (λ other. meets new other) (first ∷ segments) ≡ meets new last
    by true is rest =
        let same : first ≡ last = same_first a first segments last lie is there in
        let ends : last.base < end_of first = omega (arith, ap (λ (s : Segment). s.base) same) in
        let others : list_any (λ other. meets new other) segments ≡ false = meets_none_up_to segments new at end (λ base le.
        false_from_ne_true (is_ok (beginning_at segments base)) (λ begins.
        absurd (omega (arith, ends, begins_from (end_of first) segments base (head_lies a first segments lie).1 begins, greatest base le (first_or_later first segments base begins))))) in
        ap (λ b. meets new first || b) others ∙ or-false (meets new first) ∙ ap (meets new) same
    by false is rest =
        meets_by_last new first last (after_first a first segments last lie is there) (omega (arith, low, end)) (list_any (λ other. meets new other) segments) (rest (among_later a first segments last lie is there))

-- whether it meets the last that begins before its end
pub meets_where : (segments : List Segment) (new last : Segment) (at : ℕ) → lie_from 0 segments ≡ true → at + 1 ≡ end_of new → IsLastUpTo at segments last → list_any (λ other. meets new other) segments ≡ meets new last
meets_where segments new last at lie end is = meets_all 0 segments new last at lie end is.here is.low is.greatest

-- ---- the segment that begins at an address

-- none begins at an address at which one is mapped
pub none_where_mapped : (a : ℕ) (segments : List Segment) (new : Segment) → lie_from a (mapped new segments) ≡ true → is_ok (beginning_at segments new.base) ≡ false
none_where_mapped a [] new lie = refl
none_where_mapped a (first ∷ segments) new lie = by (nat_lt first.base new.base) refl lie (none_where_mapped (end_of first) segments new)
  where
    by : (below : Bool) → nat_lt first.base new.base ≡ below → lie_from a (cond below (first ∷ mapped new segments) (new ∷ first ∷ segments)) ≡ true → (lie_from (end_of first) (mapped new segments) ≡ true → is_ok (beginning_at segments new.base) ≡ false)
        → is_ok (beginning_at (first ∷ segments) new.base) ≡ false
    by true is lie rest =
        let other : nat_eq first.base new.base ≡ false = grind (arith, nat_tests, is) in
        rw other (rest (head_lies a first (mapped new segments) lie).1)
    by false is lie rest =
        false_from_ne_true (is_ok (beginning_at (first ∷ segments) new.base)) (λ there.
        let parts = head_lies a new (first ∷ segments) lie in
        absurd (omega (arith, begins_from (end_of new) (first ∷ segments) new.base parts.1 there)))

-- what is answered for it
pub beginning_is : (segments : List Segment) (base : ℕ) (segment : Segment) → Some segment ≡ result_ok (beginning_at segments base) → beginning_at segments base ≡ Ok segment
beginning_is segments base segment is = by (beginning_at segments base) is
  where
    by : (found : Result Segment MemRefusal) → Some segment ≡ result_ok found → found ≡ Ok segment
    by (Ok other) is = let same : segment ≡ other = cc in ap Ok (sym same)
    by (Err refusal) is = absurd cc

pub beginning_not : (segments : List Segment) (base : ℕ) → None ≡ result_ok (beginning_at segments base) → beginning_at segments base ≡ Err NoSegment
beginning_not [] base is = refl
beginning_not (first ∷ segments) base is = by (nat_eq first.base base) is (beginning_not segments base)
  where
    by : (here : Bool) → None ≡ result_ok (cond here (Ok first) (beginning_at segments base)) → (None ≡ result_ok (beginning_at segments base) → beginning_at segments base ≡ Err NoSegment) → cond here (Ok first) (beginning_at segments base) ≡ Err NoSegment
    by true is rest = absurd cc
    by false is rest = rest is

-- if none begins there, none is unmapped
pub unmapped_nowhere : (segments : List Segment) (base : ℕ) → beginning_at segments base ≡ Err NoSegment → unmapped segments base ≡ segments
unmapped_nowhere [] base none = refl
unmapped_nowhere (first ∷ segments) base none = by (nat_eq first.base base) none (unmapped_nowhere segments base)
  where
    by : (here : Bool) → cond here (Ok first) (beginning_at segments base) ≡ Err NoSegment → (beginning_at segments base ≡ Err NoSegment → unmapped segments base ≡ segments) → cond here segments (first ∷ unmapped segments base) ≡ first ∷ segments
    by true none rest = absurd cc
    by false none rest = ap (λ others. first ∷ others) (rest none)

-- whether it is of a kind, if there is one
abbrev pub is_of_some : SegKind → Option Segment → Bool
is_of_some kind None = false
is_of_some kind (Some segment) = is_of kind segment

pub begins_is : (a : ℕ) (kind : SegKind) (segments : List Segment) (base : ℕ) → lie_from a segments ≡ true → begins kind base segments ≡ is_of_some kind (result_ok (beginning_at segments base))
begins_is a kind [] base lie = refl
begins_is a kind (first ∷ segments) base lie = by (nat_eq first.base base) refl (begins_is (end_of first) kind segments base (head_lies a first segments lie).1)
  where
    by : (here : Bool) → nat_eq first.base base ≡ here → begins kind base segments ≡ is_of_some kind (result_ok (beginning_at segments base))
        → ((here && is_of kind first) || begins kind base segments) ≡ is_of_some kind (result_ok (cond here (Ok first) (beginning_at segments base)))
    by true is rest =
        let none : is_ok (beginning_at segments base) ≡ false = false_from_ne_true (is_ok (beginning_at segments base)) (λ there.
        absurd (omega (arith, is_same first.base base is, begins_from (end_of first) segments base (head_lies a first segments lie).1 there))) in
        ap (λ b. is_of kind first || b) (rest ∙ no_one (beginning_at segments base) none) ∙ or-false (is_of kind first)
      where
        no_one : (found : Result Segment MemRefusal) → is_ok found ≡ false → is_of_some kind (result_ok found) ≡ false
        no_one (Ok segment) none = absurd cc
        no_one (Err refusal) none = refl
    by false is rest = rest

-- ---- the image that has an address

-- a segment, if it is an image
abbrev pub if_image : Option Segment → Option Segment
if_image None = None
if_image (Some segment) = cond (is_image segment.kind) (Some segment) None

no_image : (segments : List Segment) (at : ℕ) → holder segments at 1 ≡ None → image_with segments at ≡ None
no_image [] at none = refl
no_image (first ∷ segments) at none = by (has_bytes first at 1) refl none (no_image segments at)
  where
    by : (has : Bool) → has_bytes first at 1 ≡ has → cond has (Some first) (holder segments at 1) ≡ None → (holder segments at 1 ≡ None → image_with segments at ≡ None) → image_with (first ∷ segments) at ≡ None
    by true is none rest = absurd cc
    by false is none rest = rw (is, and-false (is_image first.kind)) (rest none)

image_with-holder : (a : ℕ) (segments : List Segment) (at : ℕ) → lie_from a segments ≡ true → image_with segments at ≡ if_image (holder segments at 1)
image_with-holder a [] at lie = refl
image_with-holder a (first ∷ segments) at lie =
    by (is_image first.kind) (has_bytes first at 1) refl refl (image_with-holder (end_of first) segments at (head_lies a first segments lie).1)
  where
    none : has_bytes first at 1 ≡ true → image_with segments at ≡ None
    none has =
        no_image segments at (holder_above segments at 1 (λ base there.
        let after : end_of first ≤ base = begins_from (end_of first) segments base (head_lies a first segments lie).1 there in
        let before : at < end_of first = grind (arith, nat_tests, has) in
        omega (arith, after, before)))

    by : (image has : Bool) → is_image first.kind ≡ image → has_bytes first at 1 ≡ has → image_with segments at ≡ if_image (holder segments at 1)
        → cond (image && has) (Some first) (image_with segments at) ≡ if_image (cond has (Some first) (holder segments at 1))
    by true true image has rest = rw image refl
    by true false image has rest = rest
    by false true image has rest = rw image (none has)
    by false false image has rest = rest

pub image_is : (segments : List Segment) (at : ℕ) (found : Option Segment) → lie_from 0 segments ≡ true → found ≡ holder segments at 1 → image_with segments at ≡ if_image found
image_is segments at found lie is = image_with-holder 0 segments at lie ∙ ap if_image (sym is)

-- ---- bytes that are put

-- they are put nowhere if no segment has their range
pub put_bytes_nowhere : (segments : List Segment) (at : ℕ) (bytes : List ℕ) → holder segments at (length bytes) ≡ None → put_bytes segments at bytes ≡ segments
put_bytes_nowhere [] at bytes none = refl
put_bytes_nowhere (first ∷ segments) at bytes none = by (has_bytes first at (length bytes)) none (put_bytes_nowhere segments at bytes)
  where
    by : (has : Bool) → cond has (Some first) (holder segments at (length bytes)) ≡ None → (holder segments at (length bytes) ≡ None → put_bytes segments at bytes ≡ segments)
        → cond has (with_bytes first at bytes ∷ segments) (first ∷ put_bytes segments at bytes) ≡ first ∷ segments
    by true none rest = absurd cc
    by false none rest = ap (λ others. first ∷ others) (rest none)
