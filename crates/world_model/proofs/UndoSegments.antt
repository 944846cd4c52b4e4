-- Segments that are left out by their addresses, as they are mapped and unmapped and as bytes are put back.
use Rattle.std.proofs.Common.{◌≡◌, ◌≤◌, ◌<◌, ℕ, ◌+◌, Bool, true, false, not, ◌&&◌, cond, nat_eq, nat_le, nat_lt, List, [], ◌∷◌, length, filter, Some, refl, sym, ap, ◌∙◌, arith}
use Rattle.std.specs.List.{list_all, list_any}
use Rattle.std.proofs.lemmas.Bool.{and_from, and_parts, eqb-true, or_from, or_parts}
use Rattle.std.proofs.lemmas.Bool.Decides.{nat_tests}
use Rattle.guest_memory.specs.declared.segment.Segment.{Segment}
use Rattle.guest_memory.specs.declared.segment.SegKind.{SegKind}
use Rattle.guest_memory.specs.Segment.{end_of, has_bytes, is_writable, with_bytes}
use Rattle.guest_memory.specs.GuestMemory.{holder, is_of, is_writable_holder, lie_from, mapped, put_bytes, unmapped}
use Rattle.guest_memory.proofs.PutLemmas.{put_bytes-none}
use Rattle.world_model.specs.World.{bases}
use Rattle.world_model.specs.Undo.{put_if_there}
use Rattle.world_model.proofs.Segments.{list_all-filter, list_all-mono}
use Rattle.world_model.proofs.Bases.{bases-cons}
use Rattle.world_model.proofs.FixedSegments.{all_from, mapped-first}

-- the segments whose addresses pass a test
abbrev pub at_addresses : (ℕ → Bool) → List Segment → List Segment
at_addresses p segments = filter (λ (s : Segment). p s.base) segments

pub at-cons : (p : ℕ → Bool) (is : Bool) (s : Segment) (rest : List Segment) → p s.base ≡ is → at_addresses p (s ∷ rest) ≡ cond is (s ∷ at_addresses p rest) (at_addresses p rest)
at-cons p true s rest h = rw h refl
at-cons p false s rest h = rw h refl

-- ---- unmapping

unmapped-more : (p : ℕ → Bool) (base : ℕ) (s : Segment) (rest : List Segment) (here is : Bool) → nat_eq s.base base ≡ here → p s.base ≡ is → p base ≡ true
    → at_addresses p (unmapped rest base) ≡ unmapped (at_addresses p rest) base
    → at_addresses p (cond here rest (s ∷ unmapped rest base)) ≡ unmapped (at_addresses p (s ∷ rest)) base
unmapped-more p base s rest true true at is passes later = sym (ap (λ others. unmapped others base) (at-cons p true s rest is) ∙ rw at refl)
unmapped-more p base s rest true false at is passes later =
    let same : s.base ≡ base = eqb-true s.base base at in
    absurd cc
unmapped-more p base s rest false true at is passes later =
    let one : unmapped (s ∷ at_addresses p rest) base ≡ s ∷ unmapped (at_addresses p rest) base = rw at refl in
    at-cons p true s (unmapped rest base) is ∙ ap (λ others. s ∷ others) later ∙ sym one ∙ sym (ap (λ others. unmapped others base) (at-cons p true s rest is))
unmapped-more p base s rest false false at is passes later =
    at-cons p false s (unmapped rest base) is ∙ later ∙ sym (ap (λ others. unmapped others base) (at-cons p false s rest is))

-- one that is not left out
pub at-unmapped : (p : ℕ → Bool) (base : ℕ) (segments : List Segment) → p base ≡ true → at_addresses p (unmapped segments base) ≡ unmapped (at_addresses p segments) base
at-unmapped p base [] passes = refl
at-unmapped p base (s ∷ rest) passes = unmapped-more p base s rest (nat_eq s.base base) (p s.base) refl refl passes (at-unmapped p base rest passes)

unmapped_none-more : (p : ℕ → Bool) (base : ℕ) (s : Segment) (rest : List Segment) (here is : Bool) → nat_eq s.base base ≡ here → p s.base ≡ is → p base ≡ false
    → at_addresses p (unmapped rest base) ≡ at_addresses p rest
    → at_addresses p (cond here rest (s ∷ unmapped rest base)) ≡ at_addresses p (s ∷ rest)
unmapped_none-more p base s rest true true at is fails later =
    let same : s.base ≡ base = eqb-true s.base base at in
    absurd cc
unmapped_none-more p base s rest true false at is fails later = sym (at-cons p false s rest is)
unmapped_none-more p base s rest false true at is fails later =
    at-cons p true s (unmapped rest base) is ∙ ap (λ others. s ∷ others) later ∙ sym (at-cons p true s rest is)
unmapped_none-more p base s rest false false at is fails later =
    at-cons p false s (unmapped rest base) is ∙ later ∙ sym (at-cons p false s rest is)

-- one that is left out
pub at-unmapped_none : (p : ℕ → Bool) (base : ℕ) (segments : List Segment) → p base ≡ false → at_addresses p (unmapped segments base) ≡ at_addresses p segments
at-unmapped_none p base [] fails = refl
at-unmapped_none p base (s ∷ rest) fails = unmapped_none-more p base s rest (nat_eq s.base base) (p s.base) refl refl fails (at-unmapped_none p base rest fails)

-- ---- mapping

-- whether addresses rise from one on
abbrev pub rise_from : ℕ → List Segment → Bool
rise_from from [] = true
rise_from from (s ∷ rest) = nat_le from s.base && rise_from s.base rest

rise_less : (low from : ℕ) (segments : List Segment) → low ≤ from → rise_from from segments ≡ true → rise_from low segments ≡ true
rise_less low from [] le rise = refl
rise_less low from (s ∷ rest) le rise =
    let parts = and_parts (nat_le from s.base) (rise_from s.base rest) rise in
    let here : nat_le low s.base ≡ true = grind (arith, nat_tests, parts.0) in
    and_from (nat_le low s.base) (rise_from s.base rest) here parts.1

pub lies_rise : (from : ℕ) (segments : List Segment) → lie_from from segments ≡ true → rise_from from segments ≡ true
lies_rise from [] lies = refl
lies_rise from (s ∷ rest) lies =
    let parts = and_parts (nat_le from s.base) (lie_from (end_of s) rest) lies in
    let le : s.base ≤ end_of s = omega arith in
    and_from (nat_le from s.base) (rise_from s.base rest) parts.0 (rise_less s.base (end_of s) rest le (lies_rise (end_of s) rest parts.1))

rise_all : (low from : ℕ) (segments : List Segment) → rise_from from segments ≡ true → low ≤ from → list_all (λ (s : Segment). nat_le low s.base) segments ≡ true
rise_all low from [] rise le = refl
rise_all low from (s ∷ rest) rise le =
    let parts = and_parts (nat_le from s.base) (rise_from s.base rest) rise in
    let here : nat_le low s.base ≡ true = grind (arith, nat_tests, parts.0) in
    let behind : low ≤ s.base = grind (arith, nat_tests, parts.0) in
    and_from (nat_le low s.base) (list_all (λ (s : Segment). nat_le low s.base) rest) here (rise_all low s.base rest parts.1 behind)

rise_mapped-more : (new s : Segment) (rest : List Segment) (from : ℕ) (before : Bool) → nat_lt s.base new.base ≡ before → nat_le from new.base ≡ true → nat_le from s.base ≡ true → rise_from s.base rest ≡ true
    → (nat_le s.base new.base ≡ true → rise_from s.base (mapped new rest) ≡ true)
    → rise_from from (cond before (s ∷ mapped new rest) (new ∷ s ∷ rest)) ≡ true
rise_mapped-more new s rest from true order low here rise later =
    let le : nat_le s.base new.base ≡ true = grind (arith, nat_tests, order) in
    and_from (nat_le from s.base) (rise_from s.base (mapped new rest)) here (later le)
rise_mapped-more new s rest from false order low here rise later =
    let le : nat_le new.base s.base ≡ true = grind (arith, nat_tests, order) in
    and_from (nat_le from new.base) (rise_from new.base (s ∷ rest)) low (and_from (nat_le new.base s.base) (rise_from s.base rest) le rise)

-- they still rise with one more
pub rise_mapped : (from : ℕ) (new : Segment) (segments : List Segment) → nat_le from new.base ≡ true → rise_from from segments ≡ true → rise_from from (mapped new segments) ≡ true
rise_mapped from new [] low rise = and_from (nat_le from new.base) true low refl
rise_mapped from new (s ∷ rest) low rise =
    let parts = and_parts (nat_le from s.base) (rise_from s.base rest) rise in
    rise_mapped-more new s rest from (nat_lt s.base new.base) refl low parts.0 parts.1 (λ le. rise_mapped s.base new rest le parts.1)

mapped-more : (p : ℕ → Bool) (new s : Segment) (rest : List Segment) (from : ℕ) (before is : Bool) → nat_lt s.base new.base ≡ before → p s.base ≡ is → p new.base ≡ true → rise_from from (s ∷ rest) ≡ true
    → at_addresses p (mapped new rest) ≡ mapped new (at_addresses p rest)
    → at_addresses p (cond before (s ∷ mapped new rest) (new ∷ s ∷ rest)) ≡ mapped new (at_addresses p (s ∷ rest))
mapped-more p new s rest from true true order is passes lies later =
    let one : mapped new (s ∷ at_addresses p rest) ≡ s ∷ mapped new (at_addresses p rest) = rw order refl in
    at-cons p true s (mapped new rest) is ∙ ap (λ others. s ∷ others) later ∙ sym one ∙ sym (ap (mapped new) (at-cons p true s rest is))
mapped-more p new s rest from true false order is passes lies later =
    at-cons p false s (mapped new rest) is ∙ later ∙ sym (ap (mapped new) (at-cons p false s rest is))
mapped-more p new s rest from false is order h passes lies later =
    let parts = and_parts (nat_le from s.base) (rise_from s.base rest) lies in
    let here : nat_le new.base s.base ≡ true = grind (arith, nat_tests, order) in
    let low : new.base ≤ s.base = grind (arith, nat_tests, order) in
    let all : list_all (λ (s : Segment). nat_le new.base s.base) (s ∷ rest) ≡ true =
    and_from (nat_le new.base s.base) (list_all (λ (s : Segment). nat_le new.base s.base) rest) here (rise_all new.base s.base rest parts.1 low) in
    at-cons p true new (s ∷ rest) passes
    ∙ sym (mapped-first new (at_addresses p (s ∷ rest)) (list_all-filter (λ (s : Segment). nat_le new.base s.base) (λ (s : Segment). p s.base) (s ∷ rest) all))

-- one that is not left out
pub at-mapped : (p : ℕ → Bool) (from : ℕ) (new : Segment) (segments : List Segment) → rise_from from segments ≡ true → p new.base ≡ true → at_addresses p (mapped new segments) ≡ mapped new (at_addresses p segments)
at-mapped p from new [] lies passes = at-cons p true new [] passes
at-mapped p from new (s ∷ rest) lies passes =
    let parts = and_parts (nat_le from s.base) (rise_from s.base rest) lies in
    mapped-more p new s rest from (nat_lt s.base new.base) (p s.base) refl refl passes lies (at-mapped p s.base new rest parts.1 passes)

mapped_none-more : (p : ℕ → Bool) (new s : Segment) (rest : List Segment) (before is : Bool) → p s.base ≡ is → p new.base ≡ false
    → at_addresses p (mapped new rest) ≡ at_addresses p rest
    → at_addresses p (cond before (s ∷ mapped new rest) (new ∷ s ∷ rest)) ≡ at_addresses p (s ∷ rest)
mapped_none-more p new s rest true true is fails later =
    at-cons p true s (mapped new rest) is ∙ ap (λ others. s ∷ others) later ∙ sym (at-cons p true s rest is)
mapped_none-more p new s rest true false is fails later = at-cons p false s (mapped new rest) is ∙ later ∙ sym (at-cons p false s rest is)
mapped_none-more p new s rest false is h fails later = at-cons p false new (s ∷ rest) fails

-- one that is left out
pub at-mapped_none : (p : ℕ → Bool) (new : Segment) (segments : List Segment) → p new.base ≡ false → at_addresses p (mapped new segments) ≡ at_addresses p segments
at-mapped_none p new [] fails = at-cons p false new [] fails
at-mapped_none p new (s ∷ rest) fails = mapped_none-more p new s rest (nat_lt s.base new.base) (p s.base) refl fails (at-mapped_none p new rest fails)

-- ---- bytes that are put back

-- bytes in the segment that has their range, if it can be written
abbrev pub put_there : (at : ℕ) → List ℕ → List Segment → List Segment
put_there at bytes [] = []
put_there at bytes (s ∷ rest) = cond (has_bytes s at (length bytes)) (cond (is_writable s.kind) (with_bytes s at bytes) s ∷ rest) (s ∷ put_there at bytes rest)

put_there-more : (at : ℕ) (bytes : List ℕ) (s : Segment) (rest : List Segment) (has own others : Bool)
    → has_bytes s at (length bytes) ≡ has → is_writable s.kind ≡ own → is_writable_holder (holder rest at (length bytes)) ≡ others
    → cond others (put_bytes rest at bytes) rest ≡ put_there at bytes rest
    → cond (is_writable_holder (cond has (Some s) (holder rest at (length bytes)))) (cond has (with_bytes s at bytes ∷ rest) (s ∷ put_bytes rest at bytes)) (s ∷ rest)
    ≡ cond has (cond own (with_bytes s at bytes) s ∷ rest) (s ∷ put_there at bytes rest)
put_there-more at bytes s rest true true others has can later rest_is = rw can refl
put_there-more at bytes s rest true false others has can later rest_is = rw can refl
put_there-more at bytes s rest false own true has can later rest_is = rw later (ap (λ xs. s ∷ xs) rest_is)
put_there-more at bytes s rest false own false has can later rest_is = rw later (ap (λ xs. s ∷ xs) rest_is)

put_there-is : (at : ℕ) (bytes : List ℕ) (segments : List Segment) → cond (is_writable_holder (holder segments at (length bytes))) (put_bytes segments at bytes) segments ≡ put_there at bytes segments
put_there-is at bytes [] = refl
put_there-is at bytes (s ∷ rest) =
    put_there-more at bytes s rest (has_bytes s at (length bytes)) (is_writable s.kind) (is_writable_holder (holder rest at (length bytes))) refl refl refl (put_there-is at bytes rest)

put_there-none-more : (at : ℕ) (bytes : List ℕ) (s : Segment) (rest : List Segment) (has own : Bool) → not has ≡ true → put_there at bytes rest ≡ rest
    → cond has (cond own (with_bytes s at bytes) s ∷ rest) (s ∷ put_there at bytes rest) ≡ s ∷ rest
put_there-none-more at bytes s rest true own none later = absurd cc
put_there-none-more at bytes s rest false own none later = ap (λ xs. s ∷ xs) later

-- if no segment has the range
pub put_there-none : (at : ℕ) (bytes : List ℕ) (segments : List Segment) → list_all (λ (s : Segment). not (has_bytes s at (length bytes))) segments ≡ true → put_there at bytes segments ≡ segments
put_there-none at bytes [] none = refl
put_there-none at bytes (s ∷ rest) none =
    let parts = and_parts (not (has_bytes s at (length bytes))) (list_all (λ (s : Segment). not (has_bytes s at (length bytes))) rest) none in
    put_there-none-more at bytes s rest (has_bytes s at (length bytes)) (is_writable s.kind) parts.0 (put_there-none at bytes rest parts.1)

-- a segment after one that has a range has no byte of it
apart_behind : (s r : Segment) (at n : ℕ) → 0 < n → has_bytes s at n ≡ true → nat_le (end_of s) r.base ≡ true → not (has_bytes r at n) ≡ true
apart_behind s r at n some has behind = grind (arith, nat_tests, some, has, behind)

pub none_behind : (s : Segment) (rest : List Segment) (at n : ℕ) → 0 < n → has_bytes s at n ≡ true → lie_from (end_of s) rest ≡ true → list_all (λ (r : Segment). not (has_bytes r at n)) rest ≡ true
none_behind s rest at n some has lies =
    list_all-mono (λ (r : Segment). nat_le (end_of s) r.base) (λ (r : Segment). not (has_bytes r at n)) rest (λ r behind. apart_behind s r at n some has behind) (all_from (end_of s) (end_of s) rest lies (omega arith))

at-put-more : (p : ℕ → Bool) (at : ℕ) (bytes : List ℕ) (s : Segment) (rest : List Segment) (has own is : Bool) → has_bytes s at (length bytes) ≡ has → is_writable s.kind ≡ own → p s.base ≡ is → 0 < length bytes → lie_from (end_of s) rest ≡ true
    → at_addresses p (put_there at bytes rest) ≡ put_there at bytes (at_addresses p rest)
    → at_addresses p (cond has (cond own (with_bytes s at bytes) s ∷ rest) (s ∷ put_there at bytes rest)) ≡ put_there at bytes (at_addresses p (s ∷ rest))
at-put-more p at bytes s rest true true true has can is some lies later =
    at-cons p true (with_bytes s at bytes) rest is ∙ sym (ap (put_there at bytes) (at-cons p true s rest is) ∙ rw (has, can) refl)
at-put-more p at bytes s rest true false true has can is some lies later =
    at-cons p true s rest is ∙ sym (ap (put_there at bytes) (at-cons p true s rest is) ∙ rw (has, can) refl)
at-put-more p at bytes s rest true true false has can is some lies later =
    let none = list_all-filter (λ (r : Segment). not (has_bytes r at (length bytes))) (λ (r : Segment). p r.base) rest (none_behind s rest at (length bytes) some has lies) in
    at-cons p false (with_bytes s at bytes) rest is ∙ sym (ap (put_there at bytes) (at-cons p false s rest is) ∙ put_there-none at bytes (at_addresses p rest) none)
at-put-more p at bytes s rest true false false has can is some lies later =
    let none = list_all-filter (λ (r : Segment). not (has_bytes r at (length bytes))) (λ (r : Segment). p r.base) rest (none_behind s rest at (length bytes) some has lies) in
    at-cons p false s rest is ∙ sym (ap (put_there at bytes) (at-cons p false s rest is) ∙ put_there-none at bytes (at_addresses p rest) none)
at-put-more p at bytes s rest false own true has can is some lies later =
    at-cons p true s (put_there at bytes rest) is ∙ ap (λ xs. s ∷ xs) later ∙ sym (ap (put_there at bytes) (at-cons p true s rest is) ∙ rw has refl)
at-put-more p at bytes s rest false own false has can is some lies later =
    at-cons p false s (put_there at bytes rest) is ∙ later ∙ sym (ap (put_there at bytes) (at-cons p false s rest is))

at-put_there : (p : ℕ → Bool) (from at : ℕ) (bytes : List ℕ) (segments : List Segment) → lie_from from segments ≡ true → 0 < length bytes → at_addresses p (put_there at bytes segments) ≡ put_there at bytes (at_addresses p segments)
at-put_there p from at bytes [] lies some = refl
at-put_there p from at bytes (s ∷ rest) lies some =
    let parts = and_parts (nat_le from s.base) (lie_from (end_of s) rest) lies in
    at-put-more p at bytes s rest (has_bytes s at (length bytes)) (is_writable s.kind) (p s.base) refl refl refl some parts.1 (at-put_there p (end_of s) at bytes rest parts.1 some)

pub put_if_there-none : (at : ℕ) (segments : List Segment) → put_if_there at [] segments ≡ segments
put_if_there-none at segments = put_bytes-none segments at

pub put_if_there-is : (at : ℕ) (bytes : List ℕ) (segments : List Segment) → 0 < length bytes → put_if_there at bytes segments ≡ put_there at bytes segments
put_if_there-is at bytes segments some =
    let more : nat_eq (length bytes) 0 ≡ false = grind (arith, nat_tests, some) in
    rw more (put_there-is at bytes segments)

-- bytes are put back before or after segments are left out
pub at-put_if_there : (p : ℕ → Bool) (at : ℕ) (bytes : List ℕ) (segments : List Segment) → lie_from 0 segments ≡ true → at_addresses p (put_if_there at bytes segments) ≡ put_if_there at bytes (at_addresses p segments)
at-put_if_there p at [] segments lies = ap (at_addresses p) (put_if_there-none at segments) ∙ sym (put_if_there-none at (at_addresses p segments))
at-put_if_there p at (b ∷ bytes) segments lies =
    let some : 0 < length (b ∷ bytes) = omega arith in
    ap (at_addresses p) (put_if_there-is at (b ∷ bytes) segments some) ∙ at-put_there p 0 at (b ∷ bytes) segments lies some ∙ sym (put_if_there-is at (b ∷ bytes) (at_addresses p segments) some)

-- ---- what is left

pub at-all : (p : ℕ → Bool) (segments : List Segment) → list_all (λ (s : Segment). p s.base) segments ≡ true → at_addresses p segments ≡ segments
at-all p [] all = refl
at-all p (s ∷ rest) all =
    let parts = and_parts (p s.base) (list_all (λ (s : Segment). p s.base) rest) all in
    at-cons p true s rest parts.0 ∙ ap (λ xs. s ∷ xs) (at-all p rest parts.1)

-- two tests, one after the other
pub at-both : (p q : ℕ → Bool) (segments : List Segment) → at_addresses p (at_addresses q segments) ≡ at_addresses (λ (b : ℕ). q b && p b) segments
at-both p q [] = refl
at-both p q (s ∷ rest) = by_tests (q s.base) (p s.base) refl refl (at-both p q rest)
  where
    by_tests : (one other : Bool) → q s.base ≡ one → p s.base ≡ other → at_addresses p (at_addresses q rest) ≡ at_addresses (λ (b : ℕ). q b && p b) rest
        → at_addresses p (at_addresses q (s ∷ rest)) ≡ at_addresses (λ (b : ℕ). q b && p b) (s ∷ rest)
    by_tests true true h k later =
        let both : (q s.base && p s.base) ≡ true = rw (h, k) refl in
        ap (at_addresses p) (at-cons q true s rest h) ∙ at-cons p true s (at_addresses q rest) k ∙ ap (λ xs. s ∷ xs) later ∙ sym (at-cons (λ (b : ℕ). q b && p b) true s rest both)
    by_tests true false h k later =
        let both : (q s.base && p s.base) ≡ false = rw (h, k) refl in
        ap (at_addresses p) (at-cons q true s rest h) ∙ at-cons p false s (at_addresses q rest) k ∙ later ∙ sym (at-cons (λ (b : ℕ). q b && p b) false s rest both)
    by_tests false other h k later =
        let both : (q s.base && p s.base) ≡ false = rw h refl in
        ap (at_addresses p) (at-cons q false s rest h) ∙ later ∙ sym (at-cons (λ (b : ℕ). q b && p b) false s rest both)

-- in order, a segment that is unmapped is left out by its address
pub unmapped-is : (from base : ℕ) (segments : List Segment) → lie_from from segments ≡ true → unmapped segments base ≡ at_addresses (λ (b : ℕ). not (nat_eq b base)) segments
unmapped-is from base [] lies = refl
unmapped-is from base (s ∷ rest) lies =
    let parts = and_parts (nat_le from s.base) (lie_from (end_of s) rest) lies in
    by_head (nat_eq s.base base) refl parts.1 (unmapped-is (end_of s) base rest parts.1)
  where
    by_head : (here : Bool) → nat_eq s.base base ≡ here → lie_from (end_of s) rest ≡ true → unmapped rest base ≡ at_addresses (λ (b : ℕ). not (nat_eq b base)) rest
        → cond here rest (s ∷ unmapped rest base) ≡ at_addresses (λ (b : ℕ). not (nat_eq b base)) (s ∷ rest)
    by_head true is lie later =
        let same : s.base ≡ base = eqb-true s.base base is in
        let gone : not (nat_eq s.base base) ≡ false = rw is refl in
        let behind = all_from (base + 1) (end_of s) rest lie (omega arith) in
        let others = list_all-mono (λ (o : Segment). nat_le (base + 1) o.base) (λ (o : Segment). not (nat_eq o.base base)) rest (λ o high. grind (arith, nat_tests)) behind in
        sym (at-cons (λ (b : ℕ). not (nat_eq b base)) false s rest gone ∙ at-all (λ (b : ℕ). not (nat_eq b base)) rest others)
    by_head false is lie later =
        let stays : not (nat_eq s.base base) ≡ true = rw is refl in
        ap (λ xs. s ∷ xs) later ∙ sym (at-cons (λ (b : ℕ). not (nat_eq b base)) true s rest stays)

-- the addresses at which the segments of a kind begin
pub bases-at : (of : SegKind) (p : ℕ → Bool) (segments : List Segment) → bases of (at_addresses p segments) ≡ filter p (bases of segments)
bases-at of p [] = refl
bases-at of p (s ∷ rest) = by_tests (p s.base) (is_of of s) refl refl (bases-at of p rest)
  where
    filter-head : (is : Bool) (b : ℕ) (bs : List ℕ) → p b ≡ is → filter p (b ∷ bs) ≡ cond is (b ∷ filter p bs) (filter p bs)
    filter-head true b bs h = rw h refl
    filter-head false b bs h = rw h refl

    by_tests : (one other : Bool) → p s.base ≡ one → is_of of s ≡ other → bases of (at_addresses p rest) ≡ filter p (bases of rest)
        → bases of (at_addresses p (s ∷ rest)) ≡ filter p (bases of (s ∷ rest))
    by_tests true true h k later =
        ap (bases of) (at-cons p true s rest h) ∙ bases-cons of true s (at_addresses p rest) k ∙ ap (λ xs. s.base ∷ xs) later
        ∙ sym (ap (filter p) (bases-cons of true s rest k) ∙ filter-head true s.base (bases of rest) h)
    by_tests true false h k later =
        ap (bases of) (at-cons p true s rest h) ∙ bases-cons of false s (at_addresses p rest) k ∙ later
        ∙ sym (ap (filter p) (bases-cons of false s rest k))
    by_tests false true h k later =
        ap (bases of) (at-cons p false s rest h) ∙ later
        ∙ sym (ap (filter p) (bases-cons of true s rest k) ∙ filter-head false s.base (bases of rest) h)
    by_tests false false h k later =
        ap (bases of) (at-cons p false s rest h) ∙ later
        ∙ sym (ap (filter p) (bases-cons of false s rest k))

-- if no segment passes a test, none that is left does
pub list_any-none_left : (P Q : Segment → Bool) (segments : List Segment) → list_any P segments ≡ false → list_any P (filter Q segments) ≡ false
list_any-none_left P Q [] none = refl
list_any-none_left P Q (s ∷ rest) none =
    let parts = or_parts (P s) (list_any P rest) none in
    let later = list_any-none_left P Q rest parts.1 in
    elim (Q s) as (λ b. list_any P (cond b (s ∷ filter Q rest) (filter Q rest)) ≡ false) [
      | true ↦ or_from (P s) (list_any P (filter Q rest)) parts.0 later
      | false ↦ later
    ]
