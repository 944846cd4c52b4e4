-- What bytes that are put at an address change, and what they leave as it was.
use Rattle.std.proofs.Common.{◌≡◌, ◌-◌, ◌≤◌, ℕ, ◌+◌, max, Bool, true, false, not, ◌&&◌, ◌||◌, cond, List, [], ◌∷◌, ◌++◌, length-append, take, drop, length-take, length-drop, map, filter, length, replicate, refl, ap, sym, ◌∙◌, arith}
use Rattle.std.specs.List.{list_all, list_any}
use Rattle.std.specs.Prelude.{Some}
use Rattle.std.proofs.lemmas.Bool.{and_parts, not-true}
use Rattle.std.proofs.lemmas.Bool.Decides.{nat_tests}
use Rattle.std.proofs.lemmas.List.{append-nil, take-append-drop, length-replicate}
use Rattle.guest_memory.specs.Segment.{has_bytes, is_writable, with_bytes, replaced, extent, end_of}
use Rattle.guest_memory.specs.GuestMemory.{holder, is_writable_holder, is_writable_range, put_bytes, lie_from}
use Rattle.guest_memory.specs.declared.segment.Segment.{Segment}

-- bytes in the place of others leave the length
pub length-replaced : (bytes : List ℕ) (i : ℕ) (others : List ℕ) → i + length others ≤ length bytes → length (replaced bytes i others) ≡ length bytes
length-replaced bytes i others h =
    omega (arith, length-append (take i bytes ++ others) (drop (i + length others) bytes), length-append (take i bytes) others, length-take i bytes, length-drop (i + length others) bytes)

-- as many bytes are in the segment as before
pub length-with_bytes : (segment : Segment) (at : ℕ) (bytes : List ℕ) → has_bytes segment at (length bytes) ≡ true → length (with_bytes segment at bytes).bytes ≡ length segment.bytes
length-with_bytes segment at bytes has = length-replaced segment.bytes (at - segment.base) bytes (grind (arith, nat_tests))

-- ---- what stays

-- as many bytes are there as before
extent-with_bytes : (segment : Segment) (at : ℕ) (bytes : List ℕ) → has_bytes segment at (length bytes) ≡ true → extent (with_bytes segment at bytes) ≡ extent segment
extent-with_bytes segment at bytes has = ap (max 1) (length-with_bytes segment at bytes has)

lie_from-put_bytes-more : (from : ℕ) (segment : Segment) (segments : List Segment) (at : ℕ) (bytes : List ℕ) → lie_from (end_of segment) (put_bytes segments at bytes) ≡ lie_from (end_of segment) segments
    → lie_from from (put_bytes (segment ∷ segments) at bytes) ≡ lie_from from (segment ∷ segments)
lie_from-put_bytes-more from segment segments at bytes rest = grind (arith, rest, extent-with_bytes segment at bytes)

-- where the segments lie
pub lie_from-put_bytes : (from : ℕ) (segments : List Segment) (at : ℕ) (bytes : List ℕ) → lie_from from (put_bytes segments at bytes) ≡ lie_from from segments
lie_from-put_bytes from [] at bytes = refl
lie_from-put_bytes from (segment ∷ segments) at bytes =
    lie_from-put_bytes-more from segment segments at bytes (lie_from-put_bytes (end_of segment) segments at bytes)

-- no bytes change nothing
with_bytes-none : (segment : Segment) (at : ℕ) → with_bytes segment at [] ≡ segment
with_bytes-none segment at =
    let start = at - segment.base in
    let same : start + 0 ≡ start = omega arith in
    let whole : replaced segment.bytes start [] ≡ segment.bytes = rw (same, append-nil (take start segment.bytes)) (take-append-drop start segment.bytes) in
    ap (λ (bytes : List ℕ). record segment { bytes = bytes }) whole

put_bytes-none-more : (has : Bool) (segment : Segment) (segments : List Segment) (at : ℕ) → put_bytes segments at [] ≡ segments
    → cond has (with_bytes segment at [] ∷ segments) (segment ∷ put_bytes segments at []) ≡ segment ∷ segments
put_bytes-none-more true segment segments at rest = ap (λ first. first ∷ segments) (with_bytes-none segment at)
put_bytes-none-more false segment segments at rest = ap (λ others. segment ∷ others) rest

pub put_bytes-none : (segments : List Segment) (at : ℕ) → put_bytes segments at [] ≡ segments
put_bytes-none [] at = refl
put_bytes-none (segment ∷ segments) at = put_bytes-none-more (has_bytes segment at 0) segment segments at (put_bytes-none segments at)

pub put_bytes-empty : (segments : List Segment) (at : ℕ) (bytes : List ℕ) → length bytes ≡ 0 → put_bytes segments at bytes ≡ segments
put_bytes-empty segments at [] empty = put_bytes-none segments at
put_bytes-empty segments at (byte ∷ bytes) empty = absurd (omega (arith, empty))

pub filled-empty : (segments : List Segment) (at n byte : ℕ) → n ≡ 0 → put_bytes segments at (replicate n byte) ≡ segments
filled-empty segments at n byte empty = put_bytes-empty segments at (replicate n byte) (length-replicate n byte ∙ empty)

-- ---- tests and parts of segments

-- what a segment gives does not depend on its bytes, but may on how many there are
abbrev pub IgnoresBytes : {B : Type 0} → (Segment → B) → Type 0
IgnoresBytes {B} f = (segment : Segment) (bytes : List ℕ) → length bytes ≡ length segment.bytes → f (record segment { bytes = bytes }) ≡ f segment

list_all-put_bytes-more : (P : Segment → Bool) (segment : Segment) (segments : List Segment) (at : ℕ) (bytes : List ℕ) (has : Bool) → has_bytes segment at (length bytes) ≡ has → IgnoresBytes P
    → list_all P (put_bytes segments at bytes) ≡ list_all P segments
    → list_all P (cond has (with_bytes segment at bytes ∷ segments) (segment ∷ put_bytes segments at bytes)) ≡ list_all P (segment ∷ segments)
list_all-put_bytes-more P segment segments at bytes true has ignores rest =
    ap (λ b. b && list_all P segments) (ignores segment (with_bytes segment at bytes).bytes (length-with_bytes segment at bytes has))
list_all-put_bytes-more P segment segments at bytes false has ignores rest = ap (λ b. P segment && b) rest

pub list_all-put_bytes : (P : Segment → Bool) (segments : List Segment) (at : ℕ) (bytes : List ℕ) → IgnoresBytes P → list_all P (put_bytes segments at bytes) ≡ list_all P segments
list_all-put_bytes P [] at bytes ignores = refl
list_all-put_bytes P (segment ∷ segments) at bytes ignores =
    list_all-put_bytes-more P segment segments at bytes (has_bytes segment at (length bytes)) refl ignores (list_all-put_bytes P segments at bytes ignores)

list_any-put_bytes-more : (P : Segment → Bool) (segment : Segment) (segments : List Segment) (at : ℕ) (bytes : List ℕ) (has : Bool) → has_bytes segment at (length bytes) ≡ has → IgnoresBytes P
    → list_any P (put_bytes segments at bytes) ≡ list_any P segments
    → list_any P (cond has (with_bytes segment at bytes ∷ segments) (segment ∷ put_bytes segments at bytes)) ≡ list_any P (segment ∷ segments)
list_any-put_bytes-more P segment segments at bytes true has ignores rest =
    ap (λ b. b || list_any P segments) (ignores segment (with_bytes segment at bytes).bytes (length-with_bytes segment at bytes has))
list_any-put_bytes-more P segment segments at bytes false has ignores rest = ap (λ b. P segment || b) rest

pub list_any-put_bytes : (P : Segment → Bool) (segments : List Segment) (at : ℕ) (bytes : List ℕ) → IgnoresBytes P → list_any P (put_bytes segments at bytes) ≡ list_any P segments
list_any-put_bytes P [] at bytes ignores = refl
list_any-put_bytes P (segment ∷ segments) at bytes ignores =
    list_any-put_bytes-more P segment segments at bytes (has_bytes segment at (length bytes)) refl ignores (list_any-put_bytes P segments at bytes ignores)

-- a part of each segment that passes a test
filter-cons : (P : Segment → Bool) (is : Bool) (segment : Segment) (segments : List Segment) → P segment ≡ is → filter P (segment ∷ segments) ≡ cond is (segment ∷ filter P segments) (filter P segments)
filter-cons P true segment segments h = rw h refl
filter-cons P false segment segments h = rw h refl

parts-cons : {B : Type 0} (P : Segment → Bool) (f : Segment → B) (is : Bool) (segment : Segment) (segments : List Segment) → P segment ≡ is
    → map f (filter P (segment ∷ segments)) ≡ cond is (f segment ∷ map f (filter P segments)) (map f (filter P segments))
parts-cons P f true segment segments h = ap (map f) (filter-cons P true segment segments h)
parts-cons P f false segment segments h = ap (map f) (filter-cons P false segment segments h)

parts-put_bytes-more : {B : Type 0} (P : Segment → Bool) (f : Segment → B) (segment : Segment) (segments : List Segment) (at : ℕ) (bytes : List ℕ) (has : Bool) → has_bytes segment at (length bytes) ≡ has → IgnoresBytes P → IgnoresBytes f
    → map f (filter P (put_bytes segments at bytes)) ≡ map f (filter P segments)
    → map f (filter P (cond has (with_bytes segment at bytes ∷ segments) (segment ∷ put_bytes segments at bytes))) ≡ map f (filter P (segment ∷ segments))
parts-put_bytes-more P f segment segments at bytes true has test part rest =
    let size = length-with_bytes segment at bytes has in
    let new = with_bytes segment at bytes in
    let others = map f (filter P segments) in
    parts-cons P f (P segment) new segments (test segment new.bytes size) ∙ ap (λ first. cond (P segment) (first ∷ others) others) (part segment new.bytes size) ∙ sym (parts-cons P f (P segment) segment segments refl)
parts-put_bytes-more P f segment segments at bytes false has test part rest =
    parts-cons P f (P segment) segment (put_bytes segments at bytes) refl ∙ ap (λ others. cond (P segment) (f segment ∷ others) others) rest ∙ sym (parts-cons P f (P segment) segment segments refl)

pub parts-put_bytes : {B : Type 0} (P : Segment → Bool) (f : Segment → B) (segments : List Segment) (at : ℕ) (bytes : List ℕ) → IgnoresBytes P → IgnoresBytes f
    → map f (filter P (put_bytes segments at bytes)) ≡ map f (filter P segments)
parts-put_bytes P f [] at bytes test part = refl
parts-put_bytes P f (segment ∷ segments) at bytes test part =
    parts-put_bytes-more P f segment segments at bytes (has_bytes segment at (length bytes)) refl test part (parts-put_bytes P f segments at bytes test part)

-- ---- segments that the code may not write

abbrev is_fixed : Segment → Bool
is_fixed s = not (is_writable s.kind)

-- some bytes can be written only in a segment that the code may write
holder_writable : (segments : List Segment) (at byte : ℕ) (bytes : List ℕ) → is_writable_range segments at (length (byte ∷ bytes)) ≡ true → is_writable_holder (holder segments at (length (byte ∷ bytes))) ≡ true
holder_writable segments at byte bytes can = grind (arith, nat_tests, can)

fixed-put_bytes-more : (s : Segment) (rest : List Segment) (at : ℕ) (bytes : List ℕ) (has writable : Bool) → has_bytes s at (length bytes) ≡ has → is_writable s.kind ≡ writable
    → is_writable_holder (cond has (Some s) (holder rest at (length bytes))) ≡ true
    → (is_writable_holder (holder rest at (length bytes)) ≡ true → filter is_fixed (put_bytes rest at bytes) ≡ filter is_fixed rest)
    → filter is_fixed (cond has (with_bytes s at bytes ∷ rest) (s ∷ put_bytes rest at bytes)) ≡ filter is_fixed (s ∷ rest)
fixed-put_bytes-more s rest at bytes true true has is can later =
    filter-cons is_fixed false (with_bytes s at bytes) rest (ap not is) ∙ sym (filter-cons is_fixed false s rest (ap not is))
fixed-put_bytes-more s rest at bytes true false has is can later = absurd (grind (arith, is, can))
fixed-put_bytes-more s rest at bytes false writable has is can later =
    filter-cons is_fixed (not writable) s (put_bytes rest at bytes) (ap not is) ∙ ap (λ others. cond (not writable) (s ∷ others) others) (later can) ∙ sym (filter-cons is_fixed (not writable) s rest (ap not is))

fixed_there : (segments : List Segment) (at : ℕ) (bytes : List ℕ) → is_writable_holder (holder segments at (length bytes)) ≡ true → filter is_fixed (put_bytes segments at bytes) ≡ filter is_fixed segments
fixed_there [] at bytes can = refl
fixed_there (s ∷ rest) at bytes can =
    fixed-put_bytes-more s rest at bytes (has_bytes s at (length bytes)) (is_writable s.kind) refl refl can (λ later. fixed_there rest at bytes later)

-- they are as before, if the bytes can be written
pub fixed-put_bytes : (segments : List Segment) (at : ℕ) (bytes : List ℕ) → is_writable_range segments at (length bytes) ≡ true → filter is_fixed (put_bytes segments at bytes) ≡ filter is_fixed segments
fixed-put_bytes segments at [] can = ap (filter is_fixed) (put_bytes-none segments at)
fixed-put_bytes segments at (byte ∷ bytes) can = fixed_there segments at (byte ∷ bytes) (holder_writable segments at byte bytes can)

behind-more : (s : Segment) (rest : List Segment) (at : ℕ) (bytes : List ℕ) (has : Bool) → is_writable s.kind ≡ false → is_writable_holder (cond has (Some s) (holder rest at (length bytes))) ≡ true
    → (is_writable_holder (holder rest at (length bytes)) ≡ true) × (cond has (with_bytes s at bytes ∷ rest) (s ∷ put_bytes rest at bytes) ≡ s ∷ put_bytes rest at bytes)
behind-more s rest at bytes true fixed can = absurd (grind (arith, fixed, can))
behind-more s rest at bytes false fixed can = (can, refl)

behind_there : (front rest : List Segment) (at : ℕ) (bytes : List ℕ) → list_all is_fixed front ≡ true → is_writable_holder (holder (front ++ rest) at (length bytes)) ≡ true
    → put_bytes (front ++ rest) at bytes ≡ front ++ put_bytes rest at bytes
behind_there [] rest at bytes fixed can = refl
behind_there (s ∷ front) rest at bytes fixed can =
    let parts = and_parts (is_fixed s) (list_all is_fixed front) fixed in
    let one = behind-more s (front ++ rest) at bytes (has_bytes s at (length bytes)) (not-true (is_writable s.kind) parts.0) can in
    one.1 ∙ ap (λ others. s ∷ others) (behind_there front rest at bytes parts.1 one.0)

-- what is put lies after such segments that come first
pub put_bytes-behind : (front rest : List Segment) (at : ℕ) (bytes : List ℕ) → list_all is_fixed front ≡ true → is_writable_range (front ++ rest) at (length bytes) ≡ true
    → put_bytes (front ++ rest) at bytes ≡ front ++ put_bytes rest at bytes
put_bytes-behind front rest at [] fixed can = put_bytes-none (front ++ rest) at ∙ ap (λ others. front ++ others) (sym (put_bytes-none rest at))
put_bytes-behind front rest at (byte ∷ bytes) fixed can = behind_there front rest at (byte ∷ bytes) fixed (holder_writable (front ++ rest) at byte bytes can)
