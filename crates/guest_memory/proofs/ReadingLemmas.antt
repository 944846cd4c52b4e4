-- What is read after bytes are put: these bytes in their own range, and the earlier bytes in each other
-- range.
use Rattle.std.proofs.Common.{◌≡◌, ◌≤◌, ℕ, ◌+◌, ◌-◌, ◌%◌, ◌^◌, ⊎_elim, Bool, true, false, cond, List, [], ◌∷◌, ◌++◌, length, length-append, map, take, drop, length-take, Option, Some, None, unwrap_or, refl, ap, subst, sym, ◌∙◌, arith}
use Rattle.std.specs.Option.{is_some}
use Rattle.std.specs.Prelude.{option_map}
use Rattle.std.proofs.Math.Nat.{div-one}
use Rattle.std.proofs.Math.Seq.{drop-append_seam, take-append_seam}
use Rattle.std.proofs.lemmas.List.{append-nil, append_assoc, drop-take, take-append-le, take-take}
use Rattle.std.proofs.lemmas.Slice.{drop-append-drop}
use Rattle.std.proofs.lemmas.Bool.Decides.{nat_tests}
use Rattle.byteorder.specs.Endian.{little_number, little_bytes}
use Rattle.byteorder.specs.Numbers.{length-bytes_low_first, little_from-bytes, little_from-take}
use Rattle.guest_memory.specs.Segment.{has_bytes, number_at, bytes_at, with_bytes, replaced}
use Rattle.guest_memory.specs.GuestMemory.{holder, number_in, bytes_in, number_of, put_bytes}
use Rattle.guest_memory.specs.Laws.{AreApart, NumberReadsBack, BytesReadBack, OtherNumbersStay, OtherBytesStay, SegmentsStay, SegmentsStayAsBytesArePut, outline_of}
use Rattle.guest_memory.specs.declared.segment.Segment.{Segment}
use Rattle.guest_memory.proofs.PutLemmas.{length-with_bytes}
use Rattle.guest_memory.proofs.SegmentLemmas.{written-as_bytes}

-- ---- bytes in the place of others

-- from their own place on they come first
drop-replaced : (bytes : List ℕ) (i : ℕ) (others : List ℕ) → i ≤ length bytes → drop i (replaced bytes i others) ≡ others ++ drop (i + length others) bytes
drop-replaced bytes i others inside =
    let size : length (take i bytes) ≡ i = omega (arith, length-take i bytes) in
    let back = drop (i + length others) bytes in
    ap (drop i) (append_assoc (take i bytes) others back)
    ∙ ap (λ (k : ℕ). drop k (take i bytes ++ (others ++ back))) (sym size)
    ∙ drop-append_seam (take i bytes) (others ++ back)

-- a range before them is as it was
before-replaced : (bytes : List ℕ) (i : ℕ) (others : List ℕ) (j m : ℕ) → i ≤ length bytes → j + m ≤ i → take m (drop j (replaced bytes i others)) ≡ take m (drop j bytes)
before-replaced bytes i others j m inside before =
    let back = drop (i + length others) bytes in
    let front : take (j + m) (replaced bytes i others) ≡ take (j + m) bytes =
    ap (take (j + m)) (append_assoc (take i bytes) others back)
    ∙ take-append-le (j + m) (take i bytes) (others ++ back) (omega (arith, length-take i bytes))
    ∙ take-take (j + m) i bytes (omega arith) in
    sym (drop-take j m (replaced bytes i others)) ∙ ap (drop j) front ∙ drop-take j m bytes

-- what lies after them is as it was
after-replaced : (bytes : List ℕ) (i : ℕ) (others : List ℕ) (j : ℕ) → i ≤ length bytes → i + length others ≤ j → drop j (replaced bytes i others) ≡ drop j bytes
after-replaced bytes i others j inside after =
    drop-append-drop (i + length others) bytes (take i bytes ++ others) j after (omega (arith, length-append (take i bytes) others, length-take i bytes))

-- ---- in a segment

bytes_at-own : (segment : Segment) (at : ℕ) (bytes : List ℕ) → has_bytes segment at (length bytes) ≡ true → bytes_at (with_bytes segment at bytes) at (length bytes) ≡ bytes
bytes_at-own segment at bytes has =
    let inside : at - segment.base ≤ length segment.bytes = grind (arith, nat_tests, has) in
    ap (take (length bytes)) (drop-replaced segment.bytes (at - segment.base) bytes inside)
    ∙ take-append_seam bytes (drop (at - segment.base + length bytes) segment.bytes)

bytes_at-apart : (segment : Segment) (at : ℕ) (bytes : List ℕ) (other m : ℕ) → has_bytes segment at (length bytes) ≡ true → has_bytes segment other m ≡ true → AreApart at (length bytes) other m
    → bytes_at (with_bytes segment at bytes) other m ≡ bytes_at segment other m
bytes_at-apart segment at bytes other m has reads apart =
    let i = at - segment.base in
    let j = other - segment.base in
    let inside : i ≤ length segment.bytes = grind (arith, nat_tests, has) in
    let after : at + length bytes ≤ other → i + length bytes ≤ j = λ h. grind (arith, nat_tests, has, h) in
    let before : other + m ≤ at → j + m ≤ i = λ h. grind (arith, nat_tests, reads, h) in
    ⊎_elim
    (λ h. ap (take m) (after-replaced segment.bytes i bytes j inside (after h)))
    (λ h. before-replaced segment.bytes i bytes j m inside (before h))
    apart

-- a number depends only on its bytes
number_at-bytes : (segment : Segment) (at n : ℕ) → number_at segment at n ≡ little_number n (bytes_at segment at n)
number_at-bytes segment at n = sym (little_from-take 0 n n (drop (at - segment.base) segment.bytes) (omega arith))

-- ---- in the segment that has the range

-- the one that has the range of the bytes gets them
holder-own-more : (segment : Segment) (segments : List Segment) (at : ℕ) (bytes : List ℕ) (has : Bool) → has_bytes segment at (length bytes) ≡ has
    → holder (put_bytes segments at bytes) at (length bytes) ≡ option_map (λ s. with_bytes s at bytes) (holder segments at (length bytes))
    → holder (cond has (with_bytes segment at bytes ∷ segments) (segment ∷ put_bytes segments at bytes)) at (length bytes) ≡ option_map (λ s. with_bytes s at bytes) (cond has (Some segment) (holder segments at (length bytes)))
holder-own-more segment segments at bytes true is rest =
    let size = length-with_bytes segment at bytes is in
    let has : has_bytes (with_bytes segment at bytes) at (length bytes) ≡ true = grind (arith, nat_tests, size, is) in
    rw has refl
holder-own-more segment segments at bytes false is rest = rw is rest

pub holder-own : (segments : List Segment) (at : ℕ) (bytes : List ℕ) → holder (put_bytes segments at bytes) at (length bytes) ≡ option_map (λ s. with_bytes s at bytes) (holder segments at (length bytes))
holder-own [] at bytes = refl
holder-own (segment ∷ segments) at bytes =
    holder-own-more segment segments at bytes (has_bytes segment at (length bytes)) refl (holder-own segments at bytes)

-- if bytes put in the range leave what a segment gives, it is as before for the segment that has
-- another range
holder-apart-more : {B : Type 0} (f : Segment → B) (segment : Segment) (segments : List Segment) (at : ℕ) (bytes : List ℕ) (other m : ℕ) (has reads : Bool) → has_bytes segment at (length bytes) ≡ has → has_bytes segment other m ≡ reads
    → (has_bytes segment at (length bytes) ≡ true → has_bytes segment other m ≡ true → f (with_bytes segment at bytes) ≡ f segment)
    → option_map f (holder (put_bytes segments at bytes) other m) ≡ option_map f (holder segments other m)
    → option_map f (holder (cond has (with_bytes segment at bytes ∷ segments) (segment ∷ put_bytes segments at bytes)) other m) ≡ option_map f (cond reads (Some segment) (holder segments other m))
holder-apart-more f segment segments at bytes other m true true has reads same rest =
    let size = length-with_bytes segment at bytes has in
    let still : has_bytes (with_bytes segment at bytes) other m ≡ true = grind (arith, nat_tests, size, reads) in
    rw still (ap Some (same has reads))
holder-apart-more f segment segments at bytes other m true false has reads same rest =
    let size = length-with_bytes segment at bytes has in
    let still : has_bytes (with_bytes segment at bytes) other m ≡ false = grind (arith, nat_tests, size, reads) in
    rw still refl
holder-apart-more f segment segments at bytes other m false true has reads same rest = rw reads refl
holder-apart-more f segment segments at bytes other m false false has reads same rest = rw reads rest

holder-apart : {B : Type 0} (f : Segment → B) (segments : List Segment) (at : ℕ) (bytes : List ℕ) (other m : ℕ)
    → ((segment : Segment) → has_bytes segment at (length bytes) ≡ true → has_bytes segment other m ≡ true → f (with_bytes segment at bytes) ≡ f segment)
    → option_map f (holder (put_bytes segments at bytes) other m) ≡ option_map f (holder segments other m)
holder-apart f [] at bytes other m same = refl
holder-apart f (segment ∷ segments) at bytes other m same =
    holder-apart-more f segment segments at bytes other m (has_bytes segment at (length bytes)) (has_bytes segment other m) refl refl (same segment) (holder-apart f segments at bytes other m same)

-- ---- the laws

bytes_in-map : (of : Option Segment) (at n : ℕ) → bytes_in of at n ≡ unwrap_or (option_map (λ s. bytes_at s at n) of) []
bytes_in-map None at n = refl
bytes_in-map (Some segment) at n = refl

number_in-map : (of : Option Segment) (at n : ℕ) → number_in of at n ≡ option_map (λ s. number_at s at n) of
number_in-map None at n = refl
number_in-map (Some segment) at n = refl

number_in-bytes : (of : Option Segment) (at n : ℕ) → is_some of ≡ true → number_in of at n ≡ Some (little_number n (bytes_in of at n))
number_in-bytes None at n there = absurd cc
number_in-bytes (Some segment) at n there = ap Some (number_at-bytes segment at n)

own-more : (of : Option Segment) (at : ℕ) (bytes : List ℕ) → ((segment : Segment) → of ≡ Some segment → has_bytes segment at (length bytes) ≡ true) → is_some of ≡ true
    → bytes_in (option_map (λ s. with_bytes s at bytes) of) at (length bytes) ≡ bytes
own-more None at bytes has there = absurd cc
own-more (Some segment) at bytes has there = bytes_at-own segment at bytes (has segment refl)

-- the segment that has a range does
holder-has-more : (segment : Segment) (segments : List Segment) (at n : ℕ) (found : Segment) (has : Bool) → has_bytes segment at n ≡ has → cond has (Some segment) (holder segments at n) ≡ Some found
    → (holder segments at n ≡ Some found → has_bytes found at n ≡ true) → has_bytes found at n ≡ true
holder-has-more segment segments at n found true is here rest =
    let same : segment ≡ found = cc in
    ap (λ (s : Segment). has_bytes s at n) (sym same) ∙ is
holder-has-more segment segments at n found false is here rest = rest here

pub holder-has : (segments : List Segment) (at n : ℕ) (found : Segment) → holder segments at n ≡ Some found → has_bytes found at n ≡ true
holder-has [] at n found here = absurd cc
holder-has (segment ∷ segments) at n found here =
    holder-has-more segment segments at n found (has_bytes segment at n) refl here (holder-has segments at n found)

pub bytes_read_back : BytesReadBack
bytes_read_back segments at bytes there =
    ap (λ of. bytes_in of at (length bytes)) (holder-own segments at bytes)
    ∙ own-more (holder segments at (length bytes)) at bytes (holder-has segments at (length bytes)) there

is_some-map : (of : Option Segment) (at : ℕ) (bytes : List ℕ) → is_some of ≡ true → is_some (option_map (λ s. with_bytes s at bytes) of) ≡ true
is_some-map None at bytes there = there
is_some-map (Some segment) at bytes there = refl

number_of-put : (segments : List Segment) (at : ℕ) (bytes : List ℕ) → is_some (holder segments at (length bytes)) ≡ true
    → number_of (put_bytes segments at bytes) at (length bytes) ≡ Some (little_number (length bytes) bytes)
number_of-put segments at bytes there =
    let still : is_some (holder (put_bytes segments at bytes) at (length bytes)) ≡ true =
    ap is_some (holder-own segments at bytes) ∙ is_some-map (holder segments at (length bytes)) at bytes there in
    number_in-bytes (holder (put_bytes segments at bytes) at (length bytes)) at (length bytes) still
    ∙ ap (λ (read : List ℕ). Some (little_number (length bytes) read)) (bytes_read_back segments at bytes there)

pub number_reads_back : NumberReadsBack
number_reads_back segments at n value there =
    let bytes = little_bytes n value in
    let size : length bytes ≡ n = length-bytes_low_first 0 n value in
    let low : little_number n bytes ≡ value % 256 ^ n = sym (ap (little_number n) (append-nil bytes)) ∙ little_from-bytes n 0 value [] ∙ ap (λ (x : ℕ). x % 256 ^ n) (div-one value) in
    let has : is_some (holder segments at (length bytes)) ≡ true = ap (λ (k : ℕ). is_some (holder segments at k)) size ∙ there in
    let put : number_of (put_bytes segments at bytes) at (length bytes) ≡ Some (little_number (length bytes) bytes) = number_of-put segments at bytes has in
    ap (λ after. number_of after at n) (written-as_bytes segments at n value)
    ∙ ap (λ (k : ℕ). number_of (put_bytes segments at bytes) at k) (sym size)
    ∙ put
    ∙ ap (λ (k : ℕ). Some (little_number k bytes)) size
    ∙ ap Some low

pub other_bytes_stay : OtherBytesStay
other_bytes_stay segments at bytes other m apart =
    bytes_in-map (holder (put_bytes segments at bytes) other m) other m
    ∙ ap (λ (read : Option (List ℕ)). unwrap_or read []) (holder-apart (λ s. bytes_at s other m) segments at bytes other m (λ s has reads. bytes_at-apart s at bytes other m has reads apart))
    ∙ sym (bytes_in-map (holder segments other m) other m)

number_at-apart : (segment : Segment) (at : ℕ) (bytes : List ℕ) (other m : ℕ) → has_bytes segment at (length bytes) ≡ true → has_bytes segment other m ≡ true → AreApart at (length bytes) other m
    → number_at (with_bytes segment at bytes) other m ≡ number_at segment other m
number_at-apart segment at bytes other m has reads apart =
    number_at-bytes (with_bytes segment at bytes) other m
    ∙ ap (little_number m) (bytes_at-apart segment at bytes other m has reads apart)
    ∙ sym (number_at-bytes segment other m)

other_numbers_put : (segments : List Segment) (at : ℕ) (bytes : List ℕ) (other m : ℕ) → AreApart at (length bytes) other m → number_of (put_bytes segments at bytes) other m ≡ number_of segments other m
other_numbers_put segments at bytes other m apart =
    number_in-map (holder (put_bytes segments at bytes) other m) other m
    ∙ holder-apart (λ s. number_at s other m) segments at bytes other m (λ s has reads. number_at-apart s at bytes other m has reads apart)
    ∙ sym (number_in-map (holder segments other m) other m)

pub other_numbers_stay : OtherNumbersStay
other_numbers_stay segments at n value other m apart =
    let bytes = little_bytes n value in
    let size : length bytes ≡ n = length-bytes_low_first 0 n value in
    let same : AreApart at (length bytes) other m = subst (λ (k : ℕ). AreApart at k other m) (sym size) apart in
    ap (λ after. number_of after other m) (written-as_bytes segments at n value)
    ∙ other_numbers_put segments at bytes other m same

-- ---- where the segments lie

outline_of-with_bytes : (segment : Segment) (at : ℕ) (bytes : List ℕ) → has_bytes segment at (length bytes) ≡ true → outline_of (with_bytes segment at bytes) ≡ outline_of segment
outline_of-with_bytes segment at bytes has =
    ap (λ (size : ℕ). (segment.base, size, segment.kind)) (length-with_bytes segment at bytes has)

segments_stay-more : (segment : Segment) (segments : List Segment) (at : ℕ) (bytes : List ℕ) (has : Bool) → has_bytes segment at (length bytes) ≡ has
    → map outline_of (put_bytes segments at bytes) ≡ map outline_of segments
    → map outline_of (cond has (with_bytes segment at bytes ∷ segments) (segment ∷ put_bytes segments at bytes)) ≡ map outline_of (segment ∷ segments)
segments_stay-more segment segments at bytes true has rest =
    ap (λ first. first ∷ map outline_of segments) (outline_of-with_bytes segment at bytes has)
segments_stay-more segment segments at bytes false has rest = ap (λ others. outline_of segment ∷ others) rest

pub segments_stay_as_bytes_are_put : SegmentsStayAsBytesArePut
segments_stay_as_bytes_are_put [] at bytes = refl
segments_stay_as_bytes_are_put (segment ∷ segments) at bytes =
    segments_stay-more segment segments at bytes (has_bytes segment at (length bytes)) refl (segments_stay_as_bytes_are_put segments at bytes)

pub segments_stay : SegmentsStay
segments_stay segments at n value =
    ap (map outline_of) (written-as_bytes segments at n value) ∙ segments_stay_as_bytes_are_put segments at (little_bytes n value)
