-- The earlier bytes take back what was put in their place.
use Rattle.std.proofs.Common.{◌≡◌, ◌≤◌, ℕ, ◌+◌, ◌-◌, Bool, true, false, List, [], ◌∷◌, ◌++◌, length, length-append, take, drop, length-take, length-drop, refl, ap, sym, ◌∙◌, arith}
use Rattle.std.specs.Option.{is_some}
use Rattle.std.proofs.lemmas.List.{append_assoc, take-append-drop, take-append-le, drop-take, take-take}
use Rattle.std.proofs.lemmas.Slice.{drop-append-drop}
use Rattle.std.proofs.lemmas.Bool.Decides.{nat_tests}
use Rattle.byteorder.specs.Endian.{little_bytes}
use Rattle.byteorder.specs.Numbers.{length-bytes_low_first}
use Rattle.guest_memory.specs.Segment.{bytes_at, has_bytes, replaced, with_bytes}
use Rattle.guest_memory.specs.GuestMemory.{bytes_of, holder, put_bytes}
use Rattle.guest_memory.specs.Laws.{PutTakesBackPut, PutTakesBackWritten}
use Rattle.guest_memory.specs.declared.segment.Segment.{Segment}
use Rattle.guest_memory.proofs.PutLemmas.{length-with_bytes}
use Rattle.guest_memory.proofs.SegmentLemmas.{written-as_bytes}

-- ---- bytes

-- those before the range are as they were
take-replaced : (bytes : List ℕ) (i : ℕ) (others : List ℕ) → i ≤ length bytes → take i (replaced bytes i others) ≡ take i bytes
take-replaced bytes i others inside =
    let back = drop (i + length others) bytes in
    ap (take i) (append_assoc (take i bytes) others back)
    ∙ take-append-le i (take i bytes) (others ++ back) (omega (arith, length-take i bytes))
    ∙ take-take i i bytes (omega arith)

-- and so are those after it
drop-replaced : (bytes : List ℕ) (i n : ℕ) (others : List ℕ) → i ≤ length bytes → length others ≡ n → drop (i + n) (replaced bytes i others) ≡ drop (i + n) bytes
drop-replaced bytes i n others inside size =
    drop-append-drop (i + length others) bytes (take i bytes ++ others) (i + n) (omega (arith, size)) (omega (arith, length-append (take i bytes) others, length-take i bytes))

-- the earlier bytes, in their place again
replaced-back : (bytes : List ℕ) (i n : ℕ) (others before : List ℕ) → i + n ≤ length bytes → length others ≡ n → before ≡ take n (drop i bytes) → replaced (replaced bytes i others) i before ≡ bytes
replaced-back bytes i n others before inside size is =
    let new = replaced bytes i others in
    let count : length before ≡ n = ap length is ∙ omega (arith, length-take n (drop i bytes), length-drop i bytes) in
    let front : take i new ≡ take i bytes = take-replaced bytes i others (omega arith) in
    let behind : drop (i + n) new ≡ drop (i + n) bytes = drop-replaced bytes i n others (omega arith) size in
    let whole : take i bytes ++ take n (drop i bytes) ≡ take (i + n) bytes =
    ap (λ (xs : List ℕ). xs ++ take n (drop i bytes)) (sym (take-take i (i + n) bytes (omega arith)))
    ∙ ap (λ (xs : List ℕ). take i (take (i + n) bytes) ++ xs) (sym (drop-take i n bytes))
    ∙ take-append-drop i (take (i + n) bytes) in
    ap (λ (k : ℕ). take i new ++ before ++ drop (i + k) new) count
    ∙ ap (λ (xs : List ℕ). xs ++ before ++ drop (i + n) new) front
    ∙ ap (λ (xs : List ℕ). take i bytes ++ before ++ xs) behind
    ∙ ap (λ (xs : List ℕ). take i bytes ++ xs ++ drop (i + n) bytes) is
    ∙ ap (λ (xs : List ℕ). xs ++ drop (i + n) bytes) whole
    ∙ take-append-drop (i + n) bytes

-- ---- segments

with_bytes-back : (segment : Segment) (at : ℕ) (bytes : List ℕ) → has_bytes segment at (length bytes) ≡ true → with_bytes (with_bytes segment at bytes) at (bytes_at segment at (length bytes)) ≡ segment
with_bytes-back segment at bytes has =
    let inside : at - segment.base + length bytes ≤ length segment.bytes = grind (arith, nat_tests, has) in
    ap (λ (xs : List ℕ). record segment { bytes = xs }) (replaced-back segment.bytes (at - segment.base) (length bytes) bytes (bytes_at segment at (length bytes)) inside refl refl)

size_at : (segment : Segment) (at n : ℕ) → has_bytes segment at n ≡ true → length (bytes_at segment at n) ≡ n
size_at segment at n has =
    let inside : at - segment.base + n ≤ length segment.bytes = grind (arith, nat_tests, has) in
    omega (arith, length-take n (drop (at - segment.base) segment.bytes), length-drop (at - segment.base) segment.bytes)

-- the size of what was there is that of the range
pub size_of : (segments : List Segment) (at n : ℕ) → is_some (holder segments at n) ≡ true → length (bytes_of segments at n) ≡ n
size_of [] at n there = absurd cc
size_of (s ∷ rest) at n there = by_head (has_bytes s at n) refl there (λ some. size_of rest at n some)
  where
    by_head : (has : Bool) → has_bytes s at n ≡ has → is_some (holder (s ∷ rest) at n) ≡ true → (is_some (holder rest at n) ≡ true → length (bytes_of rest at n) ≡ n) → length (bytes_of (s ∷ rest) at n) ≡ n
    by_head true is some later = rw is (size_at s at n is)
    by_head false is some later = rw is (later (rw is at some))

back-more : (s : Segment) (rest : List Segment) (at : ℕ) (bytes : List ℕ) (has : Bool) → has_bytes s at (length bytes) ≡ has → is_some (holder (s ∷ rest) at (length bytes)) ≡ true
    → (is_some (holder rest at (length bytes)) ≡ true → put_bytes (put_bytes rest at bytes) at (bytes_of rest at (length bytes)) ≡ rest)
    → put_bytes (put_bytes (s ∷ rest) at bytes) at (bytes_of (s ∷ rest) at (length bytes)) ≡ s ∷ rest
back-more s rest at bytes true is there later =
    let new : Segment = with_bytes s at bytes in
    let before = bytes_at s at (length bytes) in
    let size : length before ≡ length bytes = size_at s at (length bytes) is in
    let count : length new.bytes ≡ length s.bytes = length-with_bytes s at bytes is in
    let still : has_bytes new at (length before) ≡ true = grind (arith, nat_tests, count, size, is) in
    rw is (rw still (ap (λ (x : Segment). x ∷ rest) (with_bytes-back s at bytes is)))
back-more s rest at bytes false is there later =
    let some : is_some (holder rest at (length bytes)) ≡ true = rw is at there in
    let before = bytes_of rest at (length bytes) in
    let size : length before ≡ length bytes = size_of rest at (length bytes) some in
    let other : has_bytes s at (length before) ≡ false = ap (has_bytes s at) size ∙ is in
    rw is (rw other (ap (λ (xs : List Segment). s ∷ xs) (later some)))

pub put_takes_back_put : PutTakesBackPut
put_takes_back_put [] at bytes there = refl
put_takes_back_put (s ∷ rest) at bytes there = back-more s rest at bytes (has_bytes s at (length bytes)) refl there (λ some. put_takes_back_put rest at bytes some)

pub put_takes_back_written : PutTakesBackWritten
put_takes_back_written segments at n value there =
    let size : length (little_bytes n value) ≡ n = length-bytes_low_first 0 n value in
    let here : is_some (holder segments at (length (little_bytes n value))) ≡ true = ap (λ (m : ℕ). is_some (holder segments at m)) size ∙ there in
    ap (λ (after : List Segment). put_bytes after at (bytes_of segments at n)) (written-as_bytes segments at n value)
    ∙ ap (λ (m : ℕ). put_bytes (put_bytes segments at (little_bytes n value)) at (bytes_of segments at m)) (sym size)
    ∙ put_takes_back_put segments at (little_bytes n value) here
