-- Bytes that are put leave what can be written.
use Rattle.std.proofs.Common.{◌≡◌, ℕ, Bool, true, false, ◌||◌, cond, nat_eq, List, [], ◌∷◌, length, refl}
use Rattle.guest_memory.specs.declared.segment.Segment.{Segment}
use Rattle.guest_memory.specs.Segment.{has_bytes, with_bytes}
use Rattle.guest_memory.specs.GuestMemory.{holder, is_writable_holder, put_bytes}
use Rattle.guest_memory.proofs.PutLemmas.{length-with_bytes}
use Rattle.service_model.specs.Allowed.{PuttingLeavesWritable}

-- a segment whose bytes are replaced has the same ones
same-has : (s : Segment) (to : ℕ) (bytes : List ℕ) (at n : ℕ) → has_bytes s to (length bytes) ≡ true → has_bytes (with_bytes s to bytes) at n ≡ has_bytes s at n
same-has s to bytes at n has = rw (length-with_bytes s to bytes has) refl

put-here : (s : Segment) (rest : List Segment) (to : ℕ) (bytes : List ℕ) (at n : ℕ) (here : Bool) → has_bytes s to (length bytes) ≡ true → has_bytes s at n ≡ here
    → is_writable_holder (holder (s ∷ rest) at n) ≡ true → is_writable_holder (holder (with_bytes s to bytes ∷ rest) at n) ≡ true
put-here s rest to bytes at n true has is can = rw (same-has s to bytes at n has) (rw is (rw is at can))
put-here s rest to bytes at n false has is can = rw (same-has s to bytes at n has) (rw is (rw is at can))

put-more : (s : Segment) (rest : List Segment) (to : ℕ) (bytes : List ℕ) (at n : ℕ) (has here : Bool) → has_bytes s to (length bytes) ≡ has → has_bytes s at n ≡ here
    → is_writable_holder (holder (s ∷ rest) at n) ≡ true
    → (is_writable_holder (holder rest at n) ≡ true → is_writable_holder (holder (put_bytes rest to bytes) at n) ≡ true)
    → is_writable_holder (holder (cond has (with_bytes s to bytes ∷ rest) (s ∷ put_bytes rest to bytes)) at n) ≡ true
put-more s rest to bytes at n true here has is can later = put-here s rest to bytes at n here has is can
put-more s rest to bytes at n false true has is can later = rw is (rw is at can)
put-more s rest to bytes at n false false has is can later = rw is (later (rw is at can))

put-some : (segments : List Segment) (to : ℕ) (bytes : List ℕ) (at n : ℕ) → is_writable_holder (holder segments at n) ≡ true → is_writable_holder (holder (put_bytes segments to bytes) at n) ≡ true
put-some [] to bytes at n can = can
put-some (s ∷ rest) to bytes at n can =
    put-more s rest to bytes at n (has_bytes s to (length bytes)) (has_bytes s at n) refl refl can (λ others. put-some rest to bytes at n others)

pub puts-writable : PuttingLeavesWritable
puts-writable soft bytes to at n can = by_test (nat_eq n 0) refl
  where
    by_test : (none : Bool) → nat_eq n 0 ≡ none → (nat_eq n 0 || is_writable_holder (holder (put_bytes soft.memory to bytes) at n)) ≡ true
    by_test true is = rw is refl
    by_test false is = rw is (put-some soft.memory to bytes at n (rw is at can))
