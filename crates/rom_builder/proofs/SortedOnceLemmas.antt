-- Numbers in rising order, once each: what they have in common with the numbers given, and that no other
-- rising numbers have it.
use Rattle.std.proofs.Common.{◌≡◌, ◌≤◌, ◌<◌, ◌+◌, ℕ, suc, Bool, true, false, ◌||◌, nat_eq, nat_lt, cond, List, [], ◌∷◌, length, slice_index, if◌then◌else◌, refl, ap, sym, ◌∙◌, arith, add-one}
use Rattle.std.specs.List.{dedup, dedup_from, list_any}
use Rattle.std.specs.List.Sorted.{IsPermutation, IsSorted, IsStrictlyIncreasing}
use Rattle.std.specs.Ordering.{nat_cmp}
use Rattle.std.proofs.lemmas.Bool.Decides.{nat_tests}
use Rattle.std.proofs.lemmas.List.Sorted.{list_any-IsPermutation}
use Rattle.std.proofs.lemmas.Map.Keys.{IsStrictlyIncreasing-dedup}
use Rattle.rom_builder.specs.SortedOnce.{RiseFrom, insert_once, sorted_once}

below : (n m : ℕ) → nat_lt n m ≡ true → n + 1 ≤ m
below n m h = grind (arith, nat_tests)

above : (n m : ℕ) → nat_lt n m ≡ false → nat_eq n m ≡ false → m + 1 ≤ n
above n m h k = grind (arith, nat_tests)

equal : (n m : ℕ) → nat_eq n m ≡ true → n ≡ m
equal n m h = grind (arith, nat_tests)

same_number : (n : ℕ) → nat_eq n n ≡ true
same_number n = grind (arith, nat_tests)

-- ---- they rise

pub rise-lower : (a b : ℕ) (ns : List ℕ) → a ≤ b → RiseFrom b ns → RiseFrom a ns
rise-lower a b [] low rises = tt
rise-lower a b (n ∷ ns) low rises = (omega (arith, low, rises.0), rises.1)

rise-insert_once : (a n : ℕ) (ms : List ℕ) → a ≤ n → RiseFrom a ms → RiseFrom a (insert_once n ms)
rise-insert_once a n [] low rises = (low, tt)
rise-insert_once a n (m ∷ ms) low rises = by_case (nat_lt n m) (nat_eq n m) refl refl (λ past. rise-insert_once (m + 1) n ms past rises.1)
  where
    by_case : (less same : Bool) → nat_lt n m ≡ less → nat_eq n m ≡ same → (m + 1 ≤ n → RiseFrom (m + 1) (insert_once n ms))
        → RiseFrom a (if less then n ∷ m ∷ ms else if same then m ∷ ms else m ∷ insert_once n ms)
    by_case true same lt eq later = (low, (below n m lt, rises.1))
    by_case false true lt eq later = rises
    by_case false false lt eq later = (rises.0, later (above n m lt eq))

pub rise-sorted_once : (ns : List ℕ) → RiseFrom 0 (sorted_once ns)
unfolding sorted_once
rise-sorted_once [] = tt
rise-sorted_once (n ∷ ns) = rise-insert_once 0 n (sorted_once ns) (omega arith) (rise-sorted_once ns)

-- ---- they are the numbers given

-- whether a number is among others
abbrev pub has : ℕ → List ℕ → Bool
has n ms = list_any (nat_eq n) ms

or_swap : (a b c : Bool) → (a || (b || c)) ≡ (b || (a || c))
or_swap true true c = refl
or_swap true false c = refl
or_swap false b c = refl

or_twice : (a b : Bool) → (a || (a || b)) ≡ (a || b)
or_twice true b = refl
or_twice false b = refl

has-insert_once : (k n : ℕ) (ms : List ℕ) → has k (insert_once n ms) ≡ (nat_eq k n || has k ms)
has-insert_once k n [] = refl
has-insert_once k n (m ∷ ms) = by_case (nat_lt n m) (nat_eq n m) refl (has-insert_once k n ms)
  where
    by_case : (less same : Bool) → nat_eq n m ≡ same → has k (insert_once n ms) ≡ (nat_eq k n || has k ms)
        → has k (if less then n ∷ m ∷ ms else if same then m ∷ ms else m ∷ insert_once n ms) ≡ (nat_eq k n || (nat_eq k m || has k ms))
    by_case true same eq rest = refl
    by_case false true eq rest = rw (equal n m eq) (sym (or_twice (nat_eq k m) (has k ms)))
    by_case false false eq rest = rw rest (or_swap (nat_eq k m) (nat_eq k n) (has k ms))

pub has-sorted_once : (k : ℕ) (ns : List ℕ) → has k (sorted_once ns) ≡ has k ns
unfolding sorted_once
has-sorted_once k [] = refl
has-sorted_once k (n ∷ ns) = has-insert_once k n (sorted_once ns) ∙ ap (λ (b : Bool). nat_eq k n || b) (has-sorted_once k ns)

-- ---- rising numbers are known by what is among them

least : (a k : ℕ) (ns : List ℕ) → RiseFrom a ns → has k ns ≡ true → a ≤ k
least a k [] rises there = absurd cc
least a k (n ∷ ns) rises there = by_case (nat_eq k n) refl there (λ later. least (n + 1) k ns rises.1 later)
  where
    by_case : (here : Bool) → nat_eq k n ≡ here → (here || has k ns) ≡ true → (has k ns ≡ true → n + 1 ≤ k) → a ≤ k
    by_case true eq there later = omega (arith, rises.0, equal k n eq)
    by_case false eq there later = omega (arith, rises.0, later there)

not_below : (a k : ℕ) (ns : List ℕ) → RiseFrom a ns → k < a → has k ns ≡ false
not_below a k ns rises low = by_case (has k ns) refl
  where
    by_case : (there : Bool) → has k ns ≡ there → there ≡ false
    by_case true is = absurd (omega (arith, low, least a k ns rises is))
    by_case false is = refl

pub same_numbers : (a b : ℕ) (ms ns : List ℕ) → RiseFrom a ms → RiseFrom b ns → ((k : ℕ) → has k ms ≡ has k ns) → ms ≡ ns
same_numbers a b [] [] rises too same = refl
same_numbers a b [] (n ∷ ns) rises too same =
    absurd (no_first n ns (same n) (same_number n))
  where
    no_first : (n : ℕ) (ns : List ℕ) → false ≡ (nat_eq n n || has n ns) → nat_eq n n ≡ true → ⊥
    no_first n ns none here = let clash : false ≡ true = none ∙ ap (λ (b : Bool). b || has n ns) here in cc
same_numbers a b (m ∷ ms) [] rises too same =
    absurd (no_first m ms (same m) (same_number m))
  where
    no_first : (m : ℕ) (ms : List ℕ) → (nat_eq m m || has m ms) ≡ false → nat_eq m m ≡ true → ⊥
    no_first m ms none here = let clash : true ≡ false = sym (ap (λ (b : Bool). b || has m ms) here) ∙ none in cc
same_numbers a b (m ∷ ms) (n ∷ ns) rises too same =
    let first_there : has m (n ∷ ns) ≡ true = sym (same m) ∙ ap (λ (b : Bool). b || has m ms) (same_number m) in
    let other_there : has n (m ∷ ms) ≡ true = same n ∙ ap (λ (b : Bool). b || has n ns) (same_number n) in
    let up : n ≤ m = least n m (n ∷ ns) (omega arith, too.1) first_there in
    let down : m ≤ n = least m n (m ∷ ms) (omega arith, rises.1) other_there in
    let first : m ≡ n = omega (arith, up, down) in
    ap (λ (k : ℕ). k ∷ ms) first ∙ ap (λ (ks : List ℕ). n ∷ ks) (same_numbers (m + 1) (n + 1) ms ns rises.1 too.1 (λ k. rest m n ms ns rises.1 too.1 first k (same k)))
  where
    rest : (m n : ℕ) (ms ns : List ℕ) → RiseFrom (m + 1) ms → RiseFrom (n + 1) ns → m ≡ n → (k : ℕ) → (nat_eq k m || has k ms) ≡ (nat_eq k n || has k ns) → has k ms ≡ has k ns
    rest m n ms ns rises too first k same = by_case (nat_eq k m) refl same
      where
        by_case : (here : Bool) → nat_eq k m ≡ here → (here || has k ms) ≡ (nat_eq k n || has k ns) → has k ms ≡ has k ns
        by_case true eq same =
            let is : k ≡ m = equal k m eq in
            not_below (m + 1) k ms rises (omega (arith, is)) ∙ sym (not_below (n + 1) k ns too (omega (arith, is, first)))
        by_case false eq same =
            let other : nat_eq k n ≡ false = sym (ap (nat_eq k) first) ∙ eq in
            same ∙ ap (λ (b : Bool). b || has k ns) other

-- ---- a sort and a dedup give them

rise-by_index : (a : ℕ) (ns : List ℕ) → (0 < length ns → a ≤ slice_index ns 0) → IsStrictlyIncreasing ns → RiseFrom a ns
rise-by_index a [] first rises = tt
rise-by_index a (n ∷ ns) first rises =
    (first (omega arith), rise-by_index (n + 1) ns (λ some. next some) (λ k inside. rw add-one (rw add-one at (rises (suc k) (omega (arith, inside))))))
  where
    next : 0 < length ns → n + 1 ≤ slice_index ns 0
    next some = let more : n < slice_index ns 0 = rises 0 (omega (arith, some)) in omega (arith, more)

has-dedup_from : (k n : ℕ) (ns : List ℕ) → has k (dedup_from nat_eq n ns) ≡ (nat_eq k n || has k ns)
has-dedup_from k n [] = refl
has-dedup_from k n (m ∷ ms) = by_case (nat_eq m n) refl (has-dedup_from k n ms) (has-dedup_from k m ms)
  where
    by_case : (same : Bool) → nat_eq m n ≡ same → has k (dedup_from nat_eq n ms) ≡ (nat_eq k n || has k ms) → has k (dedup_from nat_eq m ms) ≡ (nat_eq k m || has k ms)
        → has k (cond same (dedup_from nat_eq n ms) (n ∷ dedup_from nat_eq m ms)) ≡ (nat_eq k n || (nat_eq k m || has k ms))
    by_case true eq one other = rw (one, equal m n eq) (sym (or_twice (nat_eq k n) (has k ms)))
    by_case false eq one other = rw other refl

has-dedup : (k : ℕ) (ns : List ℕ) → has k (dedup nat_eq ns) ≡ has k ns
has-dedup k [] = refl
has-dedup k (n ∷ ns) = has-dedup_from k n ns

-- sorted numbers, each once, rise
pub rise-dedup : (sorted : List ℕ) → IsSorted nat_cmp sorted → RiseFrom 0 (dedup nat_eq sorted)
rise-dedup sorted order = rise-by_index 0 (dedup nat_eq sorted) (λ some. omega arith) (IsStrictlyIncreasing-dedup sorted order)

-- the numbers given, sorted and then each once
pub dedup-sorted : (ns sorted : List ℕ) → IsPermutation ns sorted → IsSorted nat_cmp sorted → dedup nat_eq sorted ≡ sorted_once ns
dedup-sorted ns sorted moved order =
    same_numbers 0 0 (dedup nat_eq sorted) (sorted_once ns)
    (rise-dedup sorted order)
    (rise-sorted_once ns)
    (λ k. has-dedup k sorted ∙ sym (list_any-IsPermutation (nat_eq k) ns sorted moved) ∙ sym (has-sorted_once k ns))
