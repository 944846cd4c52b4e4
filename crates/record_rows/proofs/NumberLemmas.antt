-- Keys that are entered.
use Rattle.std.proofs.Common.{◌≡◌, ℕ, zero, suc, Bool, true, false, cond, List, [], ◌∷◌, ◌++◌, length, Some, refl, sym, ap, subst, ◌∙◌}
use Rattle.std.specs.Prelude.{slice_get}
use Rattle.std.specs.declared.cmp.Ordering.{Ordering}
use Rattle.std.specs.BTreeMap as tree
use Rattle.open_records.proofs.KeyLemmas.{is_equal_by}
use Rattle.record_rows.specs.Numbers.{AreDistinct, IsAbsent, IsExact, IsNumbered}

-- ---- one more element

pub get_last : {X : Type 0} (xs : List X) (x : X) → slice_get (xs ++ x ∷ []) (length xs) ≡ Some x
get_last [] x = refl
get_last (y ∷ xs) x = get_last xs x

pub get_before : {X : Type 0} (xs ys : List X) (n : ℕ) (x : X) → slice_get xs n ≡ Some x → slice_get (xs ++ ys) n ≡ Some x
get_before [] ys n x is = absurd cc
get_before (y ∷ xs) ys zero x is = is
get_before (y ∷ xs) ys (suc n) x is = get_before xs ys n x is

-- what is there with one more element was there, or is that one
pub by_last : {X : Type 0} (P : ℕ → X → Type 0) (xs : List X) (last : X) → ((n : ℕ) (x : X) → slice_get xs n ≡ Some x → P n x) → P (length xs) last
    → (n : ℕ) (x : X) → slice_get (xs ++ last ∷ []) n ≡ Some x → P n x
by_last P [] last before here zero x is = let same : last ≡ x = cc in subst (P 0) same here
by_last P [] last before here (suc n) x is = absurd cc
by_last P (y ∷ xs) last before here zero x is = before zero x is
by_last P (y ∷ xs) last before here (suc n) x is = by_last (λ (m : ℕ). P (suc m)) xs last (λ m. before (suc m)) here n x is

-- ---- one more key

pub entered : {K : Type 0} (cmp : K → K → Ordering) (old new : tree.BTreeMap K ℕ) (owners : List K) (key : K)
    → IsExact cmp → IsNumbered cmp old owners → IsAbsent key owners → tree.get cmp new key ≡ Some (length owners)
    → ((q : K) → tree.get cmp new q ≡ cond (tree.is_at (cmp key) q) (Some (length owners)) (tree.get cmp old q))
    → IsNumbered cmp new (owners ++ key ∷ [])
entered {K} cmp old new owners key exact were absent here updates = record {
  given = λ q number is. by_key q number (tree.is_at (cmp key) q) refl (sym (updates q) ∙ is);
  all = λ q number is. by_last (λ (n : ℕ) (k : K). tree.get cmp new k ≡ Some n) owners key old_stays here number q is;
}
  where
    by_key : (q : K) (number : ℕ) (at : Bool) → tree.is_at (cmp key) q ≡ at → cond at (Some (length owners)) (tree.get cmp old q) ≡ Some number → slice_get (owners ++ key ∷ []) number ≡ Some q
    by_key q number true at is =
        let same : key ≡ q = exact key q (is_equal_by (cmp key q) at) in
        let last : length owners ≡ number = cc in
        subst (λ (n : ℕ). slice_get (owners ++ key ∷ []) n ≡ Some q) last (get_last owners key ∙ ap Some same)
    by_key q number false at is = get_before owners (key ∷ []) number q (were.given q number is)

    old_stays : (number : ℕ) (q : K) → slice_get owners number ≡ Some q → tree.get cmp new q ≡ Some number
    old_stays number q was = by_old (tree.is_at (cmp key) q) refl
      where
        by_old : (at : Bool) → tree.is_at (cmp key) q ≡ at → tree.get cmp new q ≡ Some number
        by_old true at =
            let same : q ≡ key = sym (exact key q (is_equal_by (cmp key q) at)) in
            absurd (absent number (was ∙ ap Some same))
        by_old false at = updates q ∙ rw at (were.all q number was)

-- a key has one number
pub one_number : {K : Type 0} (cmp : K → K → Ordering) (numbers : tree.BTreeMap K ℕ) (owners : List K) → IsNumbered cmp numbers owners → AreDistinct owners
one_number cmp numbers owners are key number other here there =
    let same : Some number ≡ Some other = sym (are.all key number here) ∙ are.all key other there in
    cc
