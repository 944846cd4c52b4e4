-- Two lists as one of pairs.
use Rattle.std.proofs.Common.{◌≡◌, ℕ, zero, suc, List, [], ◌∷◌, ◌++◌, length, map, set, Option, Some, None, refl, sym, ap, subst, ◌∙◌}
use Rattle.std.specs.Prelude.{MatchOption, option_map, slice_get}
use Rattle.record_rows.specs.Numbers.{IsAbsent}
use Rattle.record_rows.specs.Inside.{pairs}
use Rattle.record_rows.specs.Rows.{map_at}

module _ {X Y : Type 0} where
  pub pairs_long : (xs : List X) (ys : List Y) → length xs ≡ length ys → length (pairs xs ys) ≡ length xs
  pairs_long [] ys long = refl
  pairs_long (x ∷ xs) [] long = absurd cc
  pairs_long (x ∷ xs) (y ∷ ys) long = ap suc (pairs_long xs ys cc)

  pub pairs_get : (xs : List X) (ys : List Y) (n : ℕ) → length xs ≡ length ys → option_map (λ (entry : X × Y). entry.0) (slice_get (pairs xs ys) n) ≡ slice_get xs n
  pairs_get [] ys n long = refl
  pairs_get (x ∷ xs) [] n long = absurd cc
  pairs_get (x ∷ xs) (y ∷ ys) zero long = refl
  pairs_get (x ∷ xs) (y ∷ ys) (suc n) long = pairs_get xs ys n cc

  pub pairs_pushed : (xs : List X) (ys : List Y) (x : X) (y : Y) → length xs ≡ length ys → pairs (xs ++ x ∷ []) (ys ++ y ∷ []) ≡ pairs xs ys ++ (x, y) ∷ []
  pairs_pushed [] [] x y long = refl
  pairs_pushed [] (other ∷ ys) x y long = absurd cc
  pairs_pushed (first ∷ xs) [] x y long = absurd cc
  pairs_pushed (first ∷ xs) (other ∷ ys) x y long = ap (λ l. (first, other) ∷ l) (pairs_pushed xs ys x y cc)

  pub pairs_second : (xs : List X) (ys : List Y) (n : ℕ) → length xs ≡ length ys → option_map (λ (entry : X × Y). entry.1) (slice_get (pairs xs ys) n) ≡ slice_get ys n
  pairs_second [] [] n long = refl
  pairs_second [] (y ∷ ys) n long = absurd cc
  pairs_second (x ∷ xs) [] n long = absurd cc
  pairs_second (x ∷ xs) (y ∷ ys) zero long = refl
  pairs_second (x ∷ xs) (y ∷ ys) (suc n) long = pairs_second xs ys n cc

  pub pairs_firsts : (xs : List X) (ys : List Y) → length xs ≡ length ys → map (λ (entry : X × Y). entry.0) (pairs xs ys) ≡ xs
  pairs_firsts [] ys long = refl
  pairs_firsts (x ∷ xs) [] long = absurd cc
  pairs_firsts (x ∷ xs) (y ∷ ys) long = ap (λ l. x ∷ l) (pairs_firsts xs ys cc)

  pub pairs_set : (xs : List X) (ys : List Y) (n : ℕ) (y : Y) → length xs ≡ length ys → pairs xs (set ys n y) ≡ map_at n (λ (entry : X × Y). (entry.0, y)) (pairs xs ys)
  pairs_set [] ys n y long = refl
  pairs_set (x ∷ xs) [] n y long = absurd cc
  pairs_set (x ∷ xs) (other ∷ ys) zero y long = refl
  pairs_set (x ∷ xs) (other ∷ ys) (suc n) y long = ap (λ l. (x, other) ∷ l) (pairs_set xs ys n y cc)

  -- a number that was found among the first ones
  pub found_pair : (xs : List X) (ys : List Y) (key : X) (found : Option ℕ) → length xs ≡ length ys
      → MatchOption found (IsAbsent key xs) (λ (number : ℕ). slice_get xs number ≡ Some key)
      → MatchOption found (IsAbsent key (map (λ (entry : X × Y). entry.0) (pairs xs ys))) (λ (number : ℕ). option_map (λ (entry : X × Y). entry.0) (slice_get (pairs xs ys) number) ≡ Some key)
  found_pair xs ys key None long absent = subst (IsAbsent key) (sym (pairs_firsts xs ys long)) absent
  found_pair xs ys key (Some number) long is = pairs_get xs ys number long ∙ is
