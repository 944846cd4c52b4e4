-- Lists place by place.
use Rattle.std.proofs.Common.{◌≡◌, ◌+◌, ◌-◌, ℕ, zero, suc, Bool, true, false, ◌||◌, nat_eq, List, [], ◌∷◌, ◌++◌, length, take, Option, Some, None, refl, ap, ◌∙◌, inl, inr, ◌⊎◌, arith, if◌then◌else◌}
use Rattle.std.specs.Prelude.{option_map, slice_get}
use Rattle.std.proofs.lemmas.Bool.{cases_Bool}
use Rattle.std.proofs.lemmas.Bool.Decides.{nat_tests}
use Rattle.record_rows.specs.Rows.{Line, closed_at, map_at}
use Rattle.record_log.specs.SoundRows.{is_among}
use Rattle.record_log.specs.TakingBack.{closed_each}

same_suc : (a b : ℕ) → nat_eq (suc a) (suc b) ≡ nat_eq a b
same_suc a b = elim (cases_Bool (nat_eq a b)) [
  | inl same ↦ rw same (grind (arith, nat_tests, same))
  | inr differs ↦ rw differs (grind (arith, nat_tests, differs))
]

zero_suc : (a : ℕ) → nat_eq zero (suc a) ≡ false
zero_suc a = grind (arith, nat_tests)

suc_zero : (a : ℕ) → nat_eq (suc a) zero ≡ false
suc_zero a = grind (arith, nat_tests)

pub option_map_same : {X : Type 0} (o : Option X) → o ≡ option_map (λ (x : X). x) o
option_map_same None = refl
option_map_same (Some x) = refl

-- one element is changed, and the others stay
pub map_at_get : {X : Type 0} (place n : ℕ) (f : X → X) (xs : List X) → slice_get (map_at place f xs) n ≡ option_map (λ (x : X). if nat_eq place n then f x else x) (slice_get xs n)
map_at_get zero n f [] = refl
map_at_get (suc place) n f [] = refl
map_at_get zero zero f (x ∷ xs) = refl
map_at_get {X} zero (suc n) f (x ∷ xs) = rw (zero_suc n) (option_map_same (slice_get xs n))
map_at_get (suc place) zero f (x ∷ xs) = rw (suc_zero place) refl
map_at_get (suc place) (suc n) f (x ∷ xs) = rw (same_suc place n) (map_at_get place n f xs)

pub map_at_long : {X : Type 0} (place : ℕ) (f : X → X) (xs : List X) → length (map_at place f xs) ≡ length xs
map_at_long zero f [] = refl
map_at_long (suc place) f [] = refl
map_at_long zero f (x ∷ xs) = refl
map_at_long (suc place) f (x ∷ xs) = ap suc (map_at_long place f xs)

-- rows that are closed or opened
abbrev pub closed_if : Bool → Bool → Line → Line
closed_if among closed line = if among then record line { closed = closed } else line

closed_twice : (here later closed : Bool) (line : Line) → closed_if later closed (closed_if here closed line) ≡ closed_if (here || later) closed line
closed_twice true true closed line = refl
closed_twice true false closed line = refl
closed_twice false later closed line = refl

pub closed_each_get : (places : List ℕ) (closed : Bool) (n : ℕ) (lines : List Line) → slice_get (closed_each places closed lines) n ≡ option_map (closed_if (is_among places n) closed) (slice_get lines n)
closed_each_get [] closed n lines = option_map_same (slice_get lines n)
closed_each_get (place ∷ places) closed n lines =
    closed_each_get places closed n (closed_at place closed lines)
    ∙ ap (option_map (closed_if (is_among places n) closed)) (map_at_get place n (λ (line : Line). record line { closed = closed }) lines)
    ∙ both (slice_get lines n)
  where
    both : (o : Option Line) → option_map (closed_if (is_among places n) closed) (option_map (closed_if (nat_eq place n) closed) o) ≡ option_map (closed_if (nat_eq place n || is_among places n) closed) o
    both None = refl
    both (Some line) = ap Some (closed_twice (nat_eq place n) (is_among places n) closed line)

pub closed_each_long : (places : List ℕ) (closed : Bool) (lines : List Line) → length (closed_each places closed lines) ≡ length lines
closed_each_long [] closed lines = refl
closed_each_long (place ∷ places) closed lines = closed_each_long places closed (closed_at place closed lines) ∙ map_at_long place (λ (line : Line). record line { closed = closed }) lines

-- lists are the same if they are so place by place
pub same_by_places : {X : Type 0} (xs ys : List X) → ((n : ℕ) → slice_get xs n ≡ slice_get ys n) → xs ≡ ys
same_by_places [] [] same = refl
same_by_places [] (y ∷ ys) same = let clash = same zero in absurd cc
same_by_places (x ∷ xs) [] same = let clash = same zero in absurd cc
same_by_places {X} (x ∷ xs) (y ∷ ys) same =
    let first : Some x ≡ Some y = same zero in
    let here : x ≡ y = cc in
    ap (λ (z : X). z ∷ xs) here ∙ ap (λ l. y ∷ l) (same_by_places xs ys (λ n. same (suc n)))

-- one more element
pub push_get : {X : Type 0} (xs : List X) (last : X) (n : ℕ) (x : X) → slice_get (xs ++ last ∷ []) n ≡ Some x → (slice_get xs n ≡ Some x) ⊎ ((n ≡ length xs) × (x ≡ last))
push_get [] last zero x is = inr (refl, cc)
push_get [] last (suc n) x is = absurd cc
push_get (y ∷ xs) last zero x is = inl is
push_get (y ∷ xs) last (suc n) x is = elim (push_get xs last n x is) [
  | inl before ↦ inl before
  | inr here ↦ inr (ap suc here.0, here.1)
]

pub take_front : {X : Type 0} (xs : List X) (last : X) → take (length (xs ++ last ∷ []) - 1) (xs ++ last ∷ []) ≡ xs
take_front xs last = ap (λ (n : ℕ). take n (xs ++ last ∷ [])) (long xs last) ∙ front xs last
  where
    long : {X : Type 0} (xs : List X) (last : X) → length (xs ++ last ∷ []) - 1 ≡ length xs
    long [] last = refl
    long (x ∷ xs) last = let rest = more xs last in omega (arith, rest)
      where
        more : {X : Type 0} (xs : List X) (last : X) → length (xs ++ last ∷ []) ≡ length xs + 1
        more [] last = refl
        more (x ∷ xs) last = let rest = more xs last in omega (arith, rest)

    front : {X : Type 0} (xs : List X) (last : X) → take (length xs) (xs ++ last ∷ []) ≡ xs
    front [] last = refl
    front (x ∷ xs) last = ap (λ l. x ∷ l) (front xs last)
