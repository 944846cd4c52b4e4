-- How often a test holds in a list, and at which place first.
use Rattle.std.proofs.Common.{◌≡◌, ◌≤◌, ◌+◌, ◌*◌, ℕ, zero, suc, Bool, true, false, ◌||◌, cond, List, [], ◌∷◌, ◌++◌, length, Option, Some, None, if◌then◌else◌, refl, ap, sym, ◌∙◌, arith}
use Rattle.std.specs.Prelude.{count_by, is_some}
use Rattle.std.specs.List.{cons_option, filter_map, list_any, position, position_from, slice_get}
use Rattle.std.proofs.lemmas.Iterator.Adapters.{position_from-zero}
use Rattle.std.proofs.lemmas.List.Elements.{filter_map-append}
use Rattle.std.proofs.lemmas.List.Sums.{sum_by-cons}

-- ---- counts

unfoldable pub one_if : Bool → ℕ
one_if b = if b then 1 else 0

-- how many elements pass a test
unfoldable pub count : {X : Type 0} → (X → Bool) → List X → ℕ
count p [] = 0
count p (x ∷ xs) = one_if (p x) + count p xs

pub count-push : {X : Type 0} (p : X → Bool) (xs : List X) (x : X) → count p (xs ++ x ∷ []) ≡ count p xs + one_if (p x)
unfolding count
count-push p [] x = omega arith
count-push p (y ∷ xs) x = omega (arith, count-push p xs x)

pub one_if-true : (b : Bool) → b ≡ true → one_if b ≡ 1
unfolding one_if
one_if-true true h = refl
one_if-true false h = absurd cc

pub one_if-false : (b : Bool) → one_if b ≡ 0 → b ≡ false
unfolding one_if
one_if-false true h = absurd (omega arith)
one_if-false false h = refl

pub one_if-most : (b : Bool) → one_if b ≤ 1
unfolding one_if
one_if-most true = omega arith
one_if-most false = omega arith

any-false : (a b : Bool) → a || b ≡ false → (a ≡ false) × (b ≡ false)
any-false true b h = absurd cc
any-false false b h = (refl, h)

-- no element passes
pub count-none : {X : Type 0} (p : X → Bool) (xs : List X) → list_any p xs ≡ false → count p xs ≡ 0
unfolding count one_if
count-none p [] h = refl
count-none p (x ∷ xs) h =
    let parts = any-false (p x) (list_any p xs) h in
    rw parts.0 (omega (arith, count-none p xs parts.1))

-- two tests that agree
pub count-same : {X : Type 0} (p q : X → Bool) (xs : List X) → ((x : X) → p x ≡ q x) → count p xs ≡ count q xs
unfolding count
count-same p q [] same = refl
count-same p q (x ∷ xs) same = rw (same x, count-same p q xs same) refl

-- ---- sums

unfoldable pub total : {X : Type 0} → (X → ℕ) → List X → ℕ
total f [] = 0
total f (x ∷ xs) = f x + total f xs

pub total-push : {X : Type 0} (f : X → ℕ) (xs : List X) (x : X) → total f (xs ++ x ∷ []) ≡ total f xs + f x
unfolding total
total-push f [] x = omega arith
total-push f (y ∷ xs) x = omega (arith, total-push f xs x)

-- a sum of terms of at most so much
pub total-most : {X : Type 0} (f : X → ℕ) (most : ℕ) (xs : List X) → ((x : X) → f x ≤ most) → total f xs ≤ most * length xs
unfolding total
total-most f most [] fits = omega arith
total-most f most (x ∷ xs) fits = omega (arith, total-most f most xs fits, fits x)

-- terms that grow
pub total-le : {X : Type 0} (f g : X → ℕ) (xs : List X) → ((x : X) → f x ≤ g x) → total f xs ≤ total g xs
unfolding total
total-le f g [] grows = omega arith
total-le f g (x ∷ xs) grows = omega (arith, total-le f g xs grows, grows x)

grows_by : {X : Type 0} (f g : X → ℕ) (p : X → Bool) (x : X) (xs : List X) (b : Bool) → p x ≡ b → ((x : X) → f x + one_if (p x) ≤ g x) → b || list_any p xs ≡ true
    → (list_any p xs ≡ true → total f xs + 1 ≤ total g xs) → f x + total f xs + 1 ≤ g x + total g xs
grows_by f g p x xs true is grows some rest =
    let here : one_if (p x) ≡ 1 = one_if-true (p x) is in
    let others : total f xs ≤ total g xs = total-le f g xs (λ y. omega (arith, grows y)) in
    omega (arith, grows x)
grows_by f g p x xs false is grows some rest = omega (arith, grows x, rest some)

-- one of them by at least 1
pub total-grows : {X : Type 0} (f g : X → ℕ) (p : X → Bool) (xs : List X) → ((x : X) → f x + one_if (p x) ≤ g x) → list_any p xs ≡ true → total f xs + 1 ≤ total g xs
unfolding total
total-grows f g p [] grows some = absurd cc
total-grows f g p (x ∷ xs) grows some = grows_by f g p x xs (p x) refl grows some (λ rest. total-grows f g p xs grows rest)

-- ---- one more line

pub filter_map-push : {X Y : Type 0} (h : X → Option Y) (xs : List X) (x : X) → filter_map h (xs ++ x ∷ []) ≡ filter_map h xs ++ cons_option (h x) []
filter_map-push h xs x = filter_map-append h xs (x ∷ [])

-- ---- the first place

pub position-is : {X : Type 0} (p : X → Bool) (xs : List X) → position p xs ≡ position_from p 0 xs
position-is p xs = position_from-zero p xs

some_by : (n : ℕ) (b : Bool) (later : Option ℕ) (any : Bool) → is_some later ≡ any → is_some (cond b (Some n) later) ≡ (b || any)
some_by n true later any h = refl
some_by n false later any h = h

some_from : {X : Type 0} (p : X → Bool) (n : ℕ) (xs : List X) → is_some (position_from p n xs) ≡ list_any p xs
some_from p n [] = refl
some_from p n (x ∷ xs) = some_by n (p x) (position_from p (n + 1) xs) (list_any p xs) (some_from p (n + 1) xs)

-- there is a first place if some element passes
pub is_some-position : {X : Type 0} (p : X → Bool) (xs : List X) → is_some (position p xs) ≡ list_any p xs
is_some-position p xs = ap is_some (position-is p xs) ∙ some_from p 0 xs

-- the first place in a list with one more element
unfoldable pub or_last : Option ℕ → Bool → ℕ → Option ℕ
or_last (Some place) b last = Some place
or_last None b last = if b then Some last else None

or_by : (n : ℕ) (b c : Bool) (later : Option ℕ) (last : ℕ) → cond b (Some n) (or_last later c last) ≡ or_last (cond b (Some n) later) c last
unfolding or_last
or_by n true c later last = refl
or_by n false c later last = refl

push_from : {X : Type 0} (p : X → Bool) (n : ℕ) (xs : List X) (x : X) → position_from p n (xs ++ x ∷ []) ≡ or_last (position_from p n xs) (p x) (n + length xs)
unfolding or_last
push_from p n [] x = let same : n + 0 ≡ n = omega arith in rw same refl
push_from p n (y ∷ xs) x =
    let same : n + 1 + length xs ≡ n + suc (length xs) = omega arith in
    ap (λ o. cond (p y) (Some n) o) (push_from p (n + 1) xs x ∙ ap (or_last (position_from p (n + 1) xs) (p x)) same)
    ∙ or_by n (p y) (p x) (position_from p (n + 1) xs) (n + suc (length xs))

pub position-push : {X : Type 0} (p : X → Bool) (xs : List X) (x : X) → position p (xs ++ x ∷ []) ≡ or_last (position p xs) (p x) (length xs)
position-push p xs x =
    position-is p (xs ++ x ∷ []) ∙ push_from p 0 xs x
    ∙ ap (λ (n : ℕ). or_last (position_from p 0 xs) (p x) n) (omega arith)
    ∙ ap (λ o. or_last o (p x) (length xs)) (sym (position-is p xs))

-- an element that passes is counted
pub count-some : {X : Type 0} (p : X → Bool) (xs : List X) (k : ℕ) (x : X) → slice_get xs k ≡ Some x → p x ≡ true → 1 ≤ count p xs
unfolding count
count-some p [] k x at is = absurd cc
count-some p (y ∷ xs) zero x at is =
    let same : y ≡ x = cc in
    omega (arith, one_if-true (p y) (ap p same ∙ is))
count-some p (y ∷ xs) (suc k) x at is = omega (arith, count-some p xs k x at is)

-- if at most one element passes, its place is the first
one_from : {X : Type 0} (p : X → Bool) (n : ℕ) (xs : List X) (k : ℕ) (x : X) → count p xs ≤ 1 → slice_get xs k ≡ Some x → p x ≡ true → position_from p n xs ≡ Some (n + k)
unfolding count
one_from p n [] k x one at is = absurd cc
one_from p n (y ∷ xs) zero x one at is =
    let same : y ≡ x = cc in
    let place : n ≡ n + 0 = omega arith in
    rw (ap p same ∙ is) (ap (λ (m : ℕ). Some m) place)
one_from p n (y ∷ xs) (suc k) x one at is =
    let later = count-some p xs k x at is in
    let not_here : p y ≡ false = one_if-false (p y) (omega arith) in
    let place : n + 1 + k ≡ n + suc k = omega arith in
    rw not_here (one_from p (n + 1) xs k x (omega arith) at is ∙ ap (λ (m : ℕ). Some m) place)

pub position-one : {X : Type 0} (p : X → Bool) (xs : List X) (k : ℕ) (x : X) → count p xs ≤ 1 → slice_get xs k ≡ Some x → p x ≡ true → position p xs ≡ Some k
position-one p xs k x one at is = position-is p xs ∙ one_from p 0 xs k x one at is ∙ ap (λ (m : ℕ). Some m) (omega arith)

-- an element that passes is at the first place
pub record IsFoundFrom {X : Type 0} (p : X → Bool) (n : ℕ) (xs : List X) (m : ℕ) : Type 0 where
  pub place : ℕ
  pub from : m ≡ n + place
  pub element : X
  pub at : slice_get xs place ≡ Some element
  pub is : p element ≡ true

found_by : {X : Type 0} (p : X → Bool) (n : ℕ) (x : X) (xs : List X) (m : ℕ) (b : Bool) → p x ≡ b → cond b (Some n) (position_from p (n + 1) xs) ≡ Some m
    → (position_from p (n + 1) xs ≡ Some m → IsFoundFrom p (n + 1) xs m) → IsFoundFrom p n (x ∷ xs) m
found_by p n x xs m true is h rest =
    let same : n ≡ m = cc in
    record { place = 0; from = omega arith; element = x; at = refl; is = is }
found_by p n x xs m false is h rest =
    let found = rest h in
    record { place = suc found.place; from = omega (arith, found.from); element = found.element; at = found.at; is = found.is }

found_from : {X : Type 0} (p : X → Bool) (n : ℕ) (xs : List X) (m : ℕ) → position_from p n xs ≡ Some m → IsFoundFrom p n xs m
found_from p n [] m h = absurd cc
found_from p n (x ∷ xs) m h = found_by p n x xs m (p x) refl h (λ later. found_from p (n + 1) xs m later)

pub record IsFoundAt {X : Type 0} (p : X → Bool) (xs : List X) (k : ℕ) : Type 0 where
  pub element : X
  pub at : slice_get xs k ≡ Some element
  pub is : p element ≡ true

pub position-found : {X : Type 0} (p : X → Bool) (xs : List X) (k : ℕ) → position p xs ≡ Some k → IsFoundAt p xs k
position-found p xs k h =
    let found = found_from p 0 xs k (sym (position-is p xs) ∙ h) in
    let same : found.place ≡ k = omega (arith, found.from) in
    record { element = found.element; at = ap (slice_get xs) (sym same) ∙ found.at; is = found.is }

-- ---- counts of parts

pub count-append : {X : Type 0} (p : X → Bool) (xs ys : List X) → count p (xs ++ ys) ≡ count p xs + count p ys
unfolding count
count-append p [] ys = omega arith
count-append p (x ∷ xs) ys = omega (arith, count-append p xs ys)

any_by : {X : Type 0} (p : X → Bool) (x : X) (xs : List X) (b : Bool) → p x ≡ b → b || list_any p xs ≡ true → (list_any p xs ≡ true → 1 ≤ count p xs) → 1 ≤ one_if (p x) + count p xs
any_by p x xs true is h rest = omega (arith, one_if-true (p x) is)
any_by p x xs false is h rest = omega (arith, rest h)

-- if some element passes, one is counted
pub count-any : {X : Type 0} (p : X → Bool) (xs : List X) → list_any p xs ≡ true → 1 ≤ count p xs
unfolding count
count-any p [] h = absurd cc
count-any p (x ∷ xs) h = any_by p x xs (p x) refl h (λ later. count-any p xs later)

none_by : (any : Bool) (found : Option ℕ) → is_some found ≡ any → any ≡ false → found ≡ None
none_by any None is h = refl
none_by any (Some k) is h = absurd cc

bool_by : (n : ℕ) (any : Bool) → (any ≡ true → 1 ≤ n) → n ≡ 0 → any ≡ false
bool_by n true some none = absurd (omega (arith, some refl))
bool_by n false some none = refl

-- there is no first place if none is counted
pub position-none : {X : Type 0} (p : X → Bool) (xs : List X) → count p xs ≡ 0 → position p xs ≡ None
position-none p xs none = none_by (list_any p xs) (position p xs) (is_some-position p xs) (bool_by (count p xs) (list_any p xs) (count-any p xs) none)

-- std counts the same
pub count-is : {X : Type 0} (p : X → Bool) (xs : List X) → count_by p xs ≡ count p xs
unfolding count one_if
count-is p [] = refl
count-is p (x ∷ xs) = sum_by-cons (λ y. cond (p y) 1 0) x xs ∙ ap (λ (n : ℕ). cond (p x) 1 0 + n) (count-is p xs)
