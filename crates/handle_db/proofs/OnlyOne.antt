-- A list in which only one element passes a test: what is found, changed and filtered there.
use Rattle.std.proofs.Common.{◌≡◌, ◌<◌, ℕ, suc, Bool, true, false, not, ◌||◌, List, [], ◌∷◌, ◌++◌, length, map, filter, find, take, drop, get_or, set, Some, None, refl, ap, sym, ◌∙◌, if◌then◌else◌, arith}
use Rattle.std.specs.List.{list_any, remove}
use Rattle.std.proofs.Math.Seq.{drop-cons}
use Rattle.std.proofs.lemmas.List.{take-append-drop, set_split, map-append}
use Rattle.std.proofs.lemmas.List.Elements.{filter-append}

-- neither test holds
pub or_parts : (x y : Bool) → (x || y) ≡ false → (x ≡ false) × (y ≡ false)
or_parts true y h = absurd cc
or_parts false y h = (refl, h)

-- no element passes if none at a place does
pub none_pass : {X : Type 0} (test : X → Bool) (d : X) (xs : List X) → ((k : ℕ) → k < length xs → test (get_or xs k d) ≡ false) → list_any test xs ≡ false
none_pass test d [] fails = refl
none_pass test d (x ∷ xs) fails = rw (fails 0 (omega arith)) (none_pass test d xs (λ k h. fails (suc k) (omega arith)))

-- if none passes, nothing is changed and nothing left out
pub map-changed-none : {X : Type 0} (test : X → Bool) (f : X → X) (xs : List X) → list_any test xs ≡ false → map (λ (x : X). if test x then f x else x) xs ≡ xs
map-changed-none test f [] none = refl
map-changed-none test f (x ∷ xs) none =
    let parts = or_parts (test x) (list_any test xs) none in
    rw (parts.0, map-changed-none test f xs parts.1) refl

pub filter-none : {X : Type 0} (test : X → Bool) (xs : List X) → list_any test xs ≡ false → filter (λ (x : X). not (test x)) xs ≡ xs
filter-none test [] none = refl
filter-none test (x ∷ xs) none =
    let parts = or_parts (test x) (list_any test xs) none in
    rw (parts.0, filter-none test xs parts.1) refl

-- if none passes, none is found
pub find-none : {X : Type 0} (test : X → Bool) (xs : List X) → list_any test xs ≡ false → find test xs ≡ None
find-none test [] none = refl
find-none test (x ∷ xs) none =
    let parts = or_parts (test x) (list_any test xs) none in
    rw parts.0 (find-none test xs parts.1)

pub find-after : {X : Type 0} (test : X → Bool) (front : List X) (x : X) (back : List X) → list_any test front ≡ false → test x ≡ true → find test (front ++ x ∷ back) ≡ Some x
find-after test [] x back none passes = rw passes refl
find-after test (y ∷ front) x back none passes =
    let parts = or_parts (test y) (list_any test front) none in
    rw parts.0 (find-after test front x back parts.1 passes)

-- the element at a place passes a test, and no other does
pub record IsOnly {X : Type 0} (test : X → Bool) (xs : List X) (i : ℕ) (x : X) : Type 0 where
  pub inside : i < length xs
  pub split : xs ≡ take i xs ++ x ∷ drop (suc i) xs
  pub passes : test x ≡ true
  pub before : list_any test (take i xs) ≡ false
  pub after : list_any test (drop (suc i) xs) ≡ false

-- a list around an element of it
pub split_at : {X : Type 0} (xs : List X) (i : ℕ) (d : X) → i < length xs → xs ≡ take i xs ++ get_or xs i d ∷ drop (suc i) xs
split_at xs i d inside = sym (take-append-drop i xs) ∙ ap (λ tail. take i xs ++ tail) (drop-cons xs i d inside)

-- it is the one that is found
pub find-only : {X : Type 0} {test : X → Bool} {xs : List X} {i : ℕ} {x : X} → IsOnly test xs i x → find test xs ≡ Some x
find-only {X} {test} {xs} {i} {x} only = ap (find test) only.split ∙ find-after test (take i xs) x (drop (suc i) xs) only.before only.passes

-- changing it in its place changes each that passes
pub set-only : {X : Type 0} {test : X → Bool} {xs : List X} {i : ℕ} {x : X} (f : X → X) → IsOnly test xs i x → set xs i (f x) ≡ map (λ (y : X). if test y then f y else y) xs
set-only {X} {test} {xs} {i} {x} f only =
    let g : X → X = λ y. if test y then f y else y in
    let here : g x ≡ f x = rw only.passes refl in
    let mapped : map g xs ≡ map g (take i xs) ++ g x ∷ map g (drop (suc i) xs) = ap (map g) only.split ∙ map-append g (take i xs) (x ∷ drop (suc i) xs) in
    set_split xs i (f x) only.inside
    ∙ sym (mapped ∙ rw (map-changed-none test f (take i xs) only.before, map-changed-none test f (drop (suc i) xs) only.after, here) refl)

-- taking it out leaves those that do not pass
pub remove-only : {X : Type 0} {test : X → Bool} {xs : List X} {i : ℕ} {x : X} → IsOnly test xs i x → remove xs i ≡ filter (λ (y : X). not (test y)) xs
remove-only {X} {test} {xs} {i} {x} only =
    let fails : X → Bool = λ y. not (test y) in
    let filtered : filter fails xs ≡ filter fails (take i xs) ++ filter fails (x ∷ drop (suc i) xs) = ap (filter fails) only.split ∙ filter-append fails (take i xs) (x ∷ drop (suc i) xs) in
    sym (filtered ∙ rw (filter-none test (take i xs) only.before, only.passes, filter-none test (drop (suc i) xs) only.after) refl)
