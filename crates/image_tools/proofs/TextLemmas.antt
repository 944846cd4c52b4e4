-- Bytes of a listing and of a shown name are ASCII.
use Rattle.std.proofs.Common.{◌≡◌, ◌<◌, ℕ, zero, suc, List, [], ◌∷◌, Bool, true, false, ◌&&◌, not, nat_eq, nat_le, ◌≤◌, ◌+◌, map, ◌++◌, length, drop, get_or, refl, ap, sym, ◌∙◌, append_assoc, add-one, drop-cons, arith, lit<}
use Rattle.std.specs.Prelude.{Option, Some, None, OnOk, Result, Ok, Err, if◌then◌else◌}
use Rattle.std.specs.List.{flat_map, list_all}
use Rattle.std.proofs.lemmas.Grind.{common_steps}
use Rattle.std.proofs.lemmas.List.{append-nil}
use Rattle.std.specs.Str.{IsAscii}
use Rattle.std.proofs.lemmas.Bool.Decides.{nat_tests}
use Rattle.image_tools.specs.Tools.{is_listing_byte, line_not_ascii, number_after}
use Rattle.image_tools.specs.ToolTexts.{shown_byte}

and-left : (a b : Bool) → (a && b) ≡ true → a ≡ true
and-left true b h = refl
and-left false b h = h

and-right : (a b : Bool) → (a && b) ≡ true → b ≡ true
and-right true b h = h
and-right false b h = cc

listing-below : (b : ℕ) → is_listing_byte b ≡ true → b < 128
listing-below b h = grind (arith, nat_tests)

pub IsAscii-listing : (bytes : List ℕ) → list_all is_listing_byte bytes ≡ true → IsAscii bytes
IsAscii-listing [] h i = lit< tt
IsAscii-listing (b ∷ bytes) h zero = listing-below b (and-left (is_listing_byte b) (list_all is_listing_byte bytes) h)
IsAscii-listing (b ∷ bytes) h (suc i) = IsAscii-listing bytes (and-right (is_listing_byte b) (list_all is_listing_byte bytes) h) i

first_and_others : (test : Bool) (number : ℕ) (line : Option ℕ) (bytes : List ℕ) → (if test then line else Some number) ≡ None → (line ≡ None → list_all is_listing_byte bytes ≡ true) → (test && list_all is_listing_byte bytes) ≡ true
first_and_others true number line bytes left others = others left
first_and_others false number line bytes left others = absurd cc

-- a text of which no line is refused has only bytes of a listing
pub all-listing : (number : ℕ) (bytes : List ℕ) → line_not_ascii number bytes ≡ None → list_all is_listing_byte bytes ≡ true
all-listing number [] h = refl
all-listing number (b ∷ bytes) h = first_and_others (is_listing_byte b) number (line_not_ascii (number_after number b) bytes) bytes h (λ left. all-listing (number_after number b) bytes left)

shown-below : (b : ℕ) → shown_byte b < 128
shown-below b = shown (nat_le 32 b && nat_le b 126 && not (nat_eq b 34)) refl
  where
    shown : (test : Bool) → (nat_le 32 b && nat_le b 126 && not (nat_eq b 34)) ≡ test → (if test then b else 63) < 128
    shown true is = grind (arith, nat_tests)
    shown false is = lit< tt

pub IsAscii-shown : (name : List ℕ) → IsAscii (map shown_byte name)
IsAscii-shown [] i = lit< tt
IsAscii-shown (b ∷ name) zero = shown-below b
IsAscii-shown (b ∷ name) (suc i) = IsAscii-shown name i

-- two texts that are written one after the other
pub appended : {A E : Type 0} → (outcome : Result A E) (old middle new first second : List ℕ) → middle ≡ old ++ first → OnOk outcome (new ≡ middle ++ second) → OnOk outcome (new ≡ old ++ (first ++ second))
appended (Ok done) old middle new first second one two = two ∙ ap (λ (before : List ℕ). before ++ second) one ∙ append_assoc old first second
appended (Err stop) old middle new first second one two = tt

-- a list of which each element is written, one after the other
pub lines-step : {A : Type 0} → (f : A → List ℕ) (xs : List A) (i : ℕ) (d : A) (now new whole : List ℕ) → i < length xs → new ≡ now ++ f (get_or xs i d) → now ++ flat_map f (drop i xs) ≡ whole → new ++ flat_map f (drop (i + 1) xs) ≡ whole
lines-step {A} f xs i d now new whole within wrote so_far =
    let split : drop i xs ≡ get_or xs i d ∷ drop (i + 1) xs = rw add-one (drop-cons xs i d within) in
    ap (λ (before : List ℕ). before ++ flat_map f (drop (i + 1) xs)) wrote
    ∙ append_assoc now (f (get_or xs i d)) (flat_map f (drop (i + 1) xs))
    ∙ ap (λ (rest : List A). now ++ flat_map f rest) (sym split)
    ∙ so_far

pub lines-end : {A : Type 0} → (f : A → List ℕ) (xs : List A) (i : ℕ) (now whole : List ℕ) → length xs ≤ i → now ++ flat_map f (drop i xs) ≡ whole → now ≡ whole
lines-end {A} f xs i now whole past so_far =
    let gone : drop i xs ≡ [] = grind (arith, common_steps) in
    sym (append-nil now) ∙ ap (λ (rest : List A). now ++ flat_map f rest) (sym gone) ∙ so_far
