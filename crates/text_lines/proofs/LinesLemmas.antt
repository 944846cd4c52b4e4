-- The lines of a text after its first line feed.
use Rattle.std.proofs.Common.{◌≡◌, ℕ, ◌+◌, ◌-◌, ◌<◌, List, [], ◌∷◌, Bool, true, false, length, take, drop, eqb, refl, sym, ap, ◌∙◌, arith, cond}
use Rattle.std.specs.List.{slice_split, onto_first, position_or_len, before_first, after_first}
use Rattle.std.specs.Str.Lines.{lines, lines_of_parts, strip_carriage_return}
use Rattle.std.proofs.lemmas.List.Splits.{slice_split_first, slice_split_none}
use Rattle.std.proofs.lemmas.List.Sums.{fails_before_first}
use Rattle.std.proofs.lemmas.Grind.{common_steps}
use Rattle.std.proofs.lemmas.Bool.Decides.{nat_tests}

abbrev pub is_feed : ℕ → Bool
is_feed b = eqb b 10

-- a part is a line of its own if the parts after it are those of a text
lines_of_parts-front : (x ys : List ℕ) → lines_of_parts (x ∷ slice_split is_feed ys) ≡ strip_carriage_return x ∷ lines ys
lines_of_parts-front x [] = refl
lines_of_parts-front x (y ∷ ys) =
    let onto : (parts : List (List ℕ)) → lines_of_parts (x ∷ onto_first y parts) ≡ strip_carriage_return x ∷ lines_of_parts (onto_first y parts) = elim [ [] ↦ refl | part ∷ parts ↦ refl ] in
    elim (is_feed y) as (λ b. lines_of_parts (x ∷ cond b ([] ∷ slice_split is_feed ys) (onto_first y (slice_split is_feed ys))) ≡ strip_carriage_return x ∷ lines_of_parts (cond b ([] ∷ slice_split is_feed ys) (onto_first y (slice_split is_feed ys)))) [
      | true ↦ refl
      | false ↦ onto (slice_split is_feed ys)
    ]

-- a text with a line feed, the first of which is at n
pub lines-feed : (xs : List ℕ) (n : ℕ) → n ≡ position_or_len is_feed xs → n < length xs → lines xs ≡ strip_carriage_return (take n xs) ∷ lines (drop (n + 1) xs)
lines-feed xs n e lt =
    let there : position_or_len is_feed xs < length xs = omega (arith, e) in
    ap lines_of_parts (slice_split_first is_feed xs 0 there)
    ∙ (lines_of_parts-front (before_first is_feed xs) (after_first is_feed xs)
    ∙ ap (λ k. strip_carriage_return (take k xs) ∷ lines (drop (k + 1) xs)) (sym e))

-- a text without a line feed
pub lines-last : (xs : List ℕ) (n : ℕ) → n ≡ position_or_len is_feed xs → n ≡ length xs → 0 < n → lines xs ≡ xs ∷ lines (drop n xs)
lines-last xs n e same some =
    let whole : slice_split is_feed xs ≡ xs ∷ [] = slice_split_none is_feed xs (λ k d h. fails_before_first is_feed xs k d (omega (arith, e, same))) in
    let rest : drop n xs ≡ [] = grind (arith, common_steps) in
    let full : eqb (length xs) 0 ≡ false = grind (arith, nat_tests) in
    rw rest (ap lines_of_parts whole ∙ ap (λ b. cond b [] (xs ∷ [])) full)

-- what the slice from k to the end is
pub rest_whole : (xs : List ℕ) (k : ℕ) → take (length xs - k) (drop k xs) ≡ drop k xs
rest_whole xs k = grind (arith, common_steps)
