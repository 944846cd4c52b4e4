-- What is read at the places of a list, one after the other.
use Rattle.std.proofs.Common.{◌≡◌, ◌+◌, ℕ, List, [], ◌∷◌, ◌++◌, map, sym, ap, ◌∙◌, arith}
use Rattle.std.specs.List.{range_with_len}
use Rattle.std.proofs.lemmas.List.FromFn.{map-range_with_len_more}

-- one more item is read
pub one_more : {A : Type 0} → (read : ℕ → A) (i : ℕ) (old new : List A) (item : A) → new ≡ old ++ item ∷ [] → old ≡ map read (range_with_len 0 i) → item ≡ read i
    → new ≡ map read (range_with_len 0 (i + 1))
one_more {A} read i old new item pushed is same =
    let more : map read (range_with_len 0 (i + 1)) ≡ map read (range_with_len 0 i) ++ read i ∷ [] = map-range_with_len_more read 0 i i (omega arith) in
    pushed ∙ ap (λ (before : List A). before ++ item ∷ []) is ∙ ap (λ last. map read (range_with_len 0 i) ++ last ∷ []) same ∙ sym more
