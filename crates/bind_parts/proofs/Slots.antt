-- Arguments that are read one after the other.
use Rattle.std.proofs.Common.{◌≡◌, ◌<◌, ℕ, suc, ◌+◌, ◌-◌, List, [], ◌∷◌, ◌++◌, map, set, replicate, ap, sym, ◌∙◌, arith}
use Rattle.std.specs.List.{range_with_len}
use Rattle.std.proofs.lemmas.List.{set_at, append_assoc}
use Rattle.std.proofs.lemmas.List.FromFn.{length-map-range_with_len, map-range_with_len_more}

-- the first ones are read, and the others are 0
abbrev pub read_so_far : (ℕ → ℕ) → (i : ℕ) → List ℕ
read_so_far f i = map f (range_with_len 0 i) ++ replicate (16 - i) 0

pub one_read : (f : ℕ → ℕ) (i value : ℕ) (slots : List ℕ) → i < 16 → slots ≡ read_so_far f i → value ≡ f i → set slots i value ≡ read_so_far f (i + 1)
one_read f i value slots lt so_far is =
    let zeros : List ℕ = replicate (16 - (i + 1)) 0 in
    let one : 16 - i ≡ suc (16 - (i + 1)) = omega arith in
    let was : slots ≡ map f (range_with_len 0 i) ++ 0 ∷ zeros = so_far ∙ ap (λ (n : ℕ). map f (range_with_len 0 i) ++ replicate n 0) one in
    let more : map f (range_with_len 0 (i + 1)) ≡ map f (range_with_len 0 i) ++ f i ∷ [] = map-range_with_len_more f 0 i i (omega arith) in
    ap (λ (s : List ℕ). set s i value) was
    ∙ set_at (map f (range_with_len 0 i)) 0 zeros value i (length-map-range_with_len f 0 i)
    ∙ ap (λ (v : ℕ). map f (range_with_len 0 i) ++ v ∷ zeros) is
    ∙ sym (ap (λ (s : List ℕ). s ++ zeros) more ∙ append_assoc (map f (range_with_len 0 i)) (f i ∷ []) zeros)
