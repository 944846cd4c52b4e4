-- The numbers of a line, one by one.
use Rattle.std.proofs.Common.{◌≡◌, ℕ, suc, ◌+◌, ◌<◌, ◌≤◌, List, [], ◌∷◌, ◌++◌, length, nat_lt, drop, map, get_or, Result, Ok, Err, refl, sym, ap, ◌∙◌, arith, add-one, drop-cons, append_assoc, Bor}
use Rattle.std.proofs.lemmas.List.{append-nil, length-map}
use Rattle.std.proofs.lemmas.List.Sums.{length-filter, count_by-le-length}
use Rattle.std.proofs.lemmas.List.Splits.{length-slice_split}
use Rattle.std.specs.List.{count_by, slice_split}
use Rattle.ebc_asm.specs.declared.fault.AsmKind.{AsmKind}
use Rattle.ebc_asm.specs.Assembly.{◌>>=◌, byte_number, bytes_of_words, is_break, number_words}

-- bytes, and those after them
abbrev pub rest_of : List ℕ → Result (List ℕ) AsmKind → Result (List ℕ) AsmKind
rest_of bytes reading = reading >>= λ more. Ok (bytes ++ more)

prepended : (done : List ℕ) (b : ℕ) (reading : Result (List ℕ) AsmKind) → rest_of done (reading >>= λ bs. Ok (b ∷ bs)) ≡ rest_of (done ++ b ∷ []) reading
prepended done b (Ok bs) = ap Ok (sym (append_assoc done (b ∷ []) bs))
prepended done b (Err refusal) = refl

-- one more number, and one that is refused
pub number-reading : (done word : List ℕ) (words : List (List ℕ)) (b : ℕ) → byte_number word ≡ Ok b → rest_of done (bytes_of_words (word ∷ words)) ≡ rest_of (done ++ b ∷ []) (bytes_of_words words)
number-reading done word words b reading =
    ap (λ r. rest_of done (r >>= λ b. bytes_of_words words >>= λ bs. Ok (b ∷ bs))) reading ∙ prepended done b (bytes_of_words words)

pub number-refused : (done word : List ℕ) (words : List (List ℕ)) (refusal : AsmKind) → byte_number word ≡ Err refusal → rest_of done (bytes_of_words (word ∷ words)) ≡ Err refusal
number-refused done word words refusal reading =
    ap (λ r. rest_of done (r >>= λ b. bytes_of_words words >>= λ bs. Ok (b ∷ bs))) reading

pub number-last : (done : List ℕ) → rest_of done (bytes_of_words []) ≡ Ok done
number-last done = ap Ok (append-nil done)

pub words-split : (words : List (Bor (List ℕ))) (word : Bor (List ℕ)) (i : ℕ) → i < length words → word ≡ get_or words i word → map (λ w. w.now) (drop i words) ≡ word.now ∷ map (λ w. w.now) (drop (i + 1) words)
words-split words word i lt e =
    let split : drop i words ≡ word ∷ drop (i + 1) words = rw add-one (drop-cons words i word lt ∙ ap (λ w. w ∷ drop (suc i) words) (sym e)) in
    ap (map (λ w. w.now)) split

pub ruleset number_steps = (number-reading, number-refused, number-last, words-split)

-- there is at most one more word than there are bytes
pub number_words-few : (text : List ℕ) → length (number_words text) ≤ length text + 1
number_words-few text =
    let parts : length (slice_split is_break text) ≡ count_by is_break text + 1 = length-slice_split is_break text in
    let some : length (number_words text) ≡ count_by (λ word. nat_lt 0 (length word)) (slice_split is_break text) = length-filter _ (slice_split is_break text) in
    let few : count_by (λ word. nat_lt 0 (length word)) (slice_split is_break text) ≤ length (slice_split is_break text) = count_by-le-length _ _ in
    let breaks : count_by is_break text ≤ length text = count_by-le-length _ _ in
    omega (arith, parts, some, few, breaks)

pub words-few : (text : List ℕ) (words : List (Bor (List ℕ))) → map (λ word. word.now) words ≡ number_words text → length words ≤ length text + 1
words-few text words e =
    let same : length (map (λ word. word.now) words) ≡ length words = length-map _ _ in
    let few : length (number_words text) ≤ length text + 1 = number_words-few text in
    let over : length (map (λ word. word.now) words) ≡ length (number_words text) = ap length e in
    omega (arith, same, few, over)

pub ruleset few_words = (words-few)
