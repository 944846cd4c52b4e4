-- Whether one of the words from a place on is refused: what the word at the place decides.
use Rattle.std.proofs.Common.{◌≡◌, ℕ, zero, suc, ◌+◌, ◌<◌, ◌≤◌, List, [], ◌∷◌, true, false, length, drop, refl, arith, add-one, drop-cons, get_or}
use Rattle.std.proofs.lemmas.Grind.{common_steps}
use Rattle.text_lines.specs.Words.{word_at}
use Rattle.script_text.specs.declared.script.ScriptKind.{ScriptKind}
use Rattle.script_text.specs.Forms.{Form, argument_at, is_refused_at, some_refused}

pub word_at-get : (words : List (List ℕ)) (i : ℕ) → word_at words i ≡ get_or words i []
word_at-get [] i = refl
word_at-get (w ∷ ws) zero = refl
word_at-get (w ∷ ws) (suc i) = word_at-get ws i

-- the words from j on are the word at j and those after it
pub words-split : (words : List (List ℕ)) (j : ℕ) → j < length words → drop j words ≡ word_at words j ∷ drop (j + 1) words
words-split words j lt = rw (word_at-get words j, add-one) (drop-cons words j [] lt)

-- it is refused
pub some_refused-here : (kind : ScriptKind) (form : Form) (i j : ℕ) (words : List (List ℕ)) → j ≡ i + 1 → j < length words → is_refused_at kind (argument_at form i) (word_at words j) ≡ true → some_refused kind form i (drop j words) ≡ true
some_refused-here kind form i j words e lt h = rw (words-split words j lt, h) refl

-- it is not
pub some_refused-later : (kind : ScriptKind) (form : Form) (i j : ℕ) (words : List (List ℕ)) → j ≡ i + 1 → j < length words → is_refused_at kind (argument_at form i) (word_at words j) ≡ false → some_refused kind form i (drop j words) ≡ some_refused kind form (i + 1) (drop (j + 1) words)
some_refused-later kind form i j words e lt h = rw (words-split words j lt, h) refl

-- there is none
pub some_refused-end : (kind : ScriptKind) (form : Form) (i j : ℕ) (words : List (List ℕ)) → length words ≤ j → some_refused kind form i (drop j words) ≡ false
some_refused-end kind form i j words le =
    let gone : drop j words ≡ [] = grind (arith, common_steps) in
    rw gone refl

pub ruleset arguments_refused = (some_refused-here, some_refused-later, some_refused-end)
