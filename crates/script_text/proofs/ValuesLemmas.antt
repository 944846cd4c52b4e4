-- The handles from a place on: the one at the place and those after it.
use Rattle.std.proofs.Common.{◌≡◌, ℕ, ◌+◌, ◌<◌, ◌≤◌, List, [], ◌∷◌, length, drop, refl, arith}
use Rattle.std.proofs.lemmas.Grind.{common_steps}
use Rattle.script_text.specs.ScriptGrammar.{handle_at, handles_from}
use Rattle.script_text.proofs.ArgumentsLemmas.{words-split}

pub handles_from-more : (words : List (List ℕ)) (i : ℕ) → i < length words → handles_from words i ≡ handle_at words i ∷ handles_from words (i + 1)
handles_from-more words i lt = rw (words-split words i lt) refl

pub handles_from-end : (words : List (List ℕ)) (i : ℕ) → length words ≤ i → handles_from words i ≡ []
handles_from-end words i le =
    let gone : drop i words ≡ [] = grind (arith, common_steps) in
    rw gone refl

pub ruleset handles_steps = (handles_from-more, handles_from-end)
