use Rattle.std.proofs.Common.{◌≡◌, ◌∙◌, ℕ, List, ap, sym}
use Rattle.std.specs.Prelude.{Option}
use Rattle.script_text.specs.declared.script.Item.{Item}
use Rattle.script_text.specs.Forms.{line_words}
use Rattle.script_text.specs.ScriptGrammar.{first_kind, item_of, tests_after, tests_alone}
use Rattle.script_text.proofs.ScriptLemmas.{line_of-after, line_of-alone}
use Rattle.script_text.proofs.read.read_line.Goals as goal

pub returns-in-Some : goal.returns-in-Some
returns-in-Some c =
    let number = c.args.number in
    let line = c.args.line.now in
    let words : c.in_ok-words.words ≡ line_words line = c.in_ok-words.ensures in
    line_of-alone number c.args.before.now line c.in-Some.kind
    (ap (λ (ws : List (List ℕ)). first_kind (tests_alone number line ws)) (sym words) ∙ sym c.refusal_alone.ensures ∙ c.in-Some.is)

pub returns-in-Some-refusal_after : goal.returns-in-Some-refusal_after
returns-in-Some-refusal_after c =
    let number = c.args.number in
    let line = c.args.line.now in
    let before = c.args.before.now in
    let words : c.in_ok-words.words ≡ line_words line = c.in_ok-words.ensures in
    let given : c.in_ok-item.item ≡ item_of c.in_ok-words.words = c.in_ok-item.ensures in
    line_of-after number before line c.in-Some-refusal_after.kind
    (ap (λ (ws : List (List ℕ)). first_kind (tests_alone number line ws)) (sym words) ∙ sym c.refusal_alone.ensures ∙ c.in_default.is)
    (ap (λ (ws : List (List ℕ)). first_kind (tests_after before ws (item_of ws))) (sym words)
    ∙ ap (λ (found : Option Item). first_kind (tests_after before c.in_ok-words.words found)) (sym given) ∙ sym c.refusal_after.ensures ∙ c.in-Some-refusal_after.is)
