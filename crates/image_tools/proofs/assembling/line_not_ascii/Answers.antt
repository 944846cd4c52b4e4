use Rattle.std.proofs.Common.{◌≡◌, [], drop, ap, ◌∙◌, arith}
use Rattle.std.proofs.lemmas.Grind.{common_steps}
use Rattle.image_tools.specs.Tools.{line_not_ascii}
use Rattle.image_tools.proofs.TextLemmas.{all-listing}
use Rattle.image_tools.proofs.assembling.line_not_ascii.Goals as goal

-- no line is refused
pub returns-clause-none : goal.returns-clause-none
returns-clause-none c =
    let text = c.args.text.now in
    let gone : drop c.loop-byte.byte-index text ≡ [] = grind (arith, common_steps) in
    all-listing 1 text (c.loop-byte.invariant.rest ∙ ap (line_not_ascii c.loop-byte.number) gone)
