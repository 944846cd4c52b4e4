use Rattle.ebc_decode.proofs.SpellingLemmas.{one-spelling}
use Rattle.ebc_decode.proofs.laws.one_spelling_at_the_front.Goals as goal

pub returns : goal.returns
returns c one two rest more instr other spells spells_too whole = one-spelling one two rest more instr other spells spells_too whole
