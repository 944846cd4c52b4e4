use Rattle.ebc_decode.proofs.SpellingLemmas.{spelling-decoding}
use Rattle.ebc_decode.proofs.laws.spelling_decodes.Goals as goal

pub returns : goal.returns
returns c instr form rest listed fits = spelling-decoding instr form rest listed fits
