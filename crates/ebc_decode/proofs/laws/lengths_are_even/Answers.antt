use Rattle.ebc_decode.proofs.SpellingLemmas.{decoding-even}
use Rattle.ebc_decode.proofs.laws.lengths_are_even.Goals as goal

pub returns : goal.returns
returns c = decoding-even
