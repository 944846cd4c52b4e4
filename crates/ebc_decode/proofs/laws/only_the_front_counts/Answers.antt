use Rattle.ebc_decode.proofs.SpellingLemmas.{decoding-front}
use Rattle.ebc_decode.proofs.laws.only_the_front_counts.Goals as goal

pub returns : goal.returns
returns c bytes other instr n is same = decoding-front bytes other instr n is same
