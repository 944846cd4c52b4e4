use Rattle.ebc_decode.proofs.SpellingLemmas.{instruction-spelled, instruction-spells}
use Rattle.ebc_decode.proofs.laws.instructions_are_spelled.Goals as goal

pub returns-clause-from_bytes : goal.returns-clause-from_bytes
returns-clause-from_bytes c = instruction-spelled

pub returns-clause-to_bytes : goal.returns-clause-to_bytes
returns-clause-to_bytes c = instruction-spells
