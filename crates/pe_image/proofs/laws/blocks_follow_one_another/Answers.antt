use Rattle.pe_image.proofs.BlockLemmas.{blocks_of-cons}
use Rattle.pe_image.proofs.laws.blocks_follow_one_another.Goals as goal

pub returns : goal.returns
returns c = blocks_of-cons
