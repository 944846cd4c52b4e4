-- Both lists are computed.
use Rattle.std.proofs.Common.{refl}
use Rattle.ebc_names.specs.Names.{names}
use Rattle.ebc_names.proofs.laws.names_are_mnemonics.Goals as goal

pub returns : goal.returns
unfolding names
returns c = refl
