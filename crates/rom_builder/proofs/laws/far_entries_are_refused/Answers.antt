use Rattle.rom_builder.proofs.CodeLemmas.{far_entry}
use Rattle.rom_builder.proofs.laws.far_entries_are_refused.Goals as goal

pub returns : goal.returns
returns c = far_entry
