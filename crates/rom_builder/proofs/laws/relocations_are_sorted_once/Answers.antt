use Rattle.rom_builder.proofs.SortedOnceLemmas.{has-sorted_once, rise-sorted_once}
use Rattle.rom_builder.proofs.laws.relocations_are_sorted_once.Goals as goal

pub returns-clause-rise : goal.returns-clause-rise
returns-clause-rise c = rise-sorted_once

pub returns-clause-same : goal.returns-clause-same
returns-clause-same c = has-sorted_once
