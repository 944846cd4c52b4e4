use Rattle.guest_memory.proofs.MappingLemmas.{unmapped_takes_back_mapped, mapped_begins_there, mapped_takes_back_unmapped}
use Rattle.guest_memory.proofs.laws.mapping_is_taken_back.Goals as goal

pub returns-clause-rest : goal.returns-clause-rest
returns-clause-rest c = unmapped_takes_back_mapped

pub returns-clause-segment : goal.returns-clause-segment
returns-clause-segment c = mapped_begins_there

pub returns-clause-unmapped : goal.returns-clause-unmapped
returns-clause-unmapped c = mapped_takes_back_unmapped
