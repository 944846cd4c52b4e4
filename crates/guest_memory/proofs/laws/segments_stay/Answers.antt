use Rattle.guest_memory.proofs.ReadingLemmas.{segments_stay, segments_stay_as_bytes_are_put}
use Rattle.guest_memory.proofs.laws.segments_stay.Goals as goal

pub returns-clause-number : goal.returns-clause-number
returns-clause-number c = segments_stay

pub returns-clause-bytes : goal.returns-clause-bytes
returns-clause-bytes c = segments_stay_as_bytes_are_put
