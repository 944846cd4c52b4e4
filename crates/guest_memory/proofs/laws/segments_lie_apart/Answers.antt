use Rattle.guest_memory.proofs.OrderLemmas.{no_two_meet, one_has_a_byte}
use Rattle.guest_memory.proofs.laws.segments_lie_apart.Goals as goal

pub returns-clause-meet : goal.returns-clause-meet
returns-clause-meet c = no_two_meet

pub returns-clause-one : goal.returns-clause-one
returns-clause-one c = one_has_a_byte
