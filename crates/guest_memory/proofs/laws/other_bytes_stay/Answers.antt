use Rattle.guest_memory.proofs.ReadingLemmas.{other_numbers_stay, other_bytes_stay}
use Rattle.guest_memory.proofs.laws.other_bytes_stay.Goals as goal

pub returns-clause-number : goal.returns-clause-number
returns-clause-number c = other_numbers_stay

pub returns-clause-bytes : goal.returns-clause-bytes
returns-clause-bytes c = other_bytes_stay
