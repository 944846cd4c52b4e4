use Rattle.guest_memory.proofs.ReadingLemmas.{number_reads_back, bytes_read_back}
use Rattle.guest_memory.proofs.laws.writes_read_back.Goals as goal

pub returns-clause-number : goal.returns-clause-number
returns-clause-number c = number_reads_back

pub returns-clause-bytes : goal.returns-clause-bytes
returns-clause-bytes c = bytes_read_back
