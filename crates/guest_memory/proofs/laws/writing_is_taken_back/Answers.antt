use Rattle.guest_memory.proofs.TakingBackLemmas.{put_takes_back_put, put_takes_back_written}
use Rattle.guest_memory.proofs.laws.writing_is_taken_back.Goals as goal

pub returns : goal.returns
returns c = record { put = put_takes_back_put; written = put_takes_back_written }
