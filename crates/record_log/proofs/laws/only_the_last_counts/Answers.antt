use Rattle.record_log.proofs.LastCounting.{last_is_chosen}
use Rattle.record_log.proofs.laws.only_the_last_counts.Goals as goal

pub returns : goal.returns
returns c test rows excludes older = last_is_chosen test rows excludes older
