use Rattle.std.proofs.Common.{◌+◌, ◌*◌}
use Rattle.service_rows.proofs.many.+pairs.Given as goal

-- the first of the two functions calls the second with one less, and the second calls the first with the same number
abbrev pub decreases-pairs_before : goal.decreases-pairs_before
decreases-pairs_before l = 2 * l.most

abbrev pub decreases-pair_before : goal.decreases-pair_before
decreases-pair_before l = 2 * l.less + 1
