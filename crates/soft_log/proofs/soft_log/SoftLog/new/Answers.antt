use Rattle.soft_log.proofs.Merged.{opening_inside}
use Rattle.soft_log.proofs.soft_log.SoftLog.new.Goals as goal

pub invariant_of-result : goal.invariant_of-result
invariant_of-result c = opening_inside c.in_ok-soft.soft c.in_ok-log.log.marks c.in_ok-records.records c.in_ok-log.ensures c.in_ok-records.ensures
