use Rattle.std.proofs.Common.{◌≡◌}
use Rattle.record_log.proofs.tests.open_all.Given as goal

-- the marks stay
abbrev pub invariant-loop-asked : goal.invariant-loop-asked
invariant-loop-asked g l = l.log.marks ≡ l.initial.log.marks
