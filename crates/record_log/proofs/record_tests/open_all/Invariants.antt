use Rattle.std.proofs.Common.{◌≡◌}
use Rattle.record_log.proofs.record_tests.open_all.Given as goal

-- the marks stay
abbrev pub invariant-opens : goal.invariant-opens
invariant-opens g l = l.records.marks ≡ l.initial.records.marks
