use Rattle.std.proofs.Common.{◌≡◌, []}
use Rattle.record_log.proofs.record_tests.many_come_back_in.Given as goal

-- no mark is open
abbrev pub invariant-turns : goal.invariant-turns
invariant-turns g l = l.records.marks ≡ []
