use Rattle.std.proofs.Common.{◌≡◌, []}
use Rattle.record_log.proofs.record_tests.leaving_in.Given as goal

-- no mark is open
abbrev pub invariant-ways : goal.invariant-ways
invariant-ways g l = l.records.marks ≡ []
