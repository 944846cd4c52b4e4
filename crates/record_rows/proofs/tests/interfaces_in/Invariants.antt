use Rattle.record_rows.proofs.tests.interfaces_in.Given as goal

-- nothing has to be known of the rows
abbrev pub invariant-ways : goal.invariant-ways
invariant-ways g l = Unit {0}
