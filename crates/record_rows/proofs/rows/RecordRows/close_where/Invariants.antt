use Rattle.std.proofs.Common.{◌≡◌, ◌++◌, drop, take}
use Rattle.record_rows.specs.Asking.{closed_where}
use Rattle.record_rows.proofs.rows.RecordRows.close_where.Given as goal

-- of the rows before this one, those that pass are closed
abbrev pub invariant-loop-place : goal.invariant-loop-place
invariant-loop-place g l =
    let before = l.initial.self in
    l.self ≡ record before { lines = closed_where (g.T.Test.chosen l.test) (take l.place before.lines) ++ drop l.place before.lines }
