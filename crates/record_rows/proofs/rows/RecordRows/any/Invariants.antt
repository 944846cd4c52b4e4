use Rattle.std.proofs.Common.{◌≡◌, drop}
use Rattle.std.specs.List.{list_any}
use Rattle.record_rows.specs.Inside.{rows_of}
use Rattle.record_rows.specs.Rows.{shown, shown_from}
use Rattle.record_rows.proofs.rows.RecordRows.any.Given as goal

-- whether one passes is whether one of the rest passes
abbrev pub invariant-loop-place : goal.invariant-loop-place
invariant-loop-place g l =
    let rows = rows_of l.self in
    list_any (g.T.Test.chosen l.test) (shown_from l.place rows.cuts (drop l.place rows.lines)) ≡ list_any (g.T.Test.chosen l.test) (shown rows)
