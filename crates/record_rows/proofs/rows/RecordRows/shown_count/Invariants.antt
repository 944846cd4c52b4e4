use Rattle.std.proofs.Common.{◌≡◌, ◌+◌, ◌≤◌, drop, length}
use Rattle.record_rows.specs.Inside.{rows_of}
use Rattle.record_rows.specs.Rows.{shown, shown_from}
use Rattle.record_rows.proofs.rows.RecordRows.shown_count.Given as goal

-- those that were counted and those of the rest are all
abbrev pub invariant-loop-place : goal.invariant-loop-place
invariant-loop-place l =
    let rows = rows_of l.self in
    (l.count ≤ l.place) × (l.count + length (shown_from l.place rows.cuts (drop l.place rows.lines)) ≡ length (shown rows))
