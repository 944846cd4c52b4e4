use Rattle.std.proofs.Common.{◌≡◌, ◌++◌, map, drop}
use Rattle.record_rows.specs.Inside.{rows_of}
use Rattle.record_rows.specs.Rows.{RowsView, shown_from}
use Rattle.record_log.specs.SoundRows.{fresh_of, open_line}
use Rattle.record_log.proofs.fresh_rows.fresh_rows.Given as goal

-- the rows so far, with those of the places that are left, are all
abbrev pub invariant-loop-place : goal.invariant-loop-place
invariant-loop-place l =
    ◌≡◌ {A = RowsView} (record (rows_of l.fresh) { lines = l.fresh.lines ++ map open_line (shown_from l.place (rows_of l.rows).cuts (drop l.place l.rows.lines)) }) (fresh_of (rows_of l.rows))
