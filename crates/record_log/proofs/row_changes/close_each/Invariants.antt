use Rattle.std.proofs.Common.{◌≡◌, true, drop}
use Rattle.record_rows.specs.Inside.{Kept, rows_of}
use Rattle.record_log.specs.Tallies.{IsTallied}
use Rattle.record_log.specs.TakingBack.{closed_each}
use Rattle.record_log.proofs.row_changes.close_each.Given as goal

-- the rows so far, with those at the places that are left, are the whole
abbrev pub invariant-loop-place : goal.invariant-loop-place
invariant-loop-place l = record {
  rows : ◌≡◌ {A = Kept} (record l.rows { lines = closed_each (drop l.place-index l.places) true l.rows.lines }) (record l.initial.rows { lines = closed_each l.places true l.initial.rows.lines });
  tallied : IsTallied l.tally (rows_of l.rows);
}
