use Rattle.std.proofs.Common.{◌≡◌, filter, take}
use Rattle.record_rows.specs.Asking.{counts_at}
use Rattle.record_rows.specs.Inside.{rows_of}
use Rattle.record_rows.proofs.rows.RecordRows.counting.Given as goal

abbrev pub invariant-loop-place : goal.invariant-loop-place
invariant-loop-place l = l.found.items ≡ filter (counts_at (rows_of l.self)) (take l.place-index l.places)
