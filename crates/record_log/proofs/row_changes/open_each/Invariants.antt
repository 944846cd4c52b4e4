use Rattle.std.proofs.Common.{◌≡◌, false, drop}
use Rattle.record_rows.specs.Inside.{Kept}
use Rattle.record_log.specs.TakingBack.{closed_each}
use Rattle.record_log.proofs.row_changes.open_each.Given as goal

-- the rows so far, with those at the places that are left, are the whole
abbrev pub invariant-loop-place : goal.invariant-loop-place
invariant-loop-place l =
    ◌≡◌ {A = Kept} (record l.rows { lines = closed_each (drop l.place-index l.places) false l.rows.lines }) (record l.initial.rows { lines = closed_each l.places false l.initial.rows.lines })
