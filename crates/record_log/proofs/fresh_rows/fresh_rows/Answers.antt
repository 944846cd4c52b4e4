use Rattle.std.proofs.Common.{◌++◌, map, drop, ap, arith}
use Rattle.std.proofs.lemmas.List.{drop_all}
use Rattle.record_rows.specs.Inside.{Kept, rows_of}
use Rattle.record_rows.specs.Rows.{shown_from}
use Rattle.record_log.specs.SoundRows.{open_line}
use Rattle.record_log.proofs.Fresh.{copied_all, copied_on}
use Rattle.record_log.proofs.fresh_rows.fresh_rows.Goals as goal

pub loop-place-init : goal.loop-place-init
loop-place-init c =
    let rows = rows_of c.args.rows.now in
    ap (λ (kept : Kept). record (rows_of kept) { lines = kept.lines ++ map open_line (shown_from 0 rows.cuts (drop 0 rows.lines)) }) c.new-fresh.ensures

pub loop-place-preserved : goal.loop-place-preserved
loop-place-preserved c =
    copied_on (rows_of c.args.rows.now) (rows_of c.loop-place.fresh) (rows_of c.copy_row.new.fresh) c.loop-place.place (omega (arith, c.loop-place-test.true, c.len-place-end.ensures)) c.in_ok-copy_row.ensures c.loop-place.invariant

pub returns : goal.returns
returns c =
    copied_all (rows_of c.args.rows.now) (rows_of c.loop-place.fresh) c.loop-place.place (drop_all c.loop-place.place c.args.rows.now.lines (omega (arith, c.loop-place-test.false, c.len-place-end.ensures))) c.loop-place.invariant
