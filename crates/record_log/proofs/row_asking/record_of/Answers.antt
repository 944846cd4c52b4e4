use Rattle.std.proofs.Common.{sym, ap, ◌∙◌}
use Rattle.open_records.specs.Records.{is_equal}
use Rattle.record_rows.specs.Inside.{rows_of}
use Rattle.record_log.proofs.LastCounting.{find_last, open_excludes, rec_at}
use Rattle.record_log.proofs.row_asking.record_of.Goals as goal

pub returns-in-None : goal.returns-in-None
returns-in-None c =
    let rows = rows_of c.args.rows.now in
    let o = c.args.opener in
    ap (rec_at rows) (sym c.in-None.is ∙ c.place_of.ensures) ∙ sym (find_last rows c.args.handle c.args.guid (is_equal o.0 o.1 o.2) (open_excludes c.args.handle c.args.guid o.0 o.1 o.2) c.requires.1.older)

pub returns-in-Some : goal.returns-in-Some
returns-in-Some c =
    let rows = rows_of c.args.rows.now in
    let o = c.args.opener in
    c.rec.ensures ∙ ap (rec_at rows) (sym c.in-Some.is ∙ c.place_of.ensures) ∙ sym (find_last rows c.args.handle c.args.guid (is_equal o.0 o.1 o.2) (open_excludes c.args.handle c.args.guid o.0 o.1 o.2) c.requires.1.older)
