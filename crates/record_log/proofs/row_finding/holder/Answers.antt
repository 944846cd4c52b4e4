use Rattle.std.proofs.Common.{sym, ap, ◌∙◌}
use Rattle.open_records.specs.Records.{is_strong}
use Rattle.record_rows.specs.Inside.{rows_of}
use Rattle.record_log.proofs.LastCounting.{find_last, rec_at, strong_excludes}
use Rattle.record_log.proofs.row_finding.holder.Goals as goal

pub returns-in-None : goal.returns-in-None
returns-in-None c =
    let rows = rows_of c.args.rows.now in
    ap (rec_at rows) (sym c.in-None.is ∙ c.holder_place.ensures) ∙ sym (find_last rows c.args.handle c.args.guid is_strong (strong_excludes c.args.handle c.args.guid) c.requires.1.older)

pub returns-in-Some : goal.returns-in-Some
returns-in-Some c =
    let rows = rows_of c.args.rows.now in
    c.rec.ensures ∙ ap (rec_at rows) (sym c.in-Some.is ∙ c.holder_place.ensures) ∙ sym (find_last rows c.args.handle c.args.guid is_strong (strong_excludes c.args.handle c.args.guid) c.requires.1.older)
