use Rattle.std.proofs.Common.{sym, ◌∙◌}
use Rattle.open_records.specs.Records.{is_asked}
use Rattle.record_rows.specs.Inside.{rows_of}
use Rattle.record_log.proofs.LastCounting.{any_on}
use Rattle.record_log.proofs.row_asking.has_of_any.Goals as goal

pub returns : goal.returns
returns c = c.any.ensures ∙ sym (any_on (rows_of c.args.rows.now) c.args.handle c.args.guid (is_asked c.args.meant.now))
