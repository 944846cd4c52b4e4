use Rattle.std.proofs.Common.{sym, ◌∙◌}
use Rattle.record_rows.specs.Inside.{rows_of}
use Rattle.record_log.proofs.TallyLemmas.{less_tallied, still_tallied}
use Rattle.record_log.proofs.row_changes.close_row.Goals as goal

pub returns-then-counts-clause-tally : goal.returns-then-counts-clause-tally
returns-then-counts-clause-tally c =
    rw (c.saturating_sub-tally.ensures, c.set_closed.ensures) (less_tallied c.args.tally.now (rows_of c.args.rows.now) c.args.place (sym c.counts-counts.ensures ∙ c.if-counts.true) c.requires)

pub returns-else-counts-clause-tally : goal.returns-else-counts-clause-tally
returns-else-counts-clause-tally c =
    rw c.set_closed.ensures (still_tallied c.args.tally.now (rows_of c.args.rows.now) c.args.place (sym c.counts-counts.ensures ∙ c.if-counts.false) c.requires)
