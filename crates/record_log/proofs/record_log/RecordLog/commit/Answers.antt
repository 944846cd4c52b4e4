use Rattle.std.proofs.Common.{length, ap, sym, ◌∙◌}
use Rattle.record_rows.specs.Inside.{rows_of}
use Rattle.record_log.specs.MarkedRecords.{MarkedRecords, older_marks}
use Rattle.record_log.proofs.RecordMarks.{inside_committed, length-tables_at, tables_committed}
use Rattle.record_log.proofs.record_log.RecordLog.commit.Goals as goal

pub commit-requires : goal.commit-requires
commit-requires c =
    let inside = c.self.inside in
    record { newest = c.requires.newest ∙ ap (λ (v : MarkedRecords). length v.marks) (sym c.self.view_is) ∙ length-tables_at inside.limit inside.log.marks (rows_of inside.rows) }

pub invariant_of-self : goal.invariant_of-self
invariant_of-self c = rw c.commit.ensures (inside_committed c.self.inside.limit c.self.inside.tally c.self.inside.rows c.self.inside.log.marks c.self.invariant)

pub returns-clause-marks : goal.returns-clause-marks
returns-clause-marks c =
    let inside = c.self.inside in
    rw c.commit.ensures (tables_committed inside.limit inside.log.marks (rows_of inside.rows)) ∙ ap (λ (v : MarkedRecords). older_marks v.marks) c.self.view_is
