use Rattle.record_rows.specs.Inside.{rows_of}
use Rattle.record_log.proofs.RecordMarks.{inside_none, tables_none}
use Rattle.record_log.proofs.record_log.RecordLog.clear.Goals as goal

pub invariant_of-self : goal.invariant_of-self
invariant_of-self c = inside_none c.self.inside.limit c.self.inside.tally c.self.inside.rows c.clear.new.self.marks c.clear.ensures c.self.invariant.now c.self.invariant.tallied

pub returns-clause-marks : goal.returns-clause-marks
returns-clause-marks c = tables_none c.self.inside.limit c.clear.new.self.marks (rows_of c.self.inside.rows) c.clear.ensures
