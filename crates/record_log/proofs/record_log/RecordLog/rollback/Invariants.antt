use Rattle.std.proofs.Common.{◌≡◌, length}
use Rattle.record_rows.specs.Inside.{rows_of}
use Rattle.record_log.specs.MarkedRecords.{newest_of}
use Rattle.record_log.specs.SoundRows.{AllTallied, AreSoundRows, IsSoundRows}
use Rattle.record_log.specs.TakingBack.{AllKnown, rows_at, table_of, tables_at}
use Rattle.record_log.proofs.RecordMarks.{count_left, newest_rows}
use Rattle.record_log.proofs.record_log.RecordLog.rollback.Given as goal

-- what the marks keep stays
abbrev pub invariant-back : goal.invariant-back
invariant-back l = record {
  marks : tables_at l.self-inside.limit l.self-inside.log.marks (rows_of l.self-inside.rows) ≡ l.fn.self.marks;
  known : AllKnown l.self-inside.log.marks l.self-inside.rows;
  carried : AllTallied l.self-inside.log.marks (rows_of l.self-inside.rows);
  at_marks : AreSoundRows l.self-inside.limit (rows_at l.self-inside.log.marks (rows_of l.self-inside.rows));
  newest : l.mark ≡ length l.fn.self.marks;
  limit : l.self-inside.limit ≡ l.fn.self.now.limit;
  now : table_of l.self-inside.limit (newest_rows (rows_at l.self-inside.log.marks (rows_of l.self-inside.rows)) (rows_of l.self-inside.rows)) ≡ newest_of l.fn.self.marks l.fn.self.now;
  sound : IsSoundRows l.self-inside.limit (newest_rows (rows_at l.self-inside.log.marks (rows_of l.self-inside.rows)) (rows_of l.self-inside.rows));
}

abbrev pub decreases-back : goal.decreases-back
decreases-back l = count_left l.self-inside.log.marks
