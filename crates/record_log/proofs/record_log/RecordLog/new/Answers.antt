use Rattle.std.proofs.Common.{true, refl, arith, ◌≡◌, List, [], ◌∙◌, ap}
use Rattle.open_records.specs.OpenRecords.{RecordTable}
use Rattle.record_rows.specs.Inside.{Kept, rows_of}
use Rattle.record_log.specs.MarkedRecords.{MarkedRecords}
use Rattle.record_log.specs.TakingBack.{table_of, tables_at}
use Rattle.record_log.proofs.RecordMarks.{inside_none, tables_none}
use Rattle.record_log.proofs.SoundLemmas.{no_rows_sound}
use Rattle.record_log.proofs.record_log.RecordLog.new.Goals as goal

pub invariant_of-result : goal.invariant_of-result
invariant_of-result c = rw c.new-2.ensures (inside_none c.args.limit (record { most = 0; exact = true }) (record { lines = []; names = []; classes = [] }) c.in_ok-log.log.marks c.in_ok-log.ensures (no_rows_sound c.args.limit) (record { most = omega arith; exact = λ exact. refl }))

pub returns : goal.returns
returns c =
    let marks = c.in_ok-log.log.marks in
    let empty : Kept = record { lines = []; names = []; classes = [] } in
    let now : ◌≡◌ {A = MarkedRecords} (record { now = table_of c.args.limit (rows_of c.new-2.result); marks = tables_at c.args.limit marks (rows_of c.new-2.result) }) (record { now = table_of c.args.limit (rows_of empty); marks = tables_at c.args.limit marks (rows_of empty) }) =
    ap (λ (kept : Kept). record { now = table_of c.args.limit (rows_of kept); marks = tables_at c.args.limit marks (rows_of kept) }) c.new-2.ensures in
    now ∙ ap (λ (kept : List RecordTable). record { now = table_of c.args.limit (rows_of empty); marks = kept }) (tables_none c.args.limit marks (rows_of empty) c.in_ok-log.ensures)
