use Rattle.std.proofs.Common.{◌≡◌, ◌<◌, ℕ, List, ◌∷◌, length, ap, sym, subst, ◌∙◌}
use Rattle.fw_types.specs.declared.limits.TheConstants.{MOST_MARKS}
use Rattle.open_records.specs.OpenRecords.{RecordTable}
use Rattle.record_rows.specs.Inside.{rows_of}
use Rattle.record_log.specs.MarkedRecords.{MarkedRecords}
use Rattle.record_log.specs.TakingBack.{table_of, tables_at}
use Rattle.record_log.specs.declared.record_change.RecordChange.{RecordChange}
use Rattle.record_log.specs.declared.tally.Tally.{Tally}
use Rattle.record_log.proofs.RecordMarks.{inside_marked, length-tables_at, tables_marked}
use Rattle.undo_log.specs.Log.{LogView, marked}
use Rattle.record_log.proofs.record_log.RecordLog.mark.Goals as goal

pub mark-requires : goal.mark-requires
mark-requires c =
    let inside = c.self.inside in
    let count : length c.args.self.now.marks ≡ length inside.log.marks = ap (λ (v : MarkedRecords). length v.marks) (sym c.self.view_is) ∙ length-tables_at inside.limit inside.log.marks (rows_of inside.rows) in
    subst (λ (n : ℕ). n < MOST_MARKS) count c.requires

pub invariant_of-self : goal.invariant_of-self
invariant_of-self c =
    let inside = c.self.inside in
    let marks_are : c.mark.new.self.marks ≡ marked inside.tally inside.log.marks = ap (λ (log : LogView RecordChange Tally). log.marks) c.mark.ensures.now in
    rw marks_are (inside_marked inside.limit inside.tally inside.rows inside.log.marks c.self.invariant)

pub returns-clause-mark : goal.returns-clause-mark
returns-clause-mark c = c.mark.ensures.mark ∙ sym (length-tables_at c.self.inside.limit c.mark.new.self.marks (rows_of c.self.inside.rows))

pub returns-clause-now : goal.returns-clause-now
returns-clause-now c =
    let inside = c.self.inside in
    let rows = rows_of inside.rows in
    let marks_are : c.mark.new.self.marks ≡ marked inside.tally inside.log.marks = ap (λ (log : LogView RecordChange Tally). log.marks) c.mark.ensures.now in
    let kept : tables_at inside.limit c.mark.new.self.marks rows ≡ table_of inside.limit rows ∷ tables_at inside.limit inside.log.marks rows = rw marks_are (tables_marked inside.limit inside.tally inside.log.marks rows) in
    ap (λ (marks : List RecordTable). record { now = table_of inside.limit rows; marks = marks }) kept ∙ ap (λ (v : MarkedRecords). record v { marks = v.now ∷ v.marks }) c.self.view_is
