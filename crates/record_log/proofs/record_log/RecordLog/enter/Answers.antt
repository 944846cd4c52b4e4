use Rattle.std.proofs.Common.{ap, ◌∙◌}
use Rattle.open_records.specs.Adding.{added}
use Rattle.record_log.specs.MarkedRecords.{MarkedRecords}
use Rattle.record_log.proofs.RecordMarks.{inside_noted, inside_same, tables_noted}
use Rattle.record_log.proofs.record_log.RecordLog.enter.Goals as goal

pub invariant_of-self-in_err-change : goal.invariant_of-self-in_err-change
invariant_of-self-in_err-change c =
    let inside = c.self.inside in
    rw c.reserve.ensures.marks (inside_same inside.limit inside.tally c.enter_row.new.tally inside.rows c.enter_row.new.rows inside.log.marks c.in_err-change.ensures.err c.enter_row.ensures.keys c.enter_row.ensures.tally c.self.invariant)

pub invariant_of-self-2 : goal.invariant_of-self-2
invariant_of-self-2 c =
    let inside = c.self.inside in
    let into = added c.args.handle c.args.guid c.args.agent c.args.controller c.args.attr in
    rw (c.note.ensures, c.reserve.ensures.marks) (inside_noted inside.limit inside.rows c.enter_row.new.rows inside.log.marks c.in_ok-change.change into c.in_ok-change.ensures.ok inside.tally c.enter_row.new.tally c.enter_row.ensures.tally c.self.invariant)

pub returns-clause-marks : goal.returns-clause-marks
returns-clause-marks c =
    let inside = c.self.inside in
    let into = added c.args.handle c.args.guid c.args.agent c.args.controller c.args.attr in
    rw (c.note.ensures, c.reserve.ensures.marks) (tables_noted inside.limit inside.rows c.enter_row.new.rows inside.log.marks c.in_ok-change.change into c.in_ok-change.ensures.ok)
    ∙ ap (λ (v : MarkedRecords). v.marks) c.self.view_is
