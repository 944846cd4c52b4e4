use Rattle.std.proofs.Common.{None, ap, ◌∙◌}
use Rattle.fw_types.specs.declared.attr.TheConstants.Attr.{WEAK_BITS}
use Rattle.open_records.specs.Records.{is_meant}
use Rattle.open_records.specs.Leaving.{cut}
use Rattle.record_log.specs.MarkedRecords.{MarkedRecords}
use Rattle.record_log.proofs.RecordMarks.{inside_noted, tables_noted}
use Rattle.record_log.proofs.record_log.RecordLog.drop_weak.Goals as goal

pub cut_weak-change-requires : goal.cut_weak-change-requires
cut_weak-change-requires c = c.self.invariant.tallied

pub invariant_of-self-2 : goal.invariant_of-self-2
invariant_of-self-2 c =
    let inside = c.self.inside in
    let is = c.cut_weak-change.ensures.change inside.limit c.self.invariant.now in
    rw (c.note.ensures, c.reserve.ensures.marks) (inside_noted inside.limit inside.rows c.cut_weak-change.new.rows inside.log.marks c.cut_weak-change.result (cut c.args.handle c.args.guid (is_meant None None WEAK_BITS)) is inside.tally c.cut_weak-change.new.tally c.cut_weak-change.ensures.tally c.self.invariant)

pub returns-clause-marks : goal.returns-clause-marks
returns-clause-marks c =
    let inside = c.self.inside in
    let is = c.cut_weak-change.ensures.change inside.limit c.self.invariant.now in
    rw (c.note.ensures, c.reserve.ensures.marks) (tables_noted inside.limit inside.rows c.cut_weak-change.new.rows inside.log.marks c.cut_weak-change.result (cut c.args.handle c.args.guid (is_meant None None WEAK_BITS)) is)
    ∙ ap (λ (v : MarkedRecords). v.marks) c.self.view_is
