use Rattle.std.proofs.Common.{◌&&◌, Some, ap, ◌∙◌}
use Rattle.fw_types.specs.declared.attr.TheConstants.Attr.{ALL_BITS}
use Rattle.open_records.specs.Records.{is_meant}
use Rattle.open_records.specs.Keyed.{is_of}
use Rattle.open_records.specs.declared.open_record.KeyedRecord.{KeyedRecord}
use Rattle.record_log.specs.MarkedRecords.{MarkedRecords}
use Rattle.record_log.specs.SoundRows.{without}
use Rattle.record_log.proofs.RecordMarks.{inside_noted, tables_noted}
use Rattle.record_log.proofs.record_log.RecordLog.leave.Goals as goal

pub places_left-requires : goal.places_left-requires
places_left-requires c = (c.self.inside.limit, c.self.invariant.now)

pub close_rows-change-requires : goal.close_rows-change-requires
close_rows-change-requires c = c.self.invariant.tallied

pub invariant_of-self-2 : goal.invariant_of-self-2
invariant_of-self-2 c =
    let inside = c.self.inside in
    let test = λ (one : KeyedRecord). is_of c.args.handle c.args.guid one && is_meant (Some c.args.agent) (Some c.args.controller) ALL_BITS one.rec in
    let is = c.close_rows-change.ensures.change inside.limit test c.self.invariant.now c.in_ok-places.ensures in
    rw (c.note.ensures, c.reserve.ensures.marks) (inside_noted inside.limit inside.rows c.close_rows-change.new.rows inside.log.marks c.close_rows-change.result (without test) is inside.tally c.close_rows-change.new.tally c.close_rows-change.ensures.tally c.self.invariant)

pub returns-clause-marks : goal.returns-clause-marks
returns-clause-marks c =
    let inside = c.self.inside in
    let test = λ (one : KeyedRecord). is_of c.args.handle c.args.guid one && is_meant (Some c.args.agent) (Some c.args.controller) ALL_BITS one.rec in
    let is = c.close_rows-change.ensures.change inside.limit test c.self.invariant.now c.in_ok-places.ensures in
    rw (c.note.ensures, c.reserve.ensures.marks) (tables_noted inside.limit inside.rows c.close_rows-change.new.rows inside.log.marks c.close_rows-change.result (without test) is)
    ∙ ap (λ (v : MarkedRecords). v.marks) c.self.view_is

pub returns-clause-now : goal.returns-clause-now
returns-clause-now c =
    let inside = c.self.inside in
    let test = λ (one : KeyedRecord). is_of c.args.handle c.args.guid one && is_meant (Some c.args.agent) (Some c.args.controller) ALL_BITS one.rec in
    let is = c.close_rows-change.ensures.change inside.limit test c.self.invariant.now c.in_ok-places.ensures in
    is.table ∙ ap (λ (v : MarkedRecords). without test v.now) c.self.view_is
