use Rattle.std.proofs.Common.{◌&&◌, not, Some}
use Rattle.fw_types.specs.declared.attr.TheConstants.Attr.{ALL_BITS}
use Rattle.open_records.specs.Leaving.{is_meant}
use Rattle.open_records.specs.OpenRecords.{is_of}
use Rattle.open_records.specs.declared.open_record.KeyedRecord.{KeyedRecord}
use Rattle.soft_log.proofs.Merged.{fewer_inside}
use Rattle.soft_log.proofs.soft_log.SoftLog.leave.Goals as goal

pub invariant_of-self : goal.invariant_of-self
invariant_of-self c =
    let inside = c.self.inside in
    fewer_inside c.leave.result (λ (one : KeyedRecord). not (is_of c.args.handle c.args.guid one && is_meant (Some c.args.agent) (Some c.args.controller) ALL_BITS one.rec)) inside.soft inside.log.marks inside.records c.leave.new.self c.self.invariant c.leave.ensures.marks c.leave.ensures.now c.leave.ensures.err
