use Rattle.std.proofs.Common.{◌&&◌, not, nat_eq, Some, None}
use Rattle.fw_types.specs.declared.attr.TheConstants.Attr.{ALL_BITS}
use Rattle.open_records.specs.Leaving.{is_meant}
use Rattle.open_records.specs.declared.open_record.KeyedRecord.{KeyedRecord}
use Rattle.soft_log.proofs.Merged.{fewer_inside}
use Rattle.soft_log.proofs.soft_log.SoftLog.leave_all.Goals as goal

pub invariant_of-self : goal.invariant_of-self
invariant_of-self c =
    let inside = c.self.inside in
    fewer_inside c.leave_all.result (λ (one : KeyedRecord). not (nat_eq one.handle c.args.handle && is_meant (Some c.args.agent) None ALL_BITS one.rec)) inside.soft inside.log.marks inside.records c.leave_all.new.self c.self.invariant c.leave_all.ensures.marks c.leave_all.ensures.now c.leave_all.ensures.err
