use Rattle.std.proofs.Common.{◌&&◌, not, nat_eq, Some}
use Rattle.fw_types.specs.declared.attr.TheConstants.Attr.{BY_CHILD_CONTROLLER}
use Rattle.open_records.specs.Leaving.{is_meant}
use Rattle.open_records.specs.declared.open_record.KeyedRecord.{KeyedRecord}
use Rattle.soft_log.proofs.Merged.{fewer_inside}
use Rattle.soft_log.proofs.soft_log.SoftLog.leave_child.Goals as goal

pub invariant_of-self : goal.invariant_of-self
invariant_of-self c =
    let inside = c.self.inside in
    fewer_inside c.leave_child.result (λ (one : KeyedRecord). not (nat_eq one.handle c.args.handle && is_meant (Some c.args.agent) (Some c.args.child) BY_CHILD_CONTROLLER one.rec)) inside.soft inside.log.marks inside.records c.leave_child.new.self c.self.invariant c.leave_child.ensures.marks c.leave_child.ensures.now c.leave_child.ensures.err
