use Rattle.std.proofs.Common.{◌&&◌, not, None}
use Rattle.fw_types.specs.declared.attr.TheConstants.Attr.{WEAK_BITS}
use Rattle.open_records.specs.Leaving.{is_meant}
use Rattle.open_records.specs.OpenRecords.{is_of}
use Rattle.open_records.specs.declared.open_record.KeyedRecord.{KeyedRecord}
use Rattle.soft_log.proofs.Merged.{fewer_inside}
use Rattle.soft_log.proofs.soft_log.SoftLog.drop_weak.Goals as goal

pub invariant_of-self : goal.invariant_of-self
invariant_of-self c =
    let inside = c.self.inside in
    fewer_inside c.drop_weak.result (λ (one : KeyedRecord). not (is_of c.args.handle c.args.guid one && is_meant None None WEAK_BITS one.rec)) inside.soft inside.log.marks inside.records c.drop_weak.new.self c.self.invariant c.drop_weak.ensures.marks c.drop_weak.ensures.now c.drop_weak.ensures.err
