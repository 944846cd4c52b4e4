use Rattle.std.proofs.Common.{◌≡◌, false, ap, ◌∙◌}
use Rattle.world_model.specs.Interfaces.{is_lasting}
use Rattle.world_model.specs.Kept.{AreRecordsKept, IsKept}
use Rattle.world_model.specs.Records.{with_records}
use Rattle.world_model.proofs.KeepingInterfaces.{uninstalling}
use Rattle.world_model.proofs.KeepingRecords.{kept_with}
use Rattle.soft_log.specs.Keeping.{MarkedSoft, merged}
use Rattle.soft_log.proofs.Merged.{noted_inside}
use Rattle.soft_log.proofs.Noting.{kept_noted}
use Rattle.soft_log.proofs.soft_log.SoftLog.uninstall.Goals as goal

pub invariant_of-self-in-Ok-remove_records : goal.invariant_of-self-in-Ok-remove_records
invariant_of-self-in-Ok-remove_records c =
    let inside = c.self.inside in
    let there : IsKept (with_records inside.records.now inside.soft) = kept_with inside.soft inside.records.now c.is_kept.ensures c.self.invariant.now in
    let lasting : is_lasting c.args.handle c.args.guid (with_records inside.records.now inside.soft) ≡ false = ap (λ (v : MarkedSoft). is_lasting c.args.handle c.args.guid v.now) c.self.view_is ∙ c.requires in
    let now : AreRecordsKept c.uninstall.new.self.database c.remove_records.new.records.now =
    rw (c.in-Ok-remove_records.ensures.now, c.in-Ok.ensures.ok) (uninstalling (with_records inside.records.now inside.soft) c.args.handle c.args.guid there lasting).records in
    rw (c.note.ensures, c.reserve.ensures.marks)
    (noted_inside inside.log.marks c.in-Ok.change inside.soft c.uninstall.new.self inside.records c.remove_records.new.records c.is_kept.ensures c.is_kept-in-Ok.ensures c.in-Ok.ensures.noted c.in-Ok-remove_records.ensures.marks now c.self.invariant)

pub returns-in-Ok-remove_records-clause-marks : goal.returns-in-Ok-remove_records-clause-marks
returns-in-Ok-remove_records-clause-marks c =
    let inside = c.self.inside in
    rw (c.in-Ok-remove_records.ensures.marks, c.note.ensures, c.reserve.ensures.marks)
    (ap (merged inside.records.marks) (kept_noted inside.log.marks c.in-Ok.change inside.soft c.uninstall.new.self c.is_kept.ensures c.is_kept-in-Ok.ensures c.in-Ok.ensures.noted))
    ∙ ap (λ (v : MarkedSoft). v.marks) c.self.view_is
