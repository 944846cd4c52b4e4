use Rattle.std.proofs.Common.{◌≡◌, ℕ, Option, Some, ap, subst, sym, ◌∙◌}
use Rattle.world_model.specs.declared.image.LoadedImage.{LoadedImage}
use Rattle.world_model.specs.Images.{image_of, without_loaded}
use Rattle.world_model.specs.Kept.{AreRecordsKept, IsKept}
use Rattle.world_model.specs.Records.{with_records}
use Rattle.world_model.proofs.KeepingImages.{dropping}
use Rattle.world_model.proofs.KeepingRecords.{kept_with}
use Rattle.soft_log.specs.Keeping.{MarkedSoft, merged}
use Rattle.soft_log.proofs.Merged.{noted_inside}
use Rattle.soft_log.proofs.Noting.{kept_noted}
use Rattle.soft_log.proofs.soft_log.SoftLog.drop_image.Goals as goal

pub invariant_of-self-in-Ok-remove_records : goal.invariant_of-self-in-Ok-remove_records
invariant_of-self-in-Ok-remove_records c =
    let inside = c.self.inside in
    let one : LoadedImage = c.in-Some.image in
    let found : image_of c.args.handle inside.soft.images ≡ Some one = ap (λ (n : ℕ). image_of n inside.soft.images) (sym c.get.ensures.value) ∙ sym c.loaded_image.ensures.image ∙ c.in-Some.is in
    let there : IsKept (with_records inside.records.now inside.soft) = kept_with inside.soft inside.records.now c.is_kept.ensures c.self.invariant.now in
    let left : IsKept (without_loaded (Some one) (with_records inside.records.now inside.soft)) =
    subst (λ (image : Option LoadedImage). IsKept (without_loaded image (with_records inside.records.now inside.soft))) found (dropping (with_records inside.records.now inside.soft) c.args.handle there) in
    let after : c.drop_image.new.self ≡ without_loaded (Some one) inside.soft = c.in-Ok.ensures.ok ∙ ap (λ (image : Option LoadedImage). without_loaded image inside.soft) found in
    let now : AreRecordsKept c.drop_image.new.self.database c.remove_records.new.records.now = rw (c.in-Ok-remove_records.ensures.now, c.known-guid.ensures, after) left.records in
    rw (c.note.ensures, c.reserve.ensures.marks)
    (noted_inside inside.log.marks c.in-Ok.change inside.soft c.drop_image.new.self inside.records c.remove_records.new.records c.is_kept.ensures c.is_kept-in-Ok.ensures c.in-Ok.ensures.noted c.in-Ok-remove_records.ensures.marks now c.self.invariant)

pub returns-in-Ok-remove_records-clause-marks : goal.returns-in-Ok-remove_records-clause-marks
returns-in-Ok-remove_records-clause-marks c =
    let inside = c.self.inside in
    rw (c.in-Ok-remove_records.ensures.marks, c.note.ensures, c.reserve.ensures.marks)
    (ap (merged inside.records.marks) (kept_noted inside.log.marks c.in-Ok.change inside.soft c.drop_image.new.self c.is_kept.ensures c.is_kept-in-Ok.ensures c.in-Ok.ensures.noted))
    ∙ ap (λ (v : MarkedSoft). v.marks) c.self.view_is
