use Rattle.std.proofs.Common.{◌≡◌, ℕ, ◌+◌, false, List, length, ap, refl, sym, ◌∙◌}
use Rattle.world_model.specs.declared.change.Change.{Change}
use Rattle.world_model.specs.declared.change.Change.TheVariants.{AddImage}
use Rattle.world_model.specs.Images.{is_image_full}
use Rattle.world_model.specs.UndoLaws.{IsNoted}
use Rattle.world_model.proofs.UndoNoted.{add_image_is_noted}
use Rattle.soft_log.specs.Keeping.{MarkedSoft, merged}
use Rattle.soft_log.proofs.Merged.{noted_inside}
use Rattle.world_model.specs.Kept.{AreRecordsKept, IsKept}
use Rattle.world_model.specs.Records.{with_records}
use Rattle.world_model.proofs.KeepingImages.{adding}
use Rattle.world_model.proofs.KeepingRecords.{kept_with}
use Rattle.soft_log.proofs.Noting.{kept_noted, made_at, room_made}
use Rattle.soft_log.proofs.soft_log.SoftLog.add_image.Goals as goal

pub invariant_of-self-2 : goal.invariant_of-self-2
invariant_of-self-2 c =
    let inside = c.self.inside in
    let change : Change = AddImage (record { handle = c.in_ok-handle.handle; base = c.next_image-base.result; entry = c.next_image-base.result + c.from.result; block = c.next_block-block.result }) in
    let bytes : List ℕ = c.args.bytes.items in
    let handle : c.in_ok-handle.handle ≡ inside.soft.database.next = sym (made_at (is_image_full (length bytes) inside.soft) inside.soft.database.next c.in_ok-handle.handle c.in_ok-handle.ensures.answer) in
    let room : is_image_full (length bytes) inside.soft ≡ false = room_made (is_image_full (length bytes) inside.soft) inside.soft.database.next c.in_ok-handle.handle c.in_ok-handle.ensures.answer in
    let is : IsNoted change inside.soft c.add_image.new.self = rw (handle, c.from.ensures, c.next_image-base.ensures, c.next_block-block.ensures, c.in_ok-handle.ensures.ok) (add_image_is_noted inside.soft bytes c.args.entry c.args.subsystem c.args.device c.is_kept.ensures room) in
    let there : IsKept (with_records inside.records.now inside.soft) = kept_with inside.soft inside.records.now c.is_kept.ensures c.self.invariant.now in
    let now : AreRecordsKept c.add_image.new.self.database inside.records.now =
    rw c.in_ok-handle.ensures.ok (adding (with_records inside.records.now inside.soft) bytes c.args.entry c.args.subsystem c.args.device there c.requires room).records in
    rw (c.note.ensures, c.reserve.ensures.marks) (noted_inside inside.log.marks change inside.soft c.add_image.new.self inside.records inside.records c.is_kept.ensures c.is_kept-2.ensures is refl now c.self.invariant)

pub returns-clause-marks : goal.returns-clause-marks
returns-clause-marks c =
    let inside = c.self.inside in
    let change : Change = AddImage (record { handle = c.in_ok-handle.handle; base = c.next_image-base.result; entry = c.next_image-base.result + c.from.result; block = c.next_block-block.result }) in
    let bytes : List ℕ = c.args.bytes.items in
    let handle : c.in_ok-handle.handle ≡ inside.soft.database.next = sym (made_at (is_image_full (length bytes) inside.soft) inside.soft.database.next c.in_ok-handle.handle c.in_ok-handle.ensures.answer) in
    let room : is_image_full (length bytes) inside.soft ≡ false = room_made (is_image_full (length bytes) inside.soft) inside.soft.database.next c.in_ok-handle.handle c.in_ok-handle.ensures.answer in
    let is : IsNoted change inside.soft c.add_image.new.self = rw (handle, c.from.ensures, c.next_image-base.ensures, c.next_block-block.ensures, c.in_ok-handle.ensures.ok) (add_image_is_noted inside.soft bytes c.args.entry c.args.subsystem c.args.device c.is_kept.ensures room) in
    rw (c.note.ensures, c.reserve.ensures.marks) (ap (merged inside.records.marks) (kept_noted inside.log.marks change inside.soft c.add_image.new.self c.is_kept.ensures c.is_kept-2.ensures is))
    ∙ ap (λ (v : MarkedSoft). v.marks) c.self.view_is
