use Rattle.std.proofs.Common.{◌≡◌, ℕ, ◌+◌, Bool, true, false, length, Some, ap, ◌∙◌}
use Rattle.std.specs.Prelude.{Result, Ok, Err, if◌then◌else◌}
use Rattle.world_model.specs.declared.fault.WorldFault.{WorldFault}
use Rattle.world_model.specs.declared.fault.WorldFault.TheVariants.{Full}
use Rattle.world_model.specs.World.{State}
use Rattle.world_model.specs.Images.{entry_of, image_added, is_image_full}
use Rattle.world_model.proofs.ImageLaws.{found}
use Rattle.image_table.proofs.placing.lay_image.Goals as goal

-- the handle that the image gets is the next one
given : (full : Bool) (next image : ℕ) → ◌≡◌ {A = Result ℕ WorldFault} (if full then Err Full else Ok next) (Ok image) → image ≡ next
given true next image answer = absurd cc
given false next image answer = cc

pub returns-in-Ok-clause-entered : goal.returns-in-Ok-clause-entered
returns-in-Ok-clause-entered c =
    let soft = c.args.w.now.now.soft in
    let bytes = c.in_ok-bytes.bytes.items in
    let image = c.in-Ok.image in
    let is_next : image ≡ soft.database.next = given (is_image_full (length bytes) soft) soft.database.next image c.in-Ok.ensures.answer in
    ap (λ (w : State). entry_of image w.soft) c.in-Ok.ensures.now
    ∙ ap (λ (handle : ℕ). entry_of handle (image_added bytes c.entry.result c.subsystem.result c.args.device soft)) is_next
    ∙ found soft bytes c.entry.result c.subsystem.result c.args.device c.is_kept.ensures
    ∙ ap (λ (place : ℕ). Some (soft.next_image + place)) c.entry.ensures.value
