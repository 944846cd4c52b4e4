use Rattle.std.proofs.Common.{◌≡◌, ◌∙◌, ℕ, true, Option, Some, None, List, ap, sym, subst}
use Rattle.std.specs.Prelude.{IfSome}
use Rattle.guest_memory.specs.GuestMemory.{is_readable}
use Rattle.world_model.specs.declared.image.LoadedImage.{LoadedImage}
use Rattle.world_model.specs.World.{Soft}
use Rattle.world_model.specs.Images.{block_size, image_of}
use Rattle.world_model.specs.Kept.{IsKept}
use Rattle.world_model.proofs.ImageBlocks.{block-readable}
use Rattle.soft_part.specs.Soft.{soft_of}
use Rattle.soft_part.proofs.soft_part.SoftPart.loaded_image.Goals as goal

readable : (soft : Soft) (handle : ℕ) (found : Option LoadedImage) → IsKept soft → image_of handle soft.images ≡ found → IfSome found (λ image. is_readable soft.memory image.block block_size ≡ true)
readable soft handle None kept is = tt
readable soft handle (Some image) kept is = block-readable soft handle image kept is

pub returns-clause-block : goal.returns-clause-block
returns-clause-block c =
    let inside = c.self.inside in
    let soft : Soft = soft_of inside.memory inside.database inside.plain in
    let found : c.copied.result ≡ image_of c.args.handle inside.plain.images.items =
    c.copied.ensures ∙ c.image_of.ensures ∙ ap (λ (images : List LoadedImage). image_of c.args.handle images) c.as_slice.ensures.value in
    subst (λ (s : Soft). IfSome c.copied.result (λ image. is_readable s.memory image.block block_size ≡ true)) c.self.view_is
    (readable soft c.args.handle c.copied.result c.self.invariant (sym found))
