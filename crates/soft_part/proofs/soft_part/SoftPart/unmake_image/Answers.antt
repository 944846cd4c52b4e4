use Rattle.std.proofs.Common.{◌≡◌, ℕ, ◌-◌, true, length, refl, sym, ap, subst, ◌∙◌}
use Rattle.fw_types.specs.Guid.{known_guid}
use Rattle.fw_types.specs.declared.guid.Known.TheVariants.{LoadedImage as LoadedImageProtocol}
use Rattle.handle_db.specs.Undoing.{IsInstalledLast}
use Rattle.world_model.specs.declared.change.Change.TheVariants.{AddImage}
use Rattle.world_model.specs.World.{Soft}
use Rattle.world_model.specs.Kept.{IsKept}
use Rattle.world_model.specs.Undo.{taken_back}
use Rattle.soft_part.specs.Soft.{soft_of}
use Rattle.soft_part.proofs.soft_part.SoftPart.unmake_image.Goals as goal

pub undo_install-requires : goal.undo_install-requires
undo_install-requires c =
    rw c.known.ensures (subst (λ (s : Soft). IsInstalledLast c.args.image.handle (known_guid LoadedImageProtocol) true s.database) (sym c.self.view_is) c.requires.last)

pub invariant_of-self : goal.invariant_of-self
unfolding taken_back
invariant_of-self c =
    let inside = c.self.inside in
    let soft : Soft = soft_of inside.memory inside.database inside.plain in
    let change = AddImage c.args.image in
    let kept : IsKept (taken_back change soft) = subst (λ (s : Soft). IsKept (taken_back change s)) (sym c.self.view_is) c.requires.kept in
    let count : c.saturating_sub-others.result ≡ length inside.plain.images.items - 1 = c.saturating_sub-others.ensures ∙ ap (λ (n : ℕ). n - 1) (c.len.ensures ∙ inside.plain.images.ok.0) in
    rw (c.unmap-2.ensures.rest, c.unmap.ensures.rest, c.undo_install.ensures, c.known.ensures, c.truncate.ensures.items, count) kept

pub returns : goal.returns
unfolding taken_back
returns c =
    let inside = c.self.inside in
    let count : c.saturating_sub-others.result ≡ length inside.plain.images.items - 1 = c.saturating_sub-others.ensures ∙ ap (λ (n : ℕ). n - 1) (c.len.ensures ∙ inside.plain.images.ok.0) in
    rw (c.unmap-2.ensures.rest, c.unmap.ensures.rest, c.undo_install.ensures, c.known.ensures, c.truncate.ensures.items, count, ← c.self.view_is) refl
