use Rattle.std.proofs.Common.{List, ap, refl, sym, subst, ◌∙◌}
use Rattle.std.specs.Prelude.{insert}
use Rattle.world_model.specs.declared.change.Change.TheVariants.{DropImage}
use Rattle.world_model.specs.declared.image.LoadedImage.{LoadedImage}
use Rattle.world_model.specs.World.{Soft}
use Rattle.world_model.specs.Kept.{IsKept}
use Rattle.world_model.specs.Undo.{taken_back, with_thunks}
use Rattle.soft_part.specs.Soft.{soft_of}
use Rattle.soft_part.proofs.soft_part.SoftPart.remap_image.Goals as goal

pub remap-requires-clause-apart : goal.remap-requires-clause-apart
unfolding taken_back
remap-requires-clause-apart c =
    let inside = c.self.inside in
    let soft : Soft = soft_of inside.memory inside.database inside.plain in
    let change = DropImage c.args.dropped in
    let kept : IsKept (taken_back change soft) = subst (λ (s : Soft). IsKept (taken_back change s)) (sym c.self.view_is) c.requires.kept in
    kept.memory.apart

pub invariant_of-self-2 : goal.invariant_of-self-2
unfolding taken_back
invariant_of-self-2 c =
    let inside = c.self.inside in
    let soft : Soft = soft_of inside.memory inside.database inside.plain in
    let change = DropImage c.args.dropped in
    let kept : IsKept (taken_back change soft) = subst (λ (s : Soft). IsKept (taken_back change s)) (sym c.self.view_is) c.requires.kept in
    let images = c.in_ok-images.ensures ∙ ap (λ (all : List LoadedImage). insert all c.args.dropped.place c.args.dropped.image) c.as_slice.ensures.value in
    let thunks = c.in_ok-thunks.ensures ∙ ap (with_thunks c.args.dropped.thunks) c.as_slice-2.ensures.value in
    rw (c.in_ok-remap.ensures.memory, c.in_ok-remap.ensures.database, images, thunks) kept

pub returns : goal.returns
unfolding taken_back
returns c =
    let images = c.in_ok-images.ensures ∙ ap (λ (all : List LoadedImage). insert all c.args.dropped.place c.args.dropped.image) c.as_slice.ensures.value in
    let thunks = c.in_ok-thunks.ensures ∙ ap (with_thunks c.args.dropped.thunks) c.as_slice-2.ensures.value in
    rw (c.in_ok-remap.ensures.memory, c.in_ok-remap.ensures.database, images, thunks, ← c.self.view_is) refl
