use Rattle.std.proofs.Common.{◌≡◌, ◌∙◌, Some, ℕ, ap, refl, sym}
use Rattle.std.specs.List.{position_or_len}
use Rattle.fw_types.specs.Guid.{known_guid}
use Rattle.fw_types.specs.declared.guid.Known.TheVariants.{LoadedImage as LoadedImageProtocol}
use Rattle.handle_db.specs.Removing.{removed}
use Rattle.world_model.specs.World.{Soft}
use Rattle.world_model.specs.UndoLaws.{is_of_handle}
use Rattle.soft_part.specs.Soft.{soft_of}
use Rattle.soft_part.proofs.Keeps.{db_dropped, dropped_is, image_found, kept_without}
use Rattle.soft_part.proofs.Noted.{noted_drop}
use Rattle.soft_part.proofs.soft_part.SoftPart.drop_image.Goals as goal

pub invariant_of-self : goal.invariant_of-self
invariant_of-self c =
    let inside = c.self.inside in
    let soft : Soft = soft_of inside.memory inside.database inside.plain in
    let one = c.in-Some.image.now in
    let found = image_found c.args.handle c.get.result inside.plain.images.items c.as_slice.result.now (Some one) c.get.ensures.value c.as_slice.ensures.value c.in-Some.ensures in
    kept_without soft c.args.handle one c.known-guid.result c.remove-removed.result c.take_image-parts.new.memory c.remove-removed.new.self c.drop_from.new.images.items c.take_image-parts.new.thunks.items
    c.self.invariant refl found c.known-guid.ensures c.remove-removed.ensures.answer c.remove-removed.ensures.ok c.take_image-parts.ensures.memory c.drop_from.ensures c.take_image-parts.ensures.thunks

pub invariant_of-self-in_default : goal.invariant_of-self-in_default
invariant_of-self-in_default c =
    let inside = c.self.inside in
    let soft : Soft = soft_of inside.memory inside.database inside.plain in
    let one = c.in-Some.image.now in
    let found = image_found c.args.handle c.get.result inside.plain.images.items c.as_slice.result.now (Some one) c.get.ensures.value c.as_slice.ensures.value c.in-Some.ensures in
    kept_without soft c.args.handle one c.known-guid.result c.remove-removed.result c.take_image-parts.new.memory c.remove-removed.new.self c.drop_from.new.images.items c.take_image-parts.new.thunks.items
    c.self.invariant refl found c.known-guid.ensures c.remove-removed.ensures.answer c.remove-removed.ensures.ok c.take_image-parts.ensures.memory c.drop_from.ensures c.take_image-parts.ensures.thunks

pub invariant_of-self-in_err-new : goal.invariant_of-self-in_err-new
invariant_of-self-in_err-new c =
    let inside = c.self.inside in
    let soft : Soft = soft_of inside.memory inside.database inside.plain in
    let one = c.in-Some.image.now in
    let found = image_found c.args.handle c.get.result inside.plain.images.items c.as_slice.result.now (Some one) c.get.ensures.value c.as_slice.ensures.value c.in-Some.ensures in
    kept_without soft c.args.handle one c.known-guid.result c.remove-removed.result c.take_image-parts.new.memory c.remove-removed.new.self c.drop_from.new.images.items c.take_image-parts.new.thunks.items
    c.self.invariant refl found c.known-guid.ensures c.remove-removed.ensures.answer c.remove-removed.ensures.ok c.take_image-parts.ensures.memory c.drop_from.ensures c.take_image-parts.ensures.thunks

pub invariant_of-self-2 : goal.invariant_of-self-2
invariant_of-self-2 c =
    let inside = c.self.inside in
    let soft : Soft = soft_of inside.memory inside.database inside.plain in
    let one = c.in-Some.image.now in
    let found = image_found c.args.handle c.get.result inside.plain.images.items c.as_slice.result.now (Some one) c.get.ensures.value c.as_slice.ensures.value c.in-Some.ensures in
    kept_without soft c.args.handle one c.known-guid.result c.remove-removed.result c.take_image-parts.new.memory c.remove-removed.new.self c.drop_from.new.images.items c.take_image-parts.new.thunks.items
    c.self.invariant refl found c.known-guid.ensures c.remove-removed.ensures.answer c.remove-removed.ensures.ok c.take_image-parts.ensures.memory c.drop_from.ensures c.take_image-parts.ensures.thunks

pub returns-clause-noted : goal.returns-clause-noted
returns-clause-noted c =
    let inside = c.self.inside in
    let soft : Soft = soft_of inside.memory inside.database inside.plain in
    let one = c.in-Some.image.now in
    let found = image_found c.args.handle c.get.result inside.plain.images.items c.as_slice.result.now (Some one) c.get.ensures.value c.as_slice.ensures.value c.in-Some.ensures in
    let db_is : c.remove-removed.new.self ≡ removed one.handle (known_guid LoadedImageProtocol) inside.database =
    db_dropped soft c.args.handle one c.remove-removed.result c.remove-removed.new.self c.self.invariant found
    (rw c.known-guid.ensures at c.remove-removed.ensures.answer)
    (rw c.known-guid.ensures at c.remove-removed.ensures.ok)
    in
    let answer = rw c.known-guid.ensures at c.in-Ok.ensures.answer in
    let place : c.image_place-place.result ≡ position_or_len (is_of_handle one.handle) inside.plain.images.items =
    c.image_place-place.ensures ∙ ap (λ (n : ℕ). position_or_len (is_of_handle n) c.as_slice-2.result.now) c.get-2.ensures.value ∙ ap (position_or_len (is_of_handle one.handle)) c.as_slice-2.ensures.value in
    rw (c.in_ok-new.ensures, ← c.self.view_is)
    (noted_drop soft c.args.handle one c.in_ok-segment.segment c.in_ok-segment.block c.in-Ok.removed c.of.result c.image_place-place.result c.take_image-parts.new.memory c.remove-removed.new.self
    c.drop_from.new.images.items c.take_image-parts.new.thunks.items c.self.invariant refl found c.in_ok-segment.ensures.bytes c.in_ok-segment.ensures.block (sym answer) c.take_image-parts.ensures.memory db_is
    c.drop_from.ensures c.take_image-parts.ensures.thunks (c.of.ensures ∙ c.in_ok-segment.ensures.entering) place)

pub returns-clause-ok : goal.returns-clause-ok
returns-clause-ok c =
    let inside = c.self.inside in
    let soft : Soft = soft_of inside.memory inside.database inside.plain in
    let one = c.in-Some.image.now in
    let found = image_found c.args.handle c.get.result inside.plain.images.items c.as_slice.result.now (Some one) c.get.ensures.value c.as_slice.ensures.value c.in-Some.ensures in
    let db_is : c.remove-removed.new.self ≡ removed one.handle (known_guid LoadedImageProtocol) inside.database =
    db_dropped soft c.args.handle one c.remove-removed.result c.remove-removed.new.self c.self.invariant found
    (rw c.known-guid.ensures at c.remove-removed.ensures.answer)
    (rw c.known-guid.ensures at c.remove-removed.ensures.ok)
    in
    rw (c.take_image-parts.ensures.memory, db_is, c.drop_from.ensures, c.take_image-parts.ensures.thunks, ← c.self.view_is) (sym (dropped_is soft c.args.handle one refl found))
