use Rattle.std.proofs.Common.{Some, None, refl}
use Rattle.world_model.specs.World.{Soft}
use Rattle.world_model.specs.ImageSweep.{image_swept}
use Rattle.world_model.proofs.KeepingSweeps.{sweeping_one}
use Rattle.soft_part.specs.Soft.{soft_of}
use Rattle.soft_part.proofs.Keeps.{image_found}
use Rattle.soft_part.proofs.soft_part.SoftPart.sweep_image.Goals as goal

pub returns-in-None-clause-answer : goal.returns-in-None-clause-answer
returns-in-None-clause-answer c =
    let inside = c.self.inside in
    let found = image_found c.args.handle c.get.result inside.plain.images.items c.as_slice.result.now None c.get.ensures.value c.as_slice.ensures.value c.in-None.ensures in
    rw (← c.self.view_is, found) refl

pub returns-in-None-clause-now : goal.returns-in-None-clause-now
unfolding image_swept
returns-in-None-clause-now c =
    let inside = c.self.inside in
    let found = image_found c.args.handle c.get.result inside.plain.images.items c.as_slice.result.now None c.get.ensures.value c.as_slice.ensures.value c.in-None.ensures in
    rw (← c.self.view_is, found) refl

pub invariant_of-self : goal.invariant_of-self
invariant_of-self c =
    let inside = c.self.inside in
    let soft : Soft = soft_of inside.memory inside.database inside.plain in
    let one = c.in-Some.image.now in
    let found = image_found c.args.handle c.get.result inside.plain.images.items c.as_slice.result.now (Some one) c.get.ensures.value c.as_slice.ensures.value c.in-Some.ensures in
    rw (c.remove_owned.ensures, c.known.ensures, c.unmap_image.ensures.memory, c.unmap_image.ensures.thunks, c.drop_from.ensures) (sweeping_one soft c.args.handle one c.self.invariant found)

pub returns-clause-answer : goal.returns-clause-answer
returns-clause-answer c =
    let inside = c.self.inside in
    let one = c.in-Some.image.now in
    let found = image_found c.args.handle c.get.result inside.plain.images.items c.as_slice.result.now (Some one) c.get.ensures.value c.as_slice.ensures.value c.in-Some.ensures in
    rw (← c.self.view_is, found) refl

pub returns-clause-now : goal.returns-clause-now
unfolding image_swept
returns-clause-now c =
    let inside = c.self.inside in
    let soft : Soft = soft_of inside.memory inside.database inside.plain in
    let one = c.in-Some.image.now in
    let found = image_found c.args.handle c.get.result inside.plain.images.items c.as_slice.result.now (Some one) c.get.ensures.value c.as_slice.ensures.value c.in-Some.ensures in
    rw (c.remove_owned.ensures, c.known.ensures, c.unmap_image.ensures.memory, c.unmap_image.ensures.thunks, c.drop_from.ensures, ← c.self.view_is, found) refl
