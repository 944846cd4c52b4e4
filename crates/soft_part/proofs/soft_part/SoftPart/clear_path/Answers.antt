use Rattle.world_model.specs.World.{Soft}
use Rattle.world_model.proofs.CommandPath.{clearing}
use Rattle.soft_part.specs.Soft.{soft_of}
use Rattle.soft_part.proofs.soft_part.SoftPart.clear_path.Goals as goal

pub invariant_of-self : goal.invariant_of-self
invariant_of-self c =
    let inside = c.self.inside in
    let soft : Soft = soft_of inside.memory inside.database inside.plain in
    rw c.unmap.ensures.rest (clearing soft c.self.invariant)
