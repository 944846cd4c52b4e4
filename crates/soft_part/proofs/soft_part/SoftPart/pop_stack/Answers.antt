use Rattle.world_model.specs.World.{Soft}
use Rattle.world_model.proofs.KeepingStacks.{popping}
use Rattle.soft_part.specs.Soft.{soft_of}
use Rattle.soft_part.proofs.soft_part.SoftPart.pop_stack.Goals as goal

pub invariant_of-self : goal.invariant_of-self
invariant_of-self c =
    let inside = c.self.inside in
    let soft : Soft = soft_of inside.memory inside.database inside.plain in
    rw c.unmap_level.ensures (popping soft c.args.level c.self.invariant c.requires.from c.requires.to)
