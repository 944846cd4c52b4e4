use Rattle.world_model.specs.World.{Soft}
use Rattle.soft_part.specs.Soft.{soft_of}
use Rattle.soft_part.proofs.Keeps.{kept_written}
use Rattle.soft_part.proofs.soft_part.SoftPartGuestMem.write.Goals as goal

pub invariant_of-self : goal.invariant_of-self
invariant_of-self c =
    let inside = c.self.inside in
    let soft : Soft = soft_of inside.memory inside.database inside.plain in
    kept_written soft c.args.at c.args.n c.args.value c.write.result c.write.new.self c.self.invariant c.write.ensures.answer c.write.ensures.bytes
