use Rattle.world_model.specs.World.{Soft}
use Rattle.world_model.specs.Interfaces.{interface}
use Rattle.soft_part.specs.Soft.{soft_of}
use Rattle.soft_part.proofs.Keeps.{kept_installed}
use Rattle.soft_part.proofs.soft_part.SoftPart.install.Goals as goal

pub invariant_of-self : goal.invariant_of-self
invariant_of-self c =
    let inside = c.self.inside in
    let soft : Soft = soft_of inside.memory inside.database inside.plain in
    kept_installed soft c.args.handle (interface c.args.guid c.args.interface c.args.owner) c.install.result c.install.new.self c.self.invariant c.install.ensures.answer c.install.ensures.ok c.install.ensures.err
