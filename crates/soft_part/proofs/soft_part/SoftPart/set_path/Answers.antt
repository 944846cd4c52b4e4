use Rattle.std.proofs.Common.{◌≡◌, true, ap, ◌∙◌}
use Rattle.world_model.specs.World.{Soft}
use Rattle.world_model.specs.CommandPath.{has_no_path}
use Rattle.world_model.proofs.CommandPath.{fitting}
use Rattle.soft_part.specs.Soft.{soft_of}
use Rattle.soft_part.proofs.Keeps.{kept_with_path}
use Rattle.soft_part.proofs.soft_part.SoftPart.set_path.Goals as goal

pub map_free-requires : goal.map_free-requires
map_free-requires c =
    let inside = c.self.inside in
    let soft : Soft = soft_of inside.memory inside.database inside.plain in
    let none : has_no_path inside.memory ≡ true = ap (λ (s : Soft). has_no_path s.memory) c.self.view_is ∙ c.requires.none in
    fitting soft c.args.bytes.items none c.requires.few

pub invariant_of-self : goal.invariant_of-self
invariant_of-self c =
    let inside = c.self.inside in
    let soft : Soft = soft_of inside.memory inside.database inside.plain in
    let none : has_no_path inside.memory ≡ true = ap (λ (s : Soft). has_no_path s.memory) c.self.view_is ∙ c.requires.none in
    kept_with_path soft c.args.bytes.items c.map_free.result c.map_free.new.memory c.self.invariant none c.requires.few c.map_free.ensures.ok c.map_free.ensures.err
