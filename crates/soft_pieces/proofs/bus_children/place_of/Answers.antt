use Rattle.std.proofs.Common.{ap, length, Option, ℕ, ◌∙◌}
use Rattle.std.specs.Prelude.{unwrap_or}
use Rattle.world_model.specs.BusChildren.{is_child}
use Rattle.soft_pieces.proofs.Placing.{placed}
use Rattle.soft_pieces.proofs.bus_children.place_of.Goals as goal

pub returns : goal.returns
returns c = c.unwrap_or.ensures ∙ ap (λ (found : Option ℕ). unwrap_or found (length c.args.children.now)) c.position_of.ensures ∙ placed (is_child c.args.handle) c.args.children.now
