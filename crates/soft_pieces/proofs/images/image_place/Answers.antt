use Rattle.std.proofs.Common.{ap, length, Option, ℕ, ◌∙◌}
use Rattle.std.specs.Prelude.{unwrap_or}
use Rattle.world_model.specs.UndoLaws.{is_of_handle}
use Rattle.soft_pieces.proofs.Placing.{placed}
use Rattle.soft_pieces.proofs.images.image_place.Goals as goal

pub returns : goal.returns
returns c = c.unwrap_or.ensures ∙ ap (λ (found : Option ℕ). unwrap_or found (length c.args.images.now)) c.image_position.ensures ∙ placed (is_of_handle c.args.handle) c.args.images.now
