use Rattle.std.proofs.Common.{ap, length, nat_le, Option, ℕ, ◌∙◌}
use Rattle.std.specs.Prelude.{unwrap_or}
use Rattle.world_model.specs.declared.thunk.Thunk.{Thunk}
use Rattle.soft_pieces.proofs.Placing.{placed}
use Rattle.soft_pieces.proofs.thunks.place_by_number.Goals as goal

pub returns : goal.returns
returns c = c.unwrap_or.ensures ∙ ap (λ (found : Option ℕ). unwrap_or found (length c.args.thunks.now)) c.position_from.ensures ∙ placed (λ (t : Thunk). nat_le c.args.number t.number) c.args.thunks.now
