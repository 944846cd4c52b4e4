use Rattle.std.proofs.Common.{rules}
use Rattle.std.proofs.lemmas.Fn.{filter_same}
use Rattle.soft_pieces.proofs.thunks.drop_from_segment.Goals as goal

pub returns-in-Ok : goal.returns-in-Ok
returns-in-Ok c = rw c.in-Ok.is (filter_same _ _ _ (λ x b f' k. search rules) _ _ c.retain.ensures.filtered)
