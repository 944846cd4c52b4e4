use Rattle.std.proofs.Common.{rules}
use Rattle.std.proofs.lemmas.List.Sorted.{answers_always}
use Rattle.world_model.specs.declared.thunk.Thunk.{Thunk}
use Rattle.world_model.specs.Thunks.{thunk_address}
use Rattle.soft_pieces.proofs.Order.{searched}
use Rattle.soft_pieces.proofs.thunks.place_of.Goals as goal

-- the closure gives a thunk's address, and thunks rise by it
pub returns : goal.returns
returns c =
    let facts = c.binary_search_by_key.ensures in
    let by_address = facts.position (λ (thunk : Thunk). thunk_address thunk.number) (answers_always _ _ _ (λ f a r g called. search rules)) in
    rw c.ok.ensures.value (searched c.args.thunks.now c.requires.0 c.requires.1 c.args.at _ facts.bound by_address)
