use Rattle.std.proofs.Common.{rules}
use Rattle.std.proofs.lemmas.List.Sorted.{answers_always}
use Rattle.handle_db.proofs.Order.{searched}
use Rattle.handle_db.specs.declared.handle_entry.HandleEntry.{HandleEntry}
use Rattle.handle_db.proofs.places.place_of.Goals as goal

-- the closure gives an entry's number, by which the entries rise
pub returns : goal.returns
returns c =
    let facts = c.binary_search_by_key.ensures in
    let by_number = facts.position (λ (entry : HandleEntry). entry.handle) (answers_always _ _ _ (λ f a r g called. search rules)) in
    rw c.ok.ensures.value (searched c.args.entries.now c.requires c.args.handle _ facts.bound by_number)
