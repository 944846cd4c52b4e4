use Rattle.std.proofs.Common.{rules}
use Rattle.std.proofs.lemmas.List.Sorted.{answers_always}
use Rattle.handle_db.proofs.Order.{not_absent, room_searched}
use Rattle.handle_db.specs.declared.handle_entry.HandleEntry.{HandleEntry}
use Rattle.handle_db.proofs.places.room_for.Goals as goal

-- the closure gives an entry's number, by which the entries rise
pub returns-in-Ok : goal.returns-in-Ok
returns-in-Ok c =
    let facts = c.in-Ok.ensures in
    let by_number = facts.position (λ (entry : HandleEntry). entry.handle) (answers_always _ _ _ (λ f a r g called. search rules)) in
    not_absent c.args.entries.now c.requires c.args.handle c.in-Ok.place facts.bound by_number

pub returns-in-Err : goal.returns-in-Err
returns-in-Err c =
    let facts = c.in-Err.ensures in
    let by_number = facts.position (λ (entry : HandleEntry). entry.handle) (answers_always _ _ _ (λ f a r g called. search rules)) in
    λ none. room_searched c.args.entries.now c.requires c.args.handle c.in-Err.place facts.bound by_number
