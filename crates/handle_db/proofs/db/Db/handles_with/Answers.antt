use Rattle.std.proofs.Common.{◌≡◌, ◌≤◌, List, ℕ, Some, ap, filter, length, ◌∙◌, sym, arith}
use Rattle.handle_db.specs.Database.{Database, handles_with, has_guid, numbers}
use Rattle.handle_db.specs.ProtocolIndex.{named}
use Rattle.handle_db.proofs.Changes.{few_numbers}
use Rattle.handle_db.proofs.NamedLemmas.{listed_few, listed_is, named_is}
use Rattle.handle_db.proofs.db.Db.handles_with.Goals as goal

-- those that the index names
pub returns-in-Some-clause-handles : goal.returns-in-Some-clause-handles
returns-in-Some-clause-handles c =
    let db : Database = record { handles = c.self.inside.handles.items; next = c.self.inside.next; limit = c.self.inside.limit } in
    let same : named c.in-Some.guid c.self.inside.next c.self.inside.index ≡ handles_with c.args.guid c.args.self.now =
    named_is c.in-Some.guid c.self.inside.index db c.self.invariant c.named_handles.ensures.ordered
    ∙ ap (handles_with (Some c.in-Some.guid)) c.self.view_is ∙ ap (λ guid. handles_with guid c.args.self.now) (sym c.in-Some.is) in
    listed_is c.named_handles.result (named c.in-Some.guid c.self.inside.next c.self.inside.index) (handles_with c.args.guid c.args.self.now) same c.named_handles.ensures.handles

pub returns-in-Some-clause-few : goal.returns-in-Some-clause-few
returns-in-Some-clause-few c =
    let db : Database = record { handles = c.self.inside.handles.items; next = c.self.inside.next; limit = c.self.inside.limit } in
    let listed : List ℕ = named c.in-Some.guid c.self.inside.next c.self.inside.index in
    let limit : c.self.inside.limit ≡ c.args.self.now.limit = ap (λ d. d.limit) c.self.view_is in
    let count : length listed ≡ length (numbers (filter (has_guid c.in-Some.guid) db.handles)) = ap length (named_is c.in-Some.guid c.self.inside.index db c.self.invariant c.named_handles.ensures.ordered) in
    let few : length listed ≤ c.args.self.now.limit = omega (arith, few_numbers (has_guid c.in-Some.guid) db.handles, c.self.invariant.sound.few) in
    listed_few c.named_handles.result listed c.args.self.now.limit few c.named_handles.ensures.handles
