use Rattle.std.proofs.Common.{◌≡◌, ◌≤◌, Some, ap, filter, length, sym, ◌∙◌, arith, rules}
use Rattle.handle_db.specs.Database.{Database, handles_with, has_guid, numbers}
use Rattle.handle_db.proofs.Changes.{few_numbers}
use Rattle.handle_db.proofs.NamedLemmas.{named_is}
use Rattle.handle_db.proofs.db.Db.count_with.Goals as goal

-- those that the index names
pub overflow_cast-result : goal.overflow_cast-result
overflow_cast-result c =
    let db : Database = record { handles = c.self.inside.handles.items; next = c.self.inside.next; limit = c.self.inside.limit } in
    let count : c.count_named.result ≡ length (numbers (filter (has_guid c.in-Some.guid) db.handles)) =
    c.count_named.ensures.count ∙ ap length (named_is c.in-Some.guid c.self.inside.index db c.self.invariant c.count_named.ensures.ordered) in
    let few : c.count_named.result ≤ c.self.inside.limit = omega (arith, few_numbers (has_guid c.in-Some.guid) db.handles, c.self.invariant.sound.few) in
    search rules

pub returns-in-Some : goal.returns-in-Some
returns-in-Some c =
    let db : Database = record { handles = c.self.inside.handles.items; next = c.self.inside.next; limit = c.self.inside.limit } in
    c.count_named.ensures.count ∙ ap length (named_is c.in-Some.guid c.self.inside.index db c.self.invariant c.count_named.ensures.ordered)
    ∙ ap (λ d. length (handles_with (Some c.in-Some.guid) d)) c.self.view_is ∙ ap (λ guid. length (handles_with guid c.args.self.now)) (sym c.in-Some.is)
