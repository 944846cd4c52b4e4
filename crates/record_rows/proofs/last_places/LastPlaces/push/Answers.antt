use Rattle.std.proofs.Common.{◌≡◌, ◌++◌, ◌∷◌, [], List, length, ap, ◌∙◌}
use Rattle.record_rows.specs.declared.last_places.NotedKey.{NotedKey}
use Rattle.record_rows.proofs.LastLemmas.{last_more}
use Rattle.record_rows.proofs.last_places.LastPlaces.push.Goals as goal

pub invariant_of-self-2 : goal.invariant_of-self-2
invariant_of-self-2 c =
    let row : NotedKey = record { key = c.args.key; before = c.in_ok-before.before } in
    let rows : c.push_reserved.new.self.items ≡ c.self.inside.rows.items ++ row ∷ [] = c.push_reserved.ensures.items ∙ ap (λ (l : List NotedKey). l ++ row ∷ []) c.reserve.ensures.items in
    let long : c.len-count.result ≡ length c.self.inside.rows.items = c.len-count.ensures ∙ c.self.inside.rows.ok.0 in
    rw rows (last_more c.self.inside.last c.insert.new.self c.self.inside.rows.items row c.self.invariant c.in_ok-before.ensures.old (λ q. rw (← long) (c.in_ok-before.ensures.updates.0 q)))
