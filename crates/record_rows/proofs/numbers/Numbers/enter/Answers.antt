use Rattle.std.proofs.Common.{◌≡◌, ◌∷◌, ◌++◌, [], Some, length, ap, subst, sym, ◌∙◌}
use Rattle.record_rows.specs.Numbers.{IsAbsent}
use Rattle.record_rows.proofs.NumberLemmas.{entered, get_last}
use Rattle.record_rows.proofs.numbers.Numbers.enter.Goals as goal

pub invariant_of-self-2 : goal.invariant_of-self-2
invariant_of-self-2 g c =
    let items : c.push_reserved.new.self.items ≡ c.self.inside.owners.items ++ c.args.key ∷ [] = c.push_reserved.ensures.items ∙ ap (λ l. l ++ c.args.key ∷ []) c.reserve.ensures.items in
    let long : c.in_ok-number.number ≡ length c.self.inside.owners.items = c.in_ok-number.ensures ∙ c.len.ensures ∙ c.self.inside.owners.ok.0 in
    rw items
    (entered g.K.Ord.cmp c.self.inside.numbers c.insert.new.self c.self.inside.owners.items c.args.key c.requires c.self.invariant (subst (IsAbsent c.args.key) (sym c.self.view_is) c.in_default.ensures)
    (c.in_ok-insert.ensures.updates.1 ∙ ap Some long) (λ q. rw (← long) (c.in_ok-insert.ensures.updates.0 q)))

pub returns-clause-number : goal.returns-clause-number
returns-clause-number g c =
    let items : c.push_reserved.new.self.items ≡ c.self.inside.owners.items ++ c.args.key ∷ [] = c.push_reserved.ensures.items ∙ ap (λ l. l ++ c.args.key ∷ []) c.reserve.ensures.items in
    let long : c.in_ok-number.number ≡ length c.self.inside.owners.items = c.in_ok-number.ensures ∙ c.len.ensures ∙ c.self.inside.owners.ok.0 in
    rw (items, long) (get_last c.self.inside.owners.items c.args.key)
