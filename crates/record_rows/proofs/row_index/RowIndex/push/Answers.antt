use Rattle.std.proofs.Common.{◌≡◌, ◌-◌, List, length, take, ap, subst, sym, ◌∙◌}
use Rattle.record_rows.specs.Index.{RowKey}
use Rattle.record_rows.specs.IndexInside.{IsIndexed}
use Rattle.record_rows.proofs.IndexLemmas.{without_pushed}
use Rattle.record_rows.proofs.ListedLemmas.{indexed_back, indexed_more}
use Rattle.record_rows.proofs.row_index.RowIndex.push.Goals as goal

pub invariant_of-self-in-Err-push : goal.invariant_of-self-in-Err-push
invariant_of-self-in-Err-push c =
    let inside = c.self.inside in
    let key = c.args.key in
    let left : c.pop-in-Err-push-2.new.self ≡ inside.keys =
    c.pop-in-Err-push-2.ensures.left ∙ ap (λ (l : List RowKey). take (length l - 1) l) c.in_ok-place.ensures.ok ∙ without_pushed inside.keys key in
    subst (λ (keys : List RowKey). IsIndexed keys c.pop-in-Err-push.new.self c.push-3.new.self) (sym left)
    (indexed_back inside.keys key c.in_ok-place.place inside.places c.push-2.new.self c.pop-in-Err-push.new.self inside.named c.push-3.new.self
    c.self.invariant c.in_default.ensures.ok c.pop-in-Err-push.ensures c.in-Err-push.ensures.err)

pub invariant_of-self-in_default-push : goal.invariant_of-self-in_default-push
invariant_of-self-in_default-push c =
    let inside = c.self.inside in
    rw c.in_ok-place.ensures.ok
    (indexed_more inside.keys c.args.key inside.places c.push-2.new.self inside.named c.push-3.new.self c.in_ok-place.place c.in_ok-place.ensures.place c.self.invariant
    c.in_default.ensures.ok c.in_default-push.ensures.ok)
