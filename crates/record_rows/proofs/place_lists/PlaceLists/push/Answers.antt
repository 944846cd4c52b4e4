use Rattle.std.proofs.Common.{◌<◌, length, set, ap, subst, sym, arith}
use Rattle.record_rows.specs.IndexInside.{AreSame}
use Rattle.record_rows.proofs.ListedLemmas.{lists_in, lists_kept, lists_long, lists_pushed, longer_after, same_on, on_err}
use Rattle.record_rows.proofs.place_lists.PlaceLists.push.Goals as goal

pub returns-in_err-push-clause-err : goal.returns-in_err-push-clause-err
returns-in_err-push-clause-err c =
    let lists = c.self.inside.lists.items in
    let within : c.args.number < length lists = omega (arith, c.in_ok-reach.ensures.reached, ap length c.self.view_is, lists_long lists) in
    let same : AreSame c.args.self.now (lists_in lists) = subst (AreSame c.args.self.now) (sym c.self.view_is) c.in_ok-reach.ensures.same in
    on_err c.from_residual-in_err-push.result
    (same_on c.args.self.now (lists_in lists) (lists_in (set lists c.args.number c.push.new.self)) same
    (lists_kept lists c.args.number c.index_mut.result.now c.push.new.self within c.index_mut.ensures.value c.in_err-push.ensures.items))

pub returns-clause-ok : goal.returns-clause-ok
returns-clause-ok c =
    let lists = c.self.inside.lists.items in
    let within : c.args.number < length lists = omega (arith, c.in_ok-reach.ensures.reached, ap length c.self.view_is, lists_long lists) in
    let same : AreSame c.args.self.now (lists_in lists) = subst (AreSame c.args.self.now) (sym c.self.view_is) c.in_ok-reach.ensures.same in
    longer_after c.args.number c.args.place c.args.self.now (lists_in lists) (lists_in (set lists c.args.number c.push.new.self)) same
    (lists_pushed lists c.args.number c.args.place c.index_mut.result.now c.push.new.self within c.index_mut.ensures.value c.in_ok-push.ensures.items)
