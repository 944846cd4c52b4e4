use Rattle.std.proofs.Common.{◌≡◌, ◌<◌, true, length, arith}
use Rattle.record_rows.proofs.ListedLemmas.{lists_popped}
use Rattle.record_rows.proofs.place_lists.PlaceLists.pop_if.Goals as goal

pub returns-then-number-len : goal.returns-then-number-len
returns-then-number-len c =
    let lists = c.self.inside.lists.items in
    let within : c.args.number < length lists = omega (arith, c.if-number-len.true, c.len.ensures, c.self.inside.lists.ok.0) in
    let chosen : c.args.chosen ≡ true = c.if-not-chosen.false in
    rw (chosen, ← c.self.view_is) (lists_popped lists c.args.number c.index_mut.result.now c.pop.new.self within c.index_mut.ensures.value c.pop.ensures.rest)
