use Rattle.std.proofs.Common.{List, subst}
use Rattle.record_rows.specs.Index.{RowKey}
use Rattle.record_rows.specs.IndexInside.{IsIndexed}
use Rattle.record_rows.proofs.ListedLemmas.{indexed_fewer}
use Rattle.record_rows.proofs.row_index.RowIndex.pop.Goals as goal

pub invariant_of-self : goal.invariant_of-self
invariant_of-self c =
    let were = subst (λ (keys : List RowKey). IsIndexed keys c.self.inside.places c.self.inside.named) c.in-Some.ensures.gone c.self.invariant in
    indexed_fewer c.pop.new.self c.in-Some.key c.self.inside.places c.pop-in-Some.new.self c.self.inside.named c.pop-in-Some-2.new.self were c.pop-in-Some.ensures c.pop-in-Some-2.ensures
