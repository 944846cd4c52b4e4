use Rattle.std.proofs.Common.{subst}
use Rattle.record_rows.specs.Numbers.{AreDistinct}
use Rattle.record_rows.proofs.NumberLemmas.{one_number}
use Rattle.record_rows.proofs.numbers.Numbers.soundness.Goals as goal

pub returns : goal.returns
returns g c = subst AreDistinct c.self.view_is (one_number g.K.Ord.cmp c.self.inside.numbers c.self.inside.owners.items c.self.invariant)
