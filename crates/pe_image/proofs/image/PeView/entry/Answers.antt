use Rattle.pe_image.proofs.RuleLemmas.{keeps_limits}
use Rattle.pe_image.proofs.image.PeView.entry.Goals as goal

pub returns-clause-even : goal.returns-clause-even
returns-clause-even c =
    let numbers = keeps_limits c.self.inside.bytes.now c.self.invariant in
    rw c.entry_point.ensures numbers.entry_even

pub returns-clause-inside : goal.returns-clause-inside
returns-clause-inside c =
    let numbers = keeps_limits c.self.inside.bytes.now c.self.invariant in
    rw (c.entry_point.ensures, ← c.self.view_is) numbers.entry_inside
