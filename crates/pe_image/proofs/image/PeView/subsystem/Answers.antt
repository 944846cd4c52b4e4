use Rattle.pe_image.proofs.RuleLemmas.{keeps_limits}
use Rattle.pe_image.proofs.image.PeView.subsystem.Goals as goal

pub returns-clause-driver : goal.returns-clause-driver
returns-clause-driver c =
    let numbers = keeps_limits c.self.inside.bytes.now c.self.invariant in
    rw c.subsystem.ensures numbers.driver
