use Rattle.std.proofs.Common.{arith}
use Rattle.pe_image.proofs.RuleLemmas.{keeps_limits}
use Rattle.pe_image.proofs.image.PeView.size.Goals as goal

pub returns-clause-some : goal.returns-clause-some
returns-clause-some c = let numbers = keeps_limits c.self.inside.bytes.now c.self.invariant in omega arith

pub returns-clause-at_most : goal.returns-clause-at_most
returns-clause-at_most c = let numbers = keeps_limits c.self.inside.bytes.now c.self.invariant in omega arith
