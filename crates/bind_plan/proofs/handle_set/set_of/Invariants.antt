use Rattle.std.proofs.Common.{take}
use Rattle.bind_plan.specs.HandleSet.{IsSetOf}
use Rattle.bind_plan.proofs.handle_set.set_of.Given as goal

-- the numbers so far
abbrev pub invariant-loop-number : goal.invariant-loop-number
invariant-loop-number l = IsSetOf (take l.number-index l.numbers) l.set
