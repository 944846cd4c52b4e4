use Rattle.std.proofs.Common.{◌≡◌, take}
use Rattle.bind_plan.proofs.numbers.numbers_of.Given as goal

-- the numbers so far
abbrev pub invariant-loop-handle : goal.invariant-loop-handle
invariant-loop-handle l = l.numbers.items ≡ take l.handle-index l.handles
