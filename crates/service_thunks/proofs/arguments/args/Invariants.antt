use Rattle.std.proofs.Common.{◌≡◌, Some}
use Rattle.service_thunks.specs.Arguments.{arguments}
use Rattle.service_thunks.proofs.arguments.args.Given as goal

-- the slots so far are read, and the others are 0
abbrev pub invariant-loop-i : goal.invariant-loop-i
invariant-loop-i g l = arguments (g.M.GuestMem.segments l.mem) l.sp l.i ≡ Some l.slots
