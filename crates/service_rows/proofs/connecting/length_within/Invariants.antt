use Rattle.std.proofs.Common.{◌≡◌}
use Rattle.service_rows.proofs.HandleList.{first_from}
use Rattle.service_rows.proofs.connecting.length_within.Given as goal

-- the first slot without a handle from here on is the first one in the whole list
abbrev pub invariant-loop-i : goal.invariant-loop-i
invariant-loop-i l = first_from l.list l.i l.slots l.w.now ≡ first_from l.list 0 l.slots l.w.now
