use Rattle.std.proofs.Common.{◌≡◌, map}
use Rattle.std.specs.List.{range_with_len}
use Rattle.service_model.specs.Connecting.{handle_at}
use Rattle.leaf_services.proofs.reentries.context_of.Given as goal

-- the handles so far
abbrev pub invariant-loop-i : goal.invariant-loop-i
invariant-loop-i l = l.handles.items ≡ map (handle_at l.list l.w.now) (range_with_len 0 l.i)
