use Rattle.std.proofs.Common.{◌≡◌, map}
use Rattle.std.specs.List.{range_with_len}
use Rattle.service_model.specs.Many.{interface_named}
use Rattle.leaf_services.proofs.reentries.interfaces_named.Given as goal

-- the interfaces so far
abbrev pub invariant-loop-i : goal.invariant-loop-i
invariant-loop-i l = l.named.items ≡ map (interface_named l.handle l.list l.w.now) (range_with_len 0 l.i)
