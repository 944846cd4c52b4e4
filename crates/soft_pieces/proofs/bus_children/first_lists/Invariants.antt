use Rattle.std.proofs.Common.{◌≡◌, None, replicate}
use Rattle.soft_pieces.proofs.bus_children.first_lists.Given as goal

-- so many lists are there
abbrev pub invariant-loop : goal.invariant-loop
invariant-loop l = l.lists.items ≡ replicate l.counter None
