use Rattle.std.proofs.Common.{◌≡◌, length, take}
use Rattle.world_model.specs.Opening.{opening_soft}
use Rattle.soft_part.proofs.roots.add_roots.Given as goal

-- the root bridges so far
abbrev pub invariant-loop-bridge : goal.invariant-loop-bridge
invariant-loop-bridge l = l.soft ≡ opening_soft (length l.fn.soft.bus_lists) (take l.bridge-index l.bridges)
