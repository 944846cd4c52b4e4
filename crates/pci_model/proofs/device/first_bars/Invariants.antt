use Rattle.std.proofs.Common.{◌≡◌, map, take}
use Rattle.pci_model.specs.ConfigSpace.{first_bytes}
use Rattle.pci_model.proofs.device.first_bars.Given as goal

-- the BARs so far
abbrev pub invariant-loop-range : goal.invariant-loop-range
invariant-loop-range l = l.bars.items ≡ map first_bytes (take l.range-index l.ranges)
