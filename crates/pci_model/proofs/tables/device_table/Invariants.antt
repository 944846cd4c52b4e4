use Rattle.std.proofs.Common.{◌≡◌, map, take}
use Rattle.pci_model.specs.ConfigSpace.{first_device}
use Rattle.pci_model.proofs.tables.device_table.Given as goal

-- the devices of the functions so far
abbrev pub invariant-loop-function : goal.invariant-loop-function
invariant-loop-function l = l.table.items ≡ map (first_device l.lines) (take l.function-index l.functions)
