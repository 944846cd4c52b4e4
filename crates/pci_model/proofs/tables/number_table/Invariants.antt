use Rattle.std.proofs.Common.{◌≡◌, take}
use Rattle.std.specs.List.{position}
use Rattle.std.specs.BTreeMap.{get}
use Rattle.pci_model.specs.BoardLines.{Location, is_at}
use Rattle.pci_model.specs.Indexed.{location_cmp}
use Rattle.pci_model.specs.declared.function.Function.{Function}
use Rattle.pci_model.proofs.tables.number_table.Given as goal

-- the table has the functions so far
abbrev pub invariant-loop-number : goal.invariant-loop-number
invariant-loop-number l =
    (location : Location) → get location_cmp l.table location ≡ position (λ (function : Function). is_at function.location location) (take l.number l.functions)
