use Rattle.std.proofs.Common.{◌≡◌, [], take}
use Rattle.std.specs.List.{filter_map}
use Rattle.pci_model.specs.BoardLines.{name_at}
use Rattle.pci_model.proofs.tables.name_in.Given as goal

-- the lines so far give no name
abbrev pub invariant-loop-line : goal.invariant-loop-line
invariant-loop-line l = filter_map (name_at l.location) (take l.line-index l.lines) ≡ []
