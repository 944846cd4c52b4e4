use Rattle.std.proofs.Common.{◌≡◌, take}
use Rattle.pci_model.proofs.tables.copies_of.Given as goal

-- the lines so far are copied
abbrev pub invariant-loop-line : goal.invariant-loop-line
invariant-loop-line l = l.copies.items ≡ take l.line-index l.lines
