use Rattle.std.proofs.Common.{◌≡◌, None, take}
use Rattle.pci_model.specs.BoardRules.{board_fault}
use Rattle.pci_model.proofs.rules.board_fault.Given as goal

-- the lines so far are a board
abbrev pub invariant-loop-place : goal.invariant-loop-place
invariant-loop-place l = board_fault (take l.place l.lines) ≡ None
