use Rattle.std.proofs.Common.{◌≡◌}
use Rattle.std.specs.List.{range_with_len}
use Rattle.pci_model.specs.BoardLines.{functions_at}
use Rattle.pci_model.proofs.board.Board.functions_of.Given as goal

-- the functions at the places so far
abbrev pub invariant-loop-position : goal.invariant-loop-position
invariant-loop-position l = l.numbers.items ≡ functions_at l.self.lines l.bus (range_with_len 0 l.position)
