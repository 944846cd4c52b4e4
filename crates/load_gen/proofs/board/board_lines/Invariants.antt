use Rattle.std.proofs.Common.{◌≡◌}
use Rattle.std.specs.Prelude.{None}
use Rattle.pci_model.specs.BoardRules.{board_fault}
use Rattle.load_gen.specs.GeneratedLoad.{board_lines}
use Rattle.load_gen.proofs.board.board_lines.Given as goal

-- the lines so far are a board
abbrev pub invariant-loop-number : goal.invariant-loop-number
invariant-loop-number l = record {
  lines : l.lines.items ≡ board_lines l.number;
  board : board_fault l.lines.items ≡ None;
}
