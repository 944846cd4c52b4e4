use Rattle.std.proofs.Common.{length, ap, arith}
use Rattle.pci_model.proofs.BoardLimits.{few_functions}
use Rattle.pci_model.proofs.board.Board.bridge_to.Goals as goal

pub overflow_cast-result : goal.overflow_cast-result
overflow_cast-result c =
    omega (arith, few_functions c.self.inside.lines.items c.self.invariant.sound.lines, c.in_ok-place.ensures.within, ap length c.as_slice.ensures.value, ap length c.self.invariant.functions)
