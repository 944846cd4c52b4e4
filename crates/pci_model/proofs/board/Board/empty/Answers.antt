use Rattle.std.proofs.Common.{refl, arith}
use Rattle.std.proofs.lemmas.Grind.{common_steps}
use Rattle.pci_model.specs.BoardRules.{board_fault}
use Rattle.pci_model.proofs.board.Board.empty.Goals as goal

pub invariant_of-result : goal.invariant_of-result
unfolding board_fault
invariant_of-result c = rw (c.new.ensures.items, c.new-2.ensures.items, c.new-3.ensures.items, c.new-5.ensures.items) (record {
  sound = record { lines = refl; devices = refl };
  roots = refl;
  functions = refl;
  numbers = λ location. grind (arith, common_steps);
})
