use Rattle.pci_model.proofs.BoardLimits.{few_functions, few_lines, few_roots}
use Rattle.pci_model.proofs.laws.boards_are_small.Goals as goal

pub returns-clause-roots : goal.returns-clause-roots
returns-clause-roots c lines ok = few_roots lines ok

pub returns-clause-functions : goal.returns-clause-functions
returns-clause-functions c lines ok = few_functions lines ok

pub returns-clause-lines : goal.returns-clause-lines
returns-clause-lines c lines ok = few_lines lines ok
