use Rattle.pci_model.proofs.LineLaws.{each_passes, refused_at_first}
use Rattle.pci_model.proofs.PassingLines.{board_fault-push, no_lines}
use Rattle.pci_model.proofs.laws.lines_are_checked.Goals as goal

pub returns-clause-refused : goal.returns-clause-refused
returns-clause-refused c lines fault is = refused_at_first lines fault is

pub returns-clause-passes : goal.returns-clause-passes
returns-clause-passes c before after line ok = each_passes before after line ok

pub returns-clause-none : goal.returns-clause-none
returns-clause-none c = no_lines

pub returns-clause-more : goal.returns-clause-more
returns-clause-more c before line ok none = board_fault-push before line ok none
