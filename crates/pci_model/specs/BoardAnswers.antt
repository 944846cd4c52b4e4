-- What reading the lines of a board answers.
use Rattle.std.specs.Prelude.{◌≡◌, List, Some, None, Result, Ok, Err}
use Rattle.pci_model.specs.BoardRules.{board_fault}
use Rattle.pci_model.specs.Devices.{BoardState, board_of}
use Rattle.pci_model.specs.declared.line.BoardLine.{BoardLine}
use Rattle.pci_model.specs.declared.fault.BoardFault.{BoardFault}
use Rattle.pci_model.specs.declared.fault.BoardFault.TheVariants.{Extra, Number, Duplicate, OutOfMemory}

-- the board of the lines, or the fault of the first line that has one, unless memory ran out
abbrev pub GivesBoard : Result BoardState BoardFault → List BoardLine → Type 0
GivesBoard (Ok board) lines = (board_fault lines ≡ None) × (board ≡ board_of lines)
GivesBoard (Err (Extra line)) lines = board_fault lines ≡ Some (Extra line)
GivesBoard (Err (Number line)) lines = board_fault lines ≡ Some (Number line)
GivesBoard (Err (Duplicate line)) lines = board_fault lines ≡ Some (Duplicate line)
GivesBoard (Err OutOfMemory) lines = Unit {0}
