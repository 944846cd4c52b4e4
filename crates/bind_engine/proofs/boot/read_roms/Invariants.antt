use Rattle.std.proofs.Common.{◌≡◌, ◌≤◌, length, take}
use Rattle.std.specs.Prelude.{Some}
use Rattle.std.specs.List.{filter_map}
use Rattle.fw_shelf.specs.Shelf.{Files}
use Rattle.pci_model.specs.BoardLines.{functions}
use Rattle.world_model.specs.Boards.{roms_in}
use Rattle.bind_engine.specs.Boot.{note_of_line}
use Rattle.bind_engine.proofs.BootRoms.{roms_so_far}
use Rattle.bind_engine.proofs.boot.read_roms.Given as goal

-- the ROMs and the notes of the lines so far
abbrev pub invariant-loop-line : goal.invariant-loop-line
invariant-loop-line g l = record {
  roms : (files : Files) → g.F.Shelf.files l.initial.shelf ≡ Some files → roms_in l.read.roms.items ≡ roms_so_far files l.board.lines (take l.line-index l.board.lines);
  notes : (files : Files) → g.F.Shelf.files l.initial.shelf ≡ Some files → l.read.notes.items ≡ filter_map (note_of_line files) (take l.line-index l.board.lines);
  size : length l.read.roms.items ≡ length (functions l.board.lines);
  same_files : g.F.Shelf.files l.shelf ≡ g.F.Shelf.files l.initial.shelf;
  faults : g.F.Shelf.faults l.initial.shelf ≤ g.F.Shelf.faults l.shelf;
  becomes : g.F.Shelf.becomes l.initial.shelf l.shelf;
}
