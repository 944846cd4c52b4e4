-- The bytes so far, before those of the files that are left.
use Rattle.std.proofs.Common.{◌≡◌, ◌≤◌, drop}
use Rattle.std.specs.Prelude.{Some}
use Rattle.fw_shelf.specs.Shelf.{Files}
use Rattle.image_tools.specs.Steps.{bytes_in}
use Rattle.image_tools.specs.Tools.{bodies_of, words_in}
use Rattle.image_tools.proofs.FileLemmas.{after_bodies}
use Rattle.image_tools.proofs.files.find_bodies.Given as goal

abbrev pub invariant-loop-name : goal.invariant-loop-name
invariant-loop-name g l = record {
  found : (files : Files) → g.F.Shelf.files l.fn.shelf ≡ Some files → bodies_of files (words_in l.names) ≡ after_bodies (bytes_in l.bodies.items) (bodies_of files (words_in (drop l.name-index l.names)));
  same_files : g.F.Shelf.files l.shelf ≡ g.F.Shelf.files l.fn.shelf;
  becomes : g.F.Shelf.becomes l.fn.shelf l.shelf;
  faults : g.F.Shelf.faults l.fn.shelf ≤ g.F.Shelf.faults l.shelf;
}
