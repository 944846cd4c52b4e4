use Rattle.std.proofs.Common.{◌≡◌, false, fold, length}
use Rattle.pe_image.specs.Relocations.{is_bad_directory, entries_of_directory}
use Rattle.pe_image.specs.LaidImage.{relocated}
use Rattle.pe_image.proofs.laying.relocate_directory.Given as goal

-- the blocks that are left give the image that all of them give
abbrev pub invariant-loop-rest : goal.invariant-loop-rest
invariant-loop-rest l = record {
  whole : fold (relocated l.delta) l.image (entries_of_directory l.rest) ≡ fold (relocated l.delta) l.fn.image (entries_of_directory l.directory);
  good : is_bad_directory (length l.image) l.rest ≡ false;
}

abbrev pub decreases-loop-rest : goal.decreases-loop-rest
decreases-loop-rest l = length l.rest
