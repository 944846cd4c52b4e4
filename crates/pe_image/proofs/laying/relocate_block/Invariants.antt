use Rattle.std.proofs.Common.{◌≡◌, false, map, fold, length}
use Rattle.std.specs.List.{list_any}
use Rattle.pe_image.specs.Relocations.{words_in, block_entry, is_bad_entry}
use Rattle.pe_image.specs.LaidImage.{relocated}
use Rattle.pe_image.proofs.laying.relocate_block.Given as goal

-- the entries that are left give the image that all of them give
abbrev pub invariant-loop-rest : goal.invariant-loop-rest
invariant-loop-rest l = record {
  whole : fold (relocated l.delta) l.image (map (block_entry l.page) (words_in l.rest)) ≡ fold (relocated l.delta) l.fn.image (map (block_entry l.page) (words_in l.words));
  good : list_any (is_bad_entry (length l.image)) (map (block_entry l.page) (words_in l.rest)) ≡ false;
}

abbrev pub decreases-loop-rest : goal.decreases-loop-rest
decreases-loop-rest l = length l.rest
