use Rattle.std.proofs.Common.{◌≡◌, ◌++◌, length}
use Rattle.rom_builder.specs.MadeImage.{page_blocks}
use Rattle.rom_builder.specs.SortedOnce.{RiseFrom}
use Rattle.rom_builder.proofs.relocations.page_blocks.Given as goal

-- the blocks so far, and those of the places that are left, are all
abbrev pub invariant-loop-rest : goal.invariant-loop-rest
invariant-loop-rest l = record {
  whole : l.blocks.items ++ page_blocks l.rest ≡ page_blocks l.places;
  rises : RiseFrom 0 l.rest;
}

abbrev pub decreases-loop-rest : goal.decreases-loop-rest
decreases-loop-rest l = length l.rest
