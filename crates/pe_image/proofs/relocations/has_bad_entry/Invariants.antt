use Rattle.std.proofs.Common.{◌≡◌, map, length}
use Rattle.std.specs.List.{list_any}
use Rattle.pe_image.specs.Relocations.{words_in, block_entry, is_bad_entry}
use Rattle.pe_image.proofs.relocations.has_bad_entry.Given as goal

-- no entry so far is bad
abbrev pub invariant-loop-rest : goal.invariant-loop-rest
invariant-loop-rest l =
    list_any (is_bad_entry l.size) (map (block_entry l.page) (words_in l.rest))
    ≡ list_any (is_bad_entry l.size) (map (block_entry l.page) (words_in l.words))

abbrev pub decreases-loop-rest : goal.decreases-loop-rest
decreases-loop-rest l = length l.rest
