use Rattle.std.proofs.Common.{◌≡◌, length}
use Rattle.pe_image.specs.Relocations.{is_bad_directory}
use Rattle.pe_image.proofs.relocations.is_bad_directory.Given as goal

-- no block so far is bad
abbrev pub invariant-loop-rest : goal.invariant-loop-rest
invariant-loop-rest l = is_bad_directory l.size l.rest ≡ is_bad_directory l.size l.directory

abbrev pub decreases-loop-rest : goal.decreases-loop-rest
decreases-loop-rest l = length l.rest
