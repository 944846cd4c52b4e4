use Rattle.std.proofs.Common.{length}
use Rattle.option_rom.proofs.tests.walked.Given as goal

-- a step takes an image
abbrev pub decreases-loop-image : goal.decreases-loop-image
decreases-loop-image l = length l.walk.images
