use Rattle.std.proofs.Common.{◌≡◌, ◌++◌, length}
use Rattle.std.specs.Prelude.{filter, map}
use Rattle.option_rom.specs.RomGrammar.{Image}
use Rattle.driver_model.specs.RomDrivers.{drivers_in, is_loadable}
use Rattle.bind_parts.proofs.rom_drivers.drivers_in.Given as goal

-- the files so far, and then those of the images that are left
abbrev pub invariant-loop-image : goal.invariant-loop-image
invariant-loop-image l = l.files ++ map (λ (image : Image). image.body) (filter is_loadable l.walk.images) ≡ drivers_in l.rom

-- how many images are left
abbrev pub decreases-loop-image : goal.decreases-loop-image
decreases-loop-image l = length l.walk.images
