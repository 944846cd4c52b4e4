use Rattle.std.proofs.Common.{◌≡◌, length}
use Rattle.option_rom.specs.RomGrammar.{rom_in}
use Rattle.driver_model.specs.Spending.{Spends}
use Rattle.bind_engine.specs.Machine.{IsIdle}
use Rattle.bind_engine.specs.RomLoad.{no_images, with_images}
use Rattle.bind_engine.proofs.rom_load.load_images.Given as goal

-- loading the images that are left gives the same as loading all images from the beginning
abbrev pub invariant-loop-image : goal.invariant-loop-image
invariant-loop-image l = record {
  done : with_images l.settings l.walk.images (l.tally, l.world.now) ≡ with_images l.fn.settings (rom_in l.file).images (no_images, l.initial.world.now);
  end : l.walk.end ≡ (rom_in l.file).end;
  spends : Spends l.initial.world.now.hard l.world.now.hard;
  idle : IsIdle l.world;
}

-- how many images are left
abbrev pub decreases-loop-image : goal.decreases-loop-image
decreases-loop-image l = length l.walk.images
