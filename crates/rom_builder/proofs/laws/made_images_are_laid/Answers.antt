use Rattle.rom_builder.proofs.LaidImageLemmas.{laid-made_image}
use Rattle.rom_builder.proofs.laws.made_images_are_laid.Goals as goal

pub returns : goal.returns
returns c = laid-made_image
