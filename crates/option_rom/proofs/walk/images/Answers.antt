use Rattle.option_rom.proofs.RomLemmas.{images-fit, images-most}
use Rattle.option_rom.proofs.walk.images.Goals as goal

pub returns-clause-most : goal.returns-clause-most
returns-clause-most c = images-most c.args.bytes.now

pub returns-clause-within : goal.returns-clause-within
returns-clause-within c = images-fit c.args.bytes.now
