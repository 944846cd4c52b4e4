use Rattle.pci_model.proofs.RomLaws.{rom_is_new}
use Rattle.pci_model.proofs.laws.roms_are_apart.Goals as goal

pub returns : goal.returns
returns c = rom_is_new
