use Rattle.pci_model.proofs.WriteLaws.{config_byte}
use Rattle.pci_model.proofs.laws.writes_are_bytes.Goals as goal

pub returns-clause-config : goal.returns-clause-config
returns-clause-config c at place bytes config size = config_byte at place bytes config size
