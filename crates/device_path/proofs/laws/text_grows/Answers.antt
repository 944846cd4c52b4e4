use Rattle.device_path.proofs.GrowingText.{text_of-with_pci}
use Rattle.device_path.proofs.laws.text_grows.Goals as goal

pub returns : goal.returns
returns c bytes child text device function due before = text_of-with_pci bytes child text device function due before
