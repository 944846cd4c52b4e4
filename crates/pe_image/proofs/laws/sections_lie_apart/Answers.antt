use Rattle.pe_image.proofs.RuleLemmas.{keeps_rules}
use Rattle.pe_image.proofs.SectionPlaceLemmas.{sections_apart}
use Rattle.pe_image.proofs.laws.sections_lie_apart.Goals as goal

pub returns : goal.returns
returns c = λ bytes h. sections_apart bytes (keeps_rules bytes h).sections
