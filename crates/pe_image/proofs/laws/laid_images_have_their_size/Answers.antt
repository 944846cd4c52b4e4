use Rattle.pe_image.proofs.LaidSizeLemmas.{length-laid}
use Rattle.pe_image.proofs.RuleLemmas.{keeps_limits}
use Rattle.pe_image.proofs.laws.laid_images_have_their_size.Goals as goal

pub returns-clause-size : goal.returns-clause-size
returns-clause-size c = length-laid

pub returns-clause-entry_inside : goal.returns-clause-entry_inside
returns-clause-entry_inside c = λ bytes fine. (keeps_limits bytes fine).entry_inside
