use Rattle.std.proofs.Common.{sym}
use Rattle.image_tools.proofs.respond.respond.Goals as goal

pub returns-in-Some-Rom-clause-answered : goal.returns-in-Some-Rom-clause-answered
returns-in-Some-Rom-clause-answered g c = λ files known. rw (sym c.in-Some-Rom.ensures, c.in-Some-Rom.field-0-is) (c.rom_answer.ensures.answered files known)
