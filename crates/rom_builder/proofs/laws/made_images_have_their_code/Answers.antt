use Rattle.rom_builder.proofs.CodeLemmas.{code_there, made_code}
use Rattle.rom_builder.proofs.laws.made_images_have_their_code.Goals as goal

pub returns-clause-entry : goal.returns-clause-entry
returns-clause-entry c parts made = (made_code parts made).entry

pub returns-clause-end : goal.returns-clause-end
returns-clause-end c parts made = (made_code parts made).end

pub returns-clause-code : goal.returns-clause-code
returns-clause-code c parts = code_there parts
