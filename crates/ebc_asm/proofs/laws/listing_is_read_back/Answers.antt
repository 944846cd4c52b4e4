use Rattle.ebc_asm.proofs.LinesReadBack.{listing_read_back}
use Rattle.ebc_asm.proofs.laws.listing_is_read_back.Goals as goal

pub returns : goal.returns
returns c bytes at small whole = listing_read_back c.decoding_is_of_its_form.ensures c.spelling_decodes.ensures bytes at small whole
