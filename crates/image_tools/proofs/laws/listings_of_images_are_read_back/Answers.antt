use Rattle.ebc_asm.specs.Listing.{listing, listing_lines, texts}
use Rattle.image_tools.proofs.ReadBackLemmas.{read_back}
use Rattle.image_tools.proofs.laws.listings_of_images_are_read_back.Goals as goal

pub returns : goal.returns
returns c bytes small whole =
    read_back (record {
      laid_is = c.made_images_are_laid.ensures;
      entry_is = c.made_images_have_their_code.ensures.entry;
      end_is = c.made_images_have_their_code.ensures.end;
      code_is = c.made_images_have_their_code.ensures.code;
    }) (texts (listing_lines bytes 512)) (listing bytes 512) (c.listing_is_read_back.ensures bytes 512 small whole)
