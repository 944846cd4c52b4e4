-- The listing of an image's code, laid at 0: from the entry to the end of the section that has it, and
-- nothing if no section has it.
use Rattle.std.specs.Prelude.{ℕ, List, [], Option, Some, None, slice_range}
use Rattle.pe_image.specs.ImageRules.{code_end_of, entry_of}
use Rattle.pe_image.specs.LaidImage.{laid}
use Rattle.ebc_asm.specs.Listing.{listing}

abbrev pub code_listing_to : Option ℕ → List ℕ → List ℕ
code_listing_to None file = []
code_listing_to (Some end) file = listing (slice_range (laid file 0) (entry_of file) end) (entry_of file)

abbrev pub code_listing : List ℕ → List ℕ
code_listing file = code_listing_to (code_end_of file) file
