-- The listing of the image of code that is entered at its first byte.
use Rattle.std.proofs.Common.{◌≡◌, ◌<◌, ◌+◌, ◌^◌, ℕ, List, fold, length, refl, ◌∙◌, lit<}
use Rattle.std.specs.Prelude.{Option, Some, None, Result, Ok, Err, IsOkAnd, slice_range}
use Rattle.pe_image.specs.ImageRules.{code_end_of, entry_of}
use Rattle.pe_image.specs.LaidImage.{laid}
use Rattle.rom_builder.specs.LaidMadeImage.{with_base}
use Rattle.rom_builder.specs.MadeImage.{fault_of, made_image, places_of}
use Rattle.rom_builder.specs.SortedOnce.{sorted_once}
use Rattle.rom_builder.specs.declared.parts.BuildFault.{BuildFault}
use Rattle.rom_builder.specs.declared.parts.DriverParts.{DriverParts}
use Rattle.ebc_asm.specs.Assembly.{assembly_of}
use Rattle.ebc_asm.specs.Listing.{listing}
use Rattle.ebc_asm.specs.declared.fault.AsmKind.{AsmKind}
use Rattle.image_tools.specs.ImageListing.{code_listing}
use Rattle.image_tools.specs.Tools.{assembled_answer, driver_parts, image_or_fault, line_not_ascii, listing_answer, text_answer}

-- what the laws of made images say
pub record ImageLaws : Type 0 where
  pub laid_is : (parts : DriverParts) (base : ℕ) → fault_of parts ≡ None → base < 2 ^ 64 → laid (made_image parts) base ≡ fold (with_base base) (made_image parts) (places_of parts)
  pub entry_is : (parts : DriverParts) → fault_of parts ≡ None → entry_of (made_image parts) ≡ 512 + parts.entry
  pub end_is : (parts : DriverParts) → fault_of parts ≡ None → code_end_of (made_image parts) ≡ Some (512 + length parts.code)
  pub code_is : (parts : DriverParts) → slice_range (made_image parts) 512 (512 + length parts.code) ≡ parts.code

listing-made : ImageLaws → (code : List ℕ) → fault_of (driver_parts code 0) ≡ None → code_listing (made_image (driver_parts code 0)) ≡ listing code 512
unfolding sorted_once
listing-made laws code made =
    let parts = driver_parts code 0 in
    let at : entry_of (made_image parts) ≡ 512 = laws.entry_is parts made in
    let there : laid (made_image parts) 0 ≡ made_image parts = laws.laid_is parts 0 made (lit< tt) in
    rw (laws.end_is parts made, at, there, laws.code_is parts) refl

by_fault : ImageLaws → (code : List ℕ) (fault : Option BuildFault) → fault_of (driver_parts code 0) ≡ fault → (image_or_fault fault (driver_parts code 0)).status ≡ 0
    → code_listing (image_or_fault fault (driver_parts code 0)).output ≡ listing code 512
by_fault laws code None made done = listing-made laws code made
by_fault laws code (Some fault) made done = absurd cc

by_reading : ImageLaws → (reading : Result (List ℕ) (ℕ × AsmKind)) (text expected : List ℕ) → IsOkAnd reading (λ code. listing code 512 ≡ expected) → (assembled_answer reading None text).status ≡ 0
    → code_listing (assembled_answer reading None text).output ≡ expected
by_reading laws (Ok code) text expected same done = by_fault laws code (fault_of (driver_parts code 0)) refl done ∙ same
by_reading laws (Err refusal) text expected same done = absurd same

by_line : ImageLaws → (line : Option ℕ) (text expected : List ℕ) → IsOkAnd (assembly_of text) (λ code. listing code 512 ≡ expected) → (text_answer line None text).status ≡ 0
    → code_listing (text_answer line None text).output ≡ expected
by_line laws None text expected same done = by_reading laws (assembly_of text) text expected same done
by_line laws (Some number) text expected same done = absurd cc

pub read_back : ImageLaws → (text expected : List ℕ) → IsOkAnd (assembly_of text) (λ code. listing code 512 ≡ expected) → (listing_answer None text).status ≡ 0 → code_listing (listing_answer None text).output ≡ expected
read_back laws text expected same done = by_line laws (line_not_ascii 1 text) text expected same done
