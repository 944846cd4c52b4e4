-- Which statuses answers have.
use Rattle.std.proofs.Common.{◌≡◌, ℕ, List, Bool, true, false, nat_eq, refl, arith}
use Rattle.std.proofs.lemmas.Bool.Decides.{nat_tests}
use Rattle.fw_shelf.specs.Faults.{Rose}
use Rattle.std.specs.Prelude.{Option, Some, None, Result, Ok, Err}
use Rattle.option_rom.specs.RomLayout.{fault_of as rom_fault_of}
use Rattle.option_rom.specs.declared.part.RomPart.{RomPart}
use Rattle.option_rom.specs.declared.part.RomWriteFault.{RomWriteFault}
use Rattle.rom_builder.specs.MadeImage.{fault_of}
use Rattle.rom_builder.specs.declared.parts.BuildFault.{BuildFault}
use Rattle.rom_builder.specs.declared.parts.DriverParts.{DriverParts}
use Rattle.ebc_asm.specs.Assembly.{assembly_of}
use Rattle.ebc_asm.specs.declared.fault.AsmKind.{AsmKind}
use Rattle.image_tools.specs.Tools.{assembled_answer, bodies_answer, driver_parts, entered_answer, entry_place, image_or_fault, is_file_status, line_not_ascii, listing_answer, parts_of, rom_or_fault, text_answer}

image-status : (fault : Option BuildFault) (parts : DriverParts) → is_file_status (image_or_fault fault parts).status ≡ true
image-status None parts = refl
image-status (Some fault) parts = refl

entered-status : (place : Option ℕ) (code : List ℕ) → is_file_status (entered_answer place code).status ≡ true
entered-status None code = refl
entered-status (Some place) code = image-status (fault_of (driver_parts code place)) (driver_parts code place)

assembled-status : (reading : Result (List ℕ) (ℕ × AsmKind)) (entry : Option (List ℕ)) (text : List ℕ) → is_file_status (assembled_answer reading entry text).status ≡ true
assembled-status (Ok code) entry text = entered-status (entry_place entry text) code
assembled-status (Err (number, kind)) entry text = refl

text-status : (line : Option ℕ) (entry : Option (List ℕ)) (text : List ℕ) → is_file_status (text_answer line entry text).status ≡ true
text-status None entry text = assembled-status (assembly_of text) entry text
text-status (Some number) entry text = refl

-- the answer for a listing has a status of files
pub listing-status : (entry : Option (List ℕ)) (text : List ℕ) → is_file_status (listing_answer entry text).status ≡ true
listing-status entry text = text-status (line_not_ascii 1 text) entry text

rom-status : (fault : Option RomWriteFault) (parts : List RomPart) → is_file_status (rom_or_fault fault parts).status ≡ true
rom-status None parts = refl
rom-status (Some fault) parts = refl

-- and so has the answer for the bytes of files
pub bodies-status : (vendor device class : ℕ) (bodies : List (List ℕ)) → is_file_status (bodies_answer vendor device class (Ok bodies)).status ≡ true
bodies-status vendor device class bodies = rom-status (rom_fault_of (parts_of vendor device class bodies)) (parts_of vendor device class bodies)

-- the status is not 4 if the sink did not fail
pub not_four : (status before now : ℕ) → (status ≡ 4 → Rose before now) → (Rose before now → ⊥) → nat_eq status 4 ≡ false
not_four status before now failed calm = by_test (nat_eq status 4) refl
  where
    by_test : (test : Bool) → nat_eq status 4 ≡ test → test ≡ false
    by_test true is = absurd (calm (failed (grind (arith, nat_tests))))
    by_test false is = refl
