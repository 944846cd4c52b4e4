-- The grammar of option ROMs: bytes are images, one after the other, and an end (PCI Firmware 3.2: PCI
-- Expansion ROM Header Format, PCI Data Structure Format; UEFI 2.8: PCI Option ROMs). In the definitions
-- for an image, `rest` is the bytes of the ROM from the image's first byte on.
use Rattle.std.specs.Prelude.{ℕ, zero, suc, ◌+◌, ◌*◌, ◌/◌, ◌%◌, ◌^◌, List, [], ◌∷◌, length, take, drop, slice_index, Bool, true, false, not, ◌&&◌, ◌||◌, nat_eq, nat_lt, codes, Option, Some, None, option_map, if◌then◌else◌}
use Rattle.std.specs.List.{find, starts_with}
use Rattle.byteorder.specs.Endian.{little_number}
use Rattle.fw_types.specs.Layout.{uint16_at, uint32_at}
use Rattle.fw_types.specs.declared.image.TheConstants.{EFI_CODE}
use Rattle.fw_types.specs.declared.image.RomEnd.{RomEnd}
use Rattle.fw_types.specs.declared.image.RomEnd.TheVariants.{Done, BadSignature, BadPcir, LengthZero, PastEnd}

-- ---- fields

-- where the PCI data structure begins, from the image's first byte
abbrev pub pcir_place : List ℕ → ℕ
pcir_place rest = uint16_at 24 rest

-- the bytes from the PCI data structure on
abbrev pub pcir : List ℕ → List ℕ
pcir rest = drop (pcir_place rest) rest

-- how many bytes the image has: its length counts units of 512
abbrev pub image_length : List ℕ → ℕ
image_length rest = 512 * uint16_at 16 (pcir rest)

-- bit 7 of the indicator: no image follows this one
abbrev pub is_last : List ℕ → Bool
is_last rest = nat_eq (slice_index (pcir rest) 21 / 2 ^ 7 % 2) 1

-- ---- what is no image

-- the header is cut off, or does not begin with its signature
abbrev pub lacks_header : List ℕ → Bool
lacks_header rest = nat_lt (length rest) 26 || not (starts_with nat_eq rest (0x55 ∷ 0xAA ∷ []))

-- the PCI data structure is cut off, or does not begin with its signature
abbrev pub lacks_pcir : List ℕ → Bool
lacks_pcir rest = nat_lt (length rest) (pcir_place rest + 24) || not (starts_with nat_eq (pcir rest) (codes "PCIR"))

abbrev pub has_no_length : List ℕ → Bool
has_no_length rest = nat_eq (image_length rest) 0

-- the image is longer than what is left of the ROM
abbrev pub is_cut_off : List ℕ → Bool
is_cut_off rest = nat_lt (length rest) (image_length rest)

-- a test, and how a ROM ends if it holds
pub record Condition : Type 0 where
  pub holds : List ℕ → Bool
  pub end : RomEnd

-- the conditions in the order in which they count
abbrev pub conditions : List Condition
conditions =
    record { holds = lacks_header; end = BadSignature }
    ∷ record { holds = lacks_pcir; end = BadPcir }
    ∷ record { holds = has_no_length; end = LengthZero }
    ∷ record { holds = is_cut_off; end = PastEnd }
    ∷ []

-- why there is no image here: the first condition that holds. If none holds, there is an image
abbrev pub end_at : List ℕ → Option RomEnd
end_at rest = option_map (λ condition. condition.end) (find (λ condition. condition.holds rest) conditions)

-- ---- what an image says

pub record Image : Type 0 where
  -- how many bytes it has in the ROM
  pub size : ℕ
  pub vendor : ℕ
  pub device : ℕ
  pub class : ℕ
  pub code_type : ℕ
  pub machine : ℕ
  pub compression : ℕ
  pub body : List ℕ

-- the signature of the header of an EFI image
abbrev pub efi_signature : ℕ
efi_signature = 0x0EF1

-- the code type and the signature are those of EFI: the header is that of an EFI image
abbrev pub is_efi : List ℕ → Bool
is_efi rest = nat_eq (slice_index (pcir rest) 20) EFI_CODE && nat_eq (uint32_at 4 rest) efi_signature

-- the bytes of the image
abbrev pub image_bytes : List ℕ → List ℕ
image_bytes rest = take (image_length rest) rest

-- vendor, device, class and code type are in the PCI data structure. The header of an EFI image has its
-- machine, its compression, and where its body begins; the body of another image is the whole image
abbrev pub image_at : List ℕ → Image
image_at rest = record {
  size = image_length rest;
  vendor = uint16_at 4 (pcir rest);
  device = uint16_at 6 (pcir rest);
  class = little_number 3 (drop 13 (pcir rest));
  code_type = slice_index (pcir rest) 20;
  machine = if is_efi rest then uint16_at 10 rest else 0;
  compression = if is_efi rest then uint16_at 12 rest else 0;
  body = if is_efi rest then drop (uint16_at 22 rest) (image_bytes rest) else image_bytes rest;
}

-- ---- the ROM

-- how many bytes images have together
abbrev pub size_of_images : List Image → ℕ
size_of_images [] = 0
size_of_images (image ∷ images) = image.size + size_of_images images

-- images, and how the ROM ends
pub record Rom : Type 0 where
  pub images : List Image
  pub end : RomEnd

-- what is here, if `more` is the ROM after the image: nothing but the end, the last image, or an image and
-- more
abbrev pub rom_from : Option RomEnd → Bool → Image → Rom → Rom
rom_from (Some end) last image more = record { images = []; end = end }
rom_from None true image more = record { images = image ∷ []; end = Done }
rom_from None false image more = record { images = image ∷ more.images; end = more.end }

-- the ROM in bytes of which there are at most so many: each image has at least one
unfoldable pub rom_within : ℕ → List ℕ → Rom
rom_within zero rest = record { images = []; end = BadSignature }
rom_within (suc most) rest =
    rom_from (end_at rest) (is_last rest) (image_at rest) (rom_within most (drop (image_length rest) rest))

-- bytes as a ROM
unfoldable pub rom_in : List ℕ → Rom
rom_in bytes = rom_within (length bytes) bytes
