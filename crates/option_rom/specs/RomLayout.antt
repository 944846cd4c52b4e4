-- The option ROMs that the writer makes (PCI Firmware 3.2: PCI Expansion ROM Header Format, PCI Data
-- Structure Format; UEFI 2.8: PCI Option ROMs).
use Rattle.std.specs.Prelude.{◌≡◌, ℕ, ◌+◌, ◌-◌, ◌*◌, ◌/◌, ◌^◌, List, [], ◌∷◌, ◌++◌, length, map, replicate, Bool, true, false, ◌||◌, ◌&&◌, nat_lt, codes, Option, Some, None, Result, Ok, Err, if◌then◌else◌}
use Rattle.std.specs.List.{list_any}
use Rattle.std.specs.declared.vec.Vec.{Vec}
use Rattle.std.specs.declared.alloc.Global.{Global}
use Rattle.byteorder.specs.Endian.{little_bytes}
use Rattle.fw_types.specs.Layout.{Field, plain_bytes, put_all, uint8, uint16, uint32}
use Rattle.fw_types.specs.declared.image.TheConstants.{BOOT_SERVICE_DRIVER, EFI_CODE, MACHINE_EBC}
use Rattle.fw_types.specs.declared.image.RomEnd.TheVariants.{Done}
use Rattle.option_rom.specs.RomGrammar.{Image, Rom, efi_signature}
use Rattle.option_rom.specs.declared.part.RomPart.{RomPart}
use Rattle.option_rom.specs.declared.part.RomWriteFault.{RomWriteFault}
use Rattle.option_rom.specs.declared.part.RomWriteFault.TheVariants.{Empty, TooLong, OutOfMemory}

-- ---- the layout

-- the header of an EFI image, whose length counts units of 512 bytes; the body begins at 64, and the PCI
-- data structure at 28
abbrev pub header_fields : ℕ → List Field
header_fields units =
    plain_bytes 0 (codes "ROM Signature") (0x55 ∷ 0xAA ∷ [])
    ∷ uint16 2 (codes "Initialization Size") units
    ∷ uint32 4 (codes "EFI Signature") efi_signature
    ∷ uint16 8 (codes "Subsystem") BOOT_SERVICE_DRIVER
    ∷ uint16 10 (codes "Machine Type") MACHINE_EBC
    ∷ uint16 12 (codes "Compression Type") 0
    ∷ uint16 22 (codes "Offset to EFI Image") 64
    ∷ uint16 24 (codes "Offset to PCIR Data Structure") 28
    ∷ []

-- the indicator: only bit 7, and that only in the last image
abbrev pub indicator : Bool → ℕ
indicator last = if last then 0x80 else 0

-- the PCI data structure at 28
abbrev pub pcir_fields : ℕ → Bool → RomPart → List Field
pcir_fields units last part =
    plain_bytes 28 (codes "Signature") (codes "PCIR")
    ∷ uint16 32 (codes "Vendor Identification") part.vendor
    ∷ uint16 34 (codes "Device Identification") part.device
    ∷ uint16 38 (codes "PCI Data Structure Length") 24
    ∷ uint8 40 (codes "PCI Data Structure Revision") 0
    ∷ plain_bytes 41 (codes "Class Code") (little_bytes 3 part.class)
    ∷ uint16 44 (codes "Image Length") units
    ∷ uint8 48 (codes "Code Type") EFI_CODE
    ∷ uint8 49 (codes "Last Image Indicator") (indicator last)
    ∷ []

-- how many units of 512 bytes hold the header of 64 bytes and a body
abbrev pub units_of : List ℕ → ℕ
units_of body = (64 + length body + 511) / 512

-- what comes before the body: zeros except for the fields
unfoldable pub front_of : ℕ → Bool → RomPart → List ℕ
front_of units last part = put_all (pcir_fields units last part) (put_all (header_fields units) (replicate 64 0))

-- a body, and zeros up to the end of its last unit
abbrev pub padded_body : List ℕ → List ℕ
padded_body body = body ++ replicate (512 * units_of body - 64 - length body) 0

-- the image of a part
abbrev pub laid_part : Bool → RomPart → List ℕ
laid_part last part = front_of (units_of part.body) last part ++ padded_body part.body

-- whether no part follows
abbrev pub is_none_left : List RomPart → Bool
is_none_left [] = true
is_none_left (part ∷ parts) = false

-- the whole ROM: the images of the parts, one after the other
abbrev pub laid_rom : List RomPart → List ℕ
laid_rom [] = []
laid_rom (part ∷ parts) = laid_part (is_none_left parts) part ++ laid_rom parts

-- ---- what is refused

-- the longest body: its image has 65,535 units of 512 bytes
abbrev pub longest_body : ℕ
longest_body = 33553856

-- the highest class, of three bytes
abbrev pub highest_class : ℕ
highest_class = 0xFFFFFF

abbrev pub is_too_long : RomPart → Bool
is_too_long part = nat_lt longest_body (length part.body) || nat_lt highest_class part.class

-- vendor and device are numbers of two bytes, as those of every part in the program are
abbrev pub has_ids : RomPart → Bool
has_ids part = nat_lt part.vendor (2 ^ 16) && nat_lt part.device (2 ^ 16)

-- why parts are refused
abbrev pub fault_of : List RomPart → Option RomWriteFault
fault_of parts = if is_none_left parts then Some Empty else if list_any is_too_long parts then Some TooLong else None

-- an answer refuses for this cause and for no other, unless memory ran out
abbrev pub RefusesFor : Option RomWriteFault → Result (Vec ℕ Global) RomWriteFault → Type 0
RefusesFor fault (Ok rom) = fault ≡ None
RefusesFor fault (Err Empty) = fault ≡ Some Empty
RefusesFor fault (Err TooLong) = fault ≡ Some TooLong
RefusesFor fault (Err OutOfMemory) = fault ≡ None

-- ---- what is read back

-- what the image of a part says
abbrev pub image_of : RomPart → Image
image_of part = record {
  size = 512 * units_of part.body;
  vendor = part.vendor;
  device = part.device;
  class = part.class;
  code_type = EFI_CODE;
  machine = MACHINE_EBC;
  compression = 0;
  body = padded_body part.body;
}

abbrev pub rom_of_parts : List RomPart → Rom
rom_of_parts parts = record { images = map image_of parts; end = Done }
