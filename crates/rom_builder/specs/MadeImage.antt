-- The files that the image writer makes of a driver's code: PE32+ images for the machine EBC with headers
-- of 512 bytes, a section `.text` and, if there are relocations, a section `.reloc` (PE/COFF: File Headers,
-- Optional Header, Section Table, The .reloc Section).
use Rattle.std.specs.Prelude.{◌≡◌, ℕ, ◌+◌, ◌-◌, ◌*◌, ◌/◌, ◌%◌, Bool, ◌||◌, not, nat_eq, nat_lt, nat_le, List, [], ◌∷◌, ◌++◌, length, filter, map, find, replicate, codes, Option, Some, None, Result, Ok, Err, if◌then◌else◌}
use Rattle.std.specs.List.{list_any, flat_map}
use Rattle.std.specs.Option.{option_map}
use Rattle.std.specs.declared.vec.Vec.{Vec}
use Rattle.std.specs.declared.alloc.Global.{Global}
use Rattle.byteorder.specs.Endian.{little_bytes}
use Rattle.fw_types.specs.Layout.{Field, plain_bytes, put_all, uint16, uint32}
use Rattle.fw_types.specs.declared.image.TheConstants.{BOOT_SERVICE_DRIVER, MACHINE_EBC, RUNTIME_DRIVER}
use Rattle.fw_types.specs.declared.limits.TheConstants.{MOST_FILE_BYTES}
use Rattle.rom_builder.specs.SortedOnce.{sorted_once}
use Rattle.rom_builder.specs.declared.parts.DriverParts.{DriverParts}
use Rattle.rom_builder.specs.declared.parts.BuildFault.{BuildFault}
use Rattle.rom_builder.specs.declared.parts.BuildFault.TheVariants.{TooLong, BadEntry, BadReloc, BadSubsystem, OutOfMemory}

-- a length rounded up to the file alignment
abbrev pub aligned : ℕ → ℕ
aligned size = (size + 511) / 512 * 512

-- ---- relocations (PE/COFF: Base Relocation Block, Base Relocation Types)

-- the places of the image at which 8 bytes are relocated; the code begins at 512
abbrev pub places_of : DriverParts → List ℕ
places_of parts = sorted_once (map (λ offset. 512 + offset) parts.relocs)

-- the page of a place
abbrev pub page_of : ℕ → ℕ
page_of place = place / 4096

-- the pages that have one of these places
abbrev pub pages_of : List ℕ → List ℕ
pages_of places = sorted_once (map page_of places)

-- the places of a page
abbrev pub places_in : ℕ → List ℕ → List ℕ
places_in page places = filter (λ place. nat_eq (page_of place) page) places

-- the entry for a place: type 10 in bits 15 to 12, and the offset in the page in bits 11 to 0
abbrev pub entry_for : (place : ℕ) → ℕ
entry_for place = 0xA000 + place % 4096

-- an entry for each place
abbrev pub entry_bytes : List ℕ → List ℕ
entry_bytes places = flat_map (λ place. little_bytes 2 (entry_for place)) places

-- and one of type 0 if their number is odd, so that each block begins at a multiple of 4 bytes
abbrev pub padded_entries : List ℕ → List ℕ
padded_entries entries = entries ++ (if nat_eq (length entries % 4) 0 then [] else little_bytes 2 0)

-- the block of a page with these entries: the address of the page, the size of the block, and the entries
abbrev pub block_with : ℕ → List ℕ → List ℕ
block_with page entries = little_bytes 4 (4096 * page) ++ little_bytes 4 (8 + length entries) ++ entries

-- the block of a page that has these places
abbrev pub page_block : ℕ → List ℕ → List ℕ
page_block page places = block_with page (padded_entries (entry_bytes places))

-- a block for each page that has one of the places
unfoldable pub page_blocks : List ℕ → List ℕ
page_blocks places = flat_map (λ page. page_block page (places_in page places)) (pages_of places)

abbrev pub relocation_blocks : DriverParts → List ℕ
relocation_blocks parts = page_blocks (places_of parts)

-- ---- headers

-- the DOS and the COFF file header; bits 1 to 3 of the characteristics say that the image can be run, and
-- that it has no line numbers and no local symbols
abbrev pub file_fields : ℕ → List Field
file_fields sections =
    plain_bytes 0x00 (codes "e_magic") (codes "MZ")
    ∷ uint32 0x3C (codes "e_lfanew") 0x40
    ∷ plain_bytes 0x40 (codes "Signature") (codes "PE")
    ∷ uint16 0x44 (codes "Machine") MACHINE_EBC
    ∷ uint16 0x46 (codes "NumberOfSections") sections
    ∷ uint16 0x54 (codes "SizeOfOptionalHeader") 160
    ∷ uint16 0x56 (codes "Characteristics") 0x000E
    ∷ []

-- the optional header at 0x58, up to the data directories
abbrev pub optional_fields : ℕ → ℕ → ℕ → List Field
optional_fields entry size_of_image subsystem =
    uint16 0x58 (codes "Magic") 0x020B
    ∷ uint32 0x68 (codes "AddressOfEntryPoint") (512 + entry)
    ∷ uint32 0x78 (codes "SectionAlignment") 512
    ∷ uint32 0x7C (codes "FileAlignment") 512
    ∷ uint32 0x90 (codes "SizeOfImage") size_of_image
    ∷ uint32 0x94 (codes "SizeOfHeaders") 512
    ∷ uint16 0x9C (codes "Subsystem") subsystem
    ∷ uint32 0xC4 (codes "NumberOfRvaAndSizes") 6
    ∷ []

-- the header of the section that has the code, at 0xF8
abbrev pub code_fields : ℕ → List Field
code_fields size =
    plain_bytes 0xF8 (codes "Name") (codes ".text")
    ∷ uint32 0x100 (codes "VirtualSize") size
    ∷ uint32 0x104 (codes "VirtualAddress") 512
    ∷ uint32 0x108 (codes "SizeOfRawData") (aligned size)
    ∷ uint32 0x10C (codes "PointerToRawData") 512
    ∷ []

-- if there are relocations: the data directory of the relocations, which is the section at a place, and the
-- header of that section at 0x120
abbrev pub relocation_fields : ℕ → ℕ → List Field
relocation_fields place size =
    uint32 0xF0 (codes "Base Relocation Table: VirtualAddress") place
    ∷ uint32 0xF4 (codes "Base Relocation Table: Size") size
    ∷ plain_bytes 0x120 (codes "Name") (codes ".reloc")
    ∷ uint32 0x128 (codes "VirtualSize") size
    ∷ uint32 0x12C (codes "VirtualAddress") place
    ∷ uint32 0x130 (codes "SizeOfRawData") (aligned size)
    ∷ uint32 0x134 (codes "PointerToRawData") place
    ∷ []

-- the headers of an image of so many bytes of code and of relocations: zeros except for the fields
unfoldable pub header_bytes : ℕ → ℕ → ℕ → ℕ → List ℕ
header_bytes entry subsystem size relocations =
    let place = 512 + aligned size in
    let sections = if nat_eq relocations 0 then 1 else 2 in
    put_all (if nat_eq relocations 0 then [] else relocation_fields place relocations)
    (put_all (code_fields size)
    (put_all (optional_fields entry (place + aligned relocations) subsystem)
    (put_all (file_fields sections) (replicate 512 0))))

-- ---- the file

-- bytes, and zeros up to the file alignment
abbrev pub padded_bytes : List ℕ → List ℕ
padded_bytes bytes = bytes ++ replicate (aligned (length bytes) - length bytes) 0

-- the headers, the code and the relocations
unfoldable pub made_image : DriverParts → List ℕ
made_image parts =
    header_bytes parts.entry parts.subsystem (length parts.code) (length (relocation_blocks parts))
    ++ padded_bytes parts.code
    ++ padded_bytes (relocation_blocks parts)

-- ---- refusals, in their order

-- the file with all relocations, wherever they are, has more bytes than a file may have
unfoldable pub is_too_long : DriverParts → Bool
is_too_long parts = nat_lt MOST_FILE_BYTES (length (made_image parts))

-- the entry is odd, or not in the code
unfoldable pub has_bad_entry : DriverParts → Bool
has_bad_entry parts = nat_eq (parts.entry % 2) 1 || nat_le (length parts.code) parts.entry

-- the 8 bytes at a relocation do not lie in the code
unfoldable pub has_bad_reloc : DriverParts → Bool
has_bad_reloc parts = list_any (λ offset. nat_lt (length parts.code) (offset + 8)) parts.relocs

-- the subsystem is not that of a driver
unfoldable pub has_bad_subsystem : DriverParts → Bool
has_bad_subsystem parts = not (nat_eq parts.subsystem BOOT_SERVICE_DRIVER || nat_eq parts.subsystem RUNTIME_DRIVER)

-- the rules: a test that parts must not pass, and the refusal if they do
abbrev pub rules : List ((DriverParts → Bool) × BuildFault)
rules =
    (is_too_long, TooLong)
    ∷ (has_bad_entry, BadEntry)
    ∷ (has_bad_reloc, BadReloc)
    ∷ (has_bad_subsystem, BadSubsystem)
    ∷ []

-- why no image is made of parts: the first rule that they break
unfoldable pub fault_of : DriverParts → Option BuildFault
fault_of parts = option_map (λ rule. rule.1) (find (λ rule. rule.0 parts) rules)

-- what the image writer answers, unless memory ran out
abbrev pub Gives : Result (Vec ℕ Global) BuildFault → DriverParts → Type 0
Gives (Ok file) parts = (fault_of parts ≡ None) × (file.items ≡ made_image parts)
Gives (Err OutOfMemory) parts = Unit {0}
Gives (Err TooLong) parts = fault_of parts ≡ Some TooLong
Gives (Err BadEntry) parts = fault_of parts ≡ Some BadEntry
Gives (Err BadReloc) parts = fault_of parts ≡ Some BadReloc
Gives (Err BadSubsystem) parts = fault_of parts ≡ Some BadSubsystem
