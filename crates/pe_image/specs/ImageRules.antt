-- Which files are EBC drivers that are loaded: PE32+ images for the machine EBC (PE/COFF). Twelve rules,
-- in their order; the first that a file breaks is the refusal.
use Rattle.std.specs.Prelude.{ℕ, ◌+◌, ◌*◌, ◌%◌, Bool, true, ◌&&◌, ◌||◌, not, nat_eq, nat_lt, nat_le, List, [], ◌∷◌, ◌++◌, length, map, drop, codes, find, Option}
use Rattle.std.specs.List.{list_any, starts_with, zip}
use Rattle.std.specs.Option.{option_map, option_map_or}
use Rattle.fw_types.specs.declared.image.TheConstants.{BOOT_SERVICE_DRIVER, MACHINE_EBC, RUNTIME_DRIVER}
use Rattle.fw_types.specs.declared.limits.TheConstants.{MOST_FILE_BYTES}
use Rattle.fw_types.specs.declared.image.PeRefusal.{PeRefusal}
use Rattle.fw_types.specs.declared.image.PeRefusal.TheVariants.{Short, NoMz, NoPe, Machine, Magic, Subsystem, Stripped, Size, Headers, Section, Reloc, Entry}
use Rattle.pe_image.specs.Headers.{headers_of, section_table, sections_of, copied_size, end_of, has_address}
use Rattle.pe_image.specs.Relocations.{has_directory, directory_place, directory_at, is_bad_directory}
use Rattle.pe_image.specs.declared.sections.SectionHeader.{SectionHeader}

-- 1. MS-DOS Stub: a DOS header has 64 bytes
unfoldable pub is_short : List ℕ → Bool
is_short bytes = nat_lt (length bytes) 64

-- 2. and begins with MZ
unfoldable pub lacks_mz : List ℕ → Bool
lacks_mz bytes = not (starts_with nat_eq bytes (codes "MZ"))

-- 3. Signature: the 4 bytes PE and two zeros, followed by the 20 bytes of the COFF file header
unfoldable pub lacks_pe : List ℕ → Bool
lacks_pe bytes =
    let signature = (headers_of bytes).signature in
    nat_lt (length bytes) (signature + 24) || not (starts_with nat_eq (drop signature bytes) (codes "PE" ++ 0 ∷ 0 ∷ []))

-- 4. Machine Types: EBC
unfoldable pub is_for_another_machine : List ℕ → Bool
is_for_another_machine bytes = not (nat_eq (headers_of bytes).machine MACHINE_EBC)

-- 5. Optional Header: all of PE32+ that comes before the directories, in the file, with its magic number
unfoldable pub lacks_optional_header : List ℕ → Bool
lacks_optional_header bytes =
    let headers = headers_of bytes in
    nat_lt headers.optional_size 112 || nat_lt (length bytes) (headers.optional + headers.optional_size) || not (nat_eq headers.magic 0x020B)

-- 6. Windows Subsystem: EFI boot service driver or EFI runtime driver
abbrev pub is_driver : ℕ → Bool
is_driver subsystem = nat_eq subsystem BOOT_SERVICE_DRIVER || nat_eq subsystem RUNTIME_DRIVER

unfoldable pub is_no_driver : List ℕ → Bool
is_no_driver bytes = not (is_driver (headers_of bytes).subsystem)

-- 7. Characteristics: bit 0 says that the relocations were stripped
unfoldable pub is_stripped : List ℕ → Bool
is_stripped bytes = nat_eq ((headers_of bytes).characteristics % 2) 1

-- 8. Optional Header Windows-Specific Fields: the size of the image, at most that of a file
unfoldable pub has_bad_size : List ℕ → Bool
has_bad_size bytes =
    let size = (headers_of bytes).size_of_image in
    nat_eq size 0 || nat_lt MOST_FILE_BYTES size

-- 9. the size of the headers lies in the image and in the file, and the section table in the headers
unfoldable pub has_bad_headers : List ℕ → Bool
has_bad_headers bytes =
    let headers = headers_of bytes in
    nat_lt headers.size_of_image headers.size_of_headers || nat_lt (length bytes) headers.size_of_headers
    || nat_lt 96 headers.section_count
    || nat_lt headers.size_of_headers (section_table bytes + 40 * headers.section_count)

-- 10. Section Table: each section with the end of what comes before it in the image, which is the headers
-- for the first section, and the section before it for each other
abbrev pub placed_from : ℕ → List SectionHeader → List (ℕ × SectionHeader)
placed_from front sections = zip (front ∷ map end_of sections) sections

-- whether a section meets what comes before it, passes the end of the image, or is copied from past the
-- end of the file
abbrev pub is_misplaced : ℕ → ℕ → ℕ × SectionHeader → Bool
is_misplaced length_of_file size_of_image placed =
    let section = placed.1 in
    nat_lt section.address placed.0 || nat_lt size_of_image (end_of section)
    || (not (nat_eq (copied_size section) 0) && nat_lt length_of_file (section.file_offset + copied_size section))

unfoldable pub has_misplaced_section : List ℕ → Bool
has_misplaced_section bytes =
    let headers = headers_of bytes in
    list_any (is_misplaced (length bytes) headers.size_of_image) (placed_from headers.size_of_headers (sections_of bytes))

-- 11. The .reloc Section: if there is a relocation directory, it lies in the copied part of a section,
-- and its blocks and entries are well formed
unfoldable pub has_bad_relocations : List ℕ → Bool
has_bad_relocations bytes =
    has_directory bytes
    && option_map_or (λ place. is_bad_directory (headers_of bytes).size_of_image (directory_at bytes place)) (directory_place bytes) true

-- 12. Optional Header Standard Fields: the entry point is even and lies in the image
unfoldable pub has_bad_entry : List ℕ → Bool
has_bad_entry bytes =
    let headers = headers_of bytes in
    nat_eq (headers.entry_point % 2) 1 || nat_le headers.size_of_image headers.entry_point

-- the rules: a test that a file must not pass, and the refusal if it does
abbrev pub rules : List ((List ℕ → Bool) × PeRefusal)
rules =
    (is_short, Short)
    ∷ (lacks_mz, NoMz)
    ∷ (lacks_pe, NoPe)
    ∷ (is_for_another_machine, Machine)
    ∷ (lacks_optional_header, Magic)
    ∷ (is_no_driver, Subsystem)
    ∷ (is_stripped, Stripped)
    ∷ (has_bad_size, Size)
    ∷ (has_bad_headers, Headers)
    ∷ (has_misplaced_section, Section)
    ∷ (has_bad_relocations, Reloc)
    ∷ (has_bad_entry, Entry)
    ∷ []

-- why a file is not accepted: the first rule that it breaks
unfoldable pub refusal_of : List ℕ → Option PeRefusal
refusal_of bytes = option_map (λ rule. rule.1) (find (λ rule. rule.0 bytes) rules)

-- ---- what an accepted file says about itself

-- the size of the laid image, in bytes
abbrev pub size_of : List ℕ → ℕ
size_of bytes = (headers_of bytes).size_of_image

-- the entry point's place in the laid image
abbrev pub entry_of : List ℕ → ℕ
entry_of bytes = (headers_of bytes).entry_point

abbrev pub subsystem_of : List ℕ → ℕ
subsystem_of bytes = (headers_of bytes).subsystem

-- the end in the laid image of the section that has the entry point
unfoldable pub code_end_of : List ℕ → Option ℕ
code_end_of bytes = option_map end_of (find (has_address (entry_of bytes)) (sections_of bytes))
