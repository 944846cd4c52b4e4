-- What the headers of a PE32+ file say (PE/COFF: Signature, COFF File Header, Optional Header, Optional
-- Header Data Directories, Section Table). Each field is read at its place, whatever the file is; a
-- byte past the file's end counts as 0.
use Rattle.std.specs.Prelude.{ℕ, ◌+◌, ◌-◌, ◌*◌, min, Bool, ◌&&◌, nat_eq, nat_lt, nat_le, List, map, if◌then◌else◌}
use Rattle.std.specs.List.{range_with_len}
use Rattle.byteorder.specs.Endian.{little_bytes}
use Rattle.fw_types.specs.Layout.{uint16_at, uint32_at, uint64_at}
use Rattle.pe_image.specs.declared.sections.Section.{Section}
use Rattle.pe_image.specs.declared.sections.SectionHeader.{SectionHeader}

-- the fields of the headers that count here
pub record Headers : Type 0 where
  -- the places of the PE signature and of the optional header, which follows the COFF file header
  pub signature : ℕ
  pub optional : ℕ
  -- COFF File Header
  pub machine : ℕ
  pub section_count : ℕ
  pub optional_size : ℕ
  pub characteristics : ℕ
  -- Optional Header Standard Fields
  pub magic : ℕ
  pub entry_point : ℕ
  -- Optional Header Windows-Specific Fields
  pub image_base : ℕ
  pub size_of_image : ℕ
  pub size_of_headers : ℕ
  pub subsystem : ℕ
  pub directory_count : ℕ
  -- Optional Header Data Directories: Base Relocation Table
  pub relocations : ℕ
  pub size_of_relocations : ℕ

-- the headers of a file; the DOS header has the place of the PE signature at 0x3C
abbrev pub headers_of : List ℕ → Headers
headers_of bytes =
    let signature = uint32_at 0x3C bytes in
    let optional = signature + 24 in
    record {
      signature = signature;
      optional = optional;
      machine = uint16_at (signature + 4) bytes;
      section_count = uint16_at (signature + 6) bytes;
      optional_size = uint16_at (signature + 20) bytes;
      characteristics = uint16_at (signature + 22) bytes;
      magic = uint16_at optional bytes;
      entry_point = uint32_at (optional + 16) bytes;
      image_base = uint64_at (optional + 24) bytes;
      size_of_image = uint32_at (optional + 56) bytes;
      size_of_headers = uint32_at (optional + 60) bytes;
      subsystem = uint16_at (optional + 68) bytes;
      directory_count = uint32_at (optional + 108) bytes;
      relocations = uint32_at (optional + 152) bytes;
      size_of_relocations = uint32_at (optional + 156) bytes;
    }

-- ---- sections (PE/COFF: Section Table)

-- the section header at a place
abbrev pub section_at : ℕ → List ℕ → SectionHeader
section_at place bytes = record {
  virtual_size = uint32_at (place + 8) bytes;
  address = uint32_at (place + 12) bytes;
  raw_size = uint32_at (place + 16) bytes;
  file_offset = uint32_at (place + 20) bytes;
}

-- the section table follows the optional header, with 40 bytes for each section
abbrev pub section_table : List ℕ → ℕ
section_table bytes = (headers_of bytes).optional + (headers_of bytes).optional_size

unfoldable pub sections_of : List ℕ → List SectionHeader
sections_of bytes =
    map (λ i. section_at (section_table bytes + 40 * i) bytes) (range_with_len 0 (headers_of bytes).section_count)

-- a section with its name, which is the 8 bytes at the front of its header
abbrev pub named_section_at : ℕ → List ℕ → Section
named_section_at place bytes =
    let header = section_at place bytes in
    record {
      name = little_bytes 8 (uint64_at place bytes);
      virtual_size = header.virtual_size;
      address = header.address;
      raw_size = header.raw_size;
      file_offset = header.file_offset;
    }

unfoldable pub named_sections_of : List ℕ → List Section
named_sections_of bytes =
    map (λ i. named_section_at (section_table bytes + 40 * i) bytes) (range_with_len 0 (headers_of bytes).section_count)

-- how many bytes a section has in the image: its virtual size, or its raw size if that is 0
abbrev pub extent_of : SectionHeader → ℕ
extent_of section = if nat_eq section.virtual_size 0 then section.raw_size else section.virtual_size

-- how many of its bytes are copied from the file; the others are 0
abbrev pub copied_size : SectionHeader → ℕ
copied_size section = min (extent_of section) section.raw_size

-- the address at which a section ends
abbrev pub end_of : SectionHeader → ℕ
end_of section = section.address + extent_of section

-- whether an address lies in a section
abbrev pub has_address : ℕ → SectionHeader → Bool
has_address place section = nat_le section.address place && nat_lt place (end_of section)

-- whether so many bytes at an address are all copied from the file
abbrev pub has_copied : ℕ → ℕ → SectionHeader → Bool
has_copied place count section =
    nat_le section.address place && nat_le (place + count) (section.address + copied_size section)

-- where the file has the byte of an address that is copied
abbrev pub file_place : ℕ → SectionHeader → ℕ
file_place place section = section.file_offset + (place - section.address)
