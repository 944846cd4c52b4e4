-- What an image holds once it is laid at an address (PE/COFF: Section Table, The .reloc Section, Base
-- Relocation Types).
use Rattle.std.specs.Prelude.{ℕ, ◌+◌, ◌-◌, ◌%◌, ◌^◌, nat_eq, List, ◌++◌, map, fold, take, replicate, find, slice_index, if◌then◌else◌}
use Rattle.std.specs.List.{range_with_len}
use Rattle.std.specs.Option.{option_map_or}
use Rattle.byteorder.specs.Endian.{little_bytes}
use Rattle.fw_types.specs.Layout.{put, uint32_at, uint64_at}
use Rattle.pe_image.specs.Headers.{headers_of, sections_of, has_copied, file_place}
use Rattle.pe_image.specs.Relocations.{high_low, dir_64, entries_of}
use Rattle.pe_image.specs.declared.relocations.Entry.{Entry}

-- the headers, followed by zeros up to the size of the image
unfoldable pub headers_alone : List ℕ → List ℕ
headers_alone bytes =
    let headers = headers_of bytes in
    take headers.size_of_headers bytes ++ replicate (headers.size_of_image - headers.size_of_headers) 0

-- the byte at a place before relocation: the file's, if the copied part of a section has the place;
-- otherwise the headers' byte or 0
abbrev pub byte_at : List ℕ → ℕ → ℕ
byte_at bytes place =
    option_map_or (λ section. slice_index bytes (file_place place section))
    (find (has_copied place 1) (sections_of bytes)) (slice_index (headers_alone bytes) place)

-- the image before relocation
unfoldable pub plain_image : List ℕ → List ℕ
plain_image bytes = map (byte_at bytes) (range_with_len 0 (headers_of bytes).size_of_image)

-- how far the image lies from its preferred base, in 64 bits that wrap
abbrev pub delta_of : List ℕ → ℕ → ℕ
delta_of bytes base = (base + (2 ^ 64 - (headers_of bytes).image_base)) % 2 ^ 64

-- an image with one relocation applied: type 3 adds the low half of delta to 4 bytes, type 10 adds delta
-- to 8 bytes, both wrapping
unfoldable pub relocated : ℕ → List ℕ → Entry → List ℕ
relocated delta image entry =
    if nat_eq entry.kind high_low
    then put entry.place (little_bytes 4 ((uint32_at entry.place image + delta % 2 ^ 32) % 2 ^ 32)) image
    else if nat_eq entry.kind dir_64
    then put entry.place (little_bytes 8 ((uint64_at entry.place image + delta) % 2 ^ 64)) image
    else image

-- the image of an accepted file at a base address: the relocations of the file applied in its order
unfoldable pub laid : List ℕ → ℕ → List ℕ
laid bytes base = fold (relocated (delta_of bytes base)) (plain_image bytes) (entries_of bytes)
