-- A made image is itself before relocation, and its entries are its relocations.
use Rattle.std.proofs.Common.{◌≡◌, ◌⊎◌, ◌≤◌, ◌<◌, ◌+◌, ◌-◌, ◌*◌, ◌%◌, ℕ, Bool, true, false, nat_eq, nat_le, nat_lt, cond, List, [], ◌∷◌, ◌++◌, length, map, fold, take, drop, replicate, find, slice_index, Some, None, if◌then◌else◌, refl, ap, sym, ◌∙◌, inl, inr, arith}
use Rattle.std.specs.List.{list_any, list_all, flat_map}
use Rattle.std.specs.Option.{option_map_or}
use Rattle.std.proofs.lemmas.Bool.{cases_lt}
use Rattle.std.proofs.lemmas.Bool.Decides.{nat_tests}
use Rattle.std.proofs.lemmas.List.{length-append, length-replicate, length-take-le, get_or-take, get_or-replicate, get_or_past, get_or_append_left, get_or-append_right}
use Rattle.std.proofs.lemmas.List.Sums.{fold-append}
use Rattle.byteorder.specs.Endian.{little_bytes}
use Rattle.fw_types.specs.Layout.{uint64_at}
use Rattle.pe_image.specs.Headers.{headers_of, copied_size, has_copied, file_place}
use Rattle.pe_image.specs.declared.sections.SectionHeader.{SectionHeader}
use Rattle.pe_image.specs.Relocations.{has_directory, entries_of, Block, block_of, words_in, block_entry, entries_in, entries_of_directory}
use Rattle.pe_image.specs.LaidImage.{headers_alone, byte_at, plain_image, delta_of, relocated, laid}
use Rattle.pe_image.proofs.ImageByteLemmas.{plain_image-by_place}
use Rattle.pe_image.proofs.BlockLemmas.{entries_of_directory-behind, entries_of_directory-none}
use Rattle.rom_builder.specs.MadeImage.{page_block, page_blocks, entry_bytes, entry_for, padded_entries, page_of, pages_of, places_in, places_of, relocation_blocks, aligned, padded_bytes, header_bytes, made_image, fault_of}
use Rattle.rom_builder.specs.LaidMadeImage.{with_base}
use Rattle.rom_builder.specs.declared.parts.DriverParts.{DriverParts}
use Rattle.rom_builder.proofs.SizeLemmas.{IsBuildable, buildable, made_image_size, length-header_bytes, length-padded_bytes}
use Rattle.rom_builder.proofs.HeaderLemmas.{MadeHeaders}
use Rattle.rom_builder.proofs.AcceptanceLemmas.{code_section, relocation_section, sections-one, sections-two, headers_without, headers_with, section_with, directory_found, blocks_there}
use Rattle.rom_builder.proofs.BlockLemmas.{is_good_place, and_parts, entry_kind, entry_place, words_in-entry, block_of-made, length-made, good_block, good_in_page, is_near, left_after, pages_near, places_inside, short_entries}
use Rattle.rom_builder.proofs.PageLemmas.{all_pages, few_in_page}
use Rattle.rom_builder.proofs.SortedOnceLemmas.{rise-sorted_once}

-- ---- entries that add the base

-- an entry of type 10 adds it at its place
entry_adds : (base page place : ℕ) (image : List ℕ) → nat_eq (page_of place) page ≡ true → relocated base image (block_entry (4096 * page) (entry_for place)) ≡ with_base base image place
unfolding relocated
entry_adds base page place image here = rw (entry_kind place, entry_place page place here) refl

entries_add : (size base page : ℕ) (places tail image : List ℕ) → list_all (is_good_place size page) places ≡ true
    → fold (relocated base) image (map (block_entry (4096 * page)) (words_in (entry_bytes places ++ tail)))
    ≡ fold (relocated base) (fold (with_base base) image places) (map (block_entry (4096 * page)) (words_in tail))
entries_add size base page [] tail image good = refl
entries_add size base page (place ∷ places) tail image good =
    let parts = and_parts (is_good_place size page place) (list_all (is_good_place size page) places) good in
    let here = (and_parts (nat_eq (page_of place) page) (nat_le (place + 8) size) parts.0).0 in
    ap (λ (words : List ℕ). fold (relocated base) image (map (block_entry (4096 * page)) words)) (words_in-entry place places tail)
    ∙ ap (λ (next : List ℕ). fold (relocated base) next (map (block_entry (4096 * page)) (words_in (entry_bytes places ++ tail)))) (entry_adds base page place image here)
    ∙ entries_add size base page places tail (with_base base image place) parts.1

-- padding changes nothing
padding_adds : (b : Bool) (base page : ℕ) (image : List ℕ) → fold (relocated base) image (map (block_entry page) (words_in (if b then [] else little_bytes 2 0))) ≡ image
unfolding relocated
padding_adds true base page image = refl
padding_adds false base page image = refl

padded_adds : (size base page : ℕ) (places image : List ℕ) → list_all (is_good_place size page) places ≡ true
    → fold (relocated base) image (map (block_entry (4096 * page)) (words_in (padded_entries (entry_bytes places)))) ≡ fold (with_base base) image places
padded_adds size base page places image good =
    let even = nat_eq (length (entry_bytes places) % 4) 0 in
    entries_add size base page places (if even then [] else little_bytes 2 0) image good ∙ padding_adds even base (4096 * page) (fold (with_base base) image places)

-- ---- blocks

-- a block at the front of a directory adds the base at the places of its page
block_adds : (size base page : ℕ) (places rest image : List ℕ) → list_all (is_good_place size page) places ≡ true → page < 1048576 → length places ≤ 4096
    → fold (relocated base) image (entries_of_directory (page_block page places ++ rest)) ≡ fold (relocated base) (fold (with_base base) image places) (entries_of_directory rest)
block_adds size base page places rest image good near few =
    let entries = padded_entries (entry_bytes places) in
    let short = short_entries places few in
    let bytes = page_block page places ++ rest in
    let some : 0 < length bytes = omega (arith, length-made page entries rest) in
    let split = entries_of_directory-behind size bytes some (good_block size page places rest good near few) in
    let block = block_of-made page entries rest near (omega (arith, short)) in
    ap (fold (relocated base) image) split
    ∙ fold-append (relocated base) image (entries_in (block_of bytes)) (entries_of_directory (drop (block_of bytes).size bytes))
    ∙ ap (λ (rest : List ℕ). fold (relocated base) (fold (relocated base) image (entries_in (block_of bytes))) (entries_of_directory rest)) (left_after page places rest near few)
    ∙ ap (λ (b : Block). fold (relocated base) (fold (relocated base) image (entries_in b)) (entries_of_directory rest)) block
    ∙ ap (λ (next : List ℕ). fold (relocated base) next (entries_of_directory rest)) (padded_adds size base page places image good)

-- the blocks of pages add it at the places of these pages
pages_add : (size base : ℕ) (places pages image : List ℕ) → list_all (λ place. nat_le (place + 8) size) places ≡ true → ((page : ℕ) → length (places_in page places) ≤ 4096) → list_all (λ page. nat_lt page 1048576) pages ≡ true
    → fold (relocated base) image (entries_of_directory (flat_map (λ page. page_block page (places_in page places)) pages)) ≡ fold (with_base base) image (flat_map (λ page. places_in page places) pages)
pages_add size base places [] image inside few near = ap (fold (relocated base) image) (entries_of_directory-none [] refl)
pages_add size base places (page ∷ pages) image inside few near =
    let parts = and_parts (nat_lt page 1048576) (list_all (λ page. nat_lt page 1048576) pages) near in
    block_adds size base page (places_in page places) (flat_map (λ page. page_block page (places_in page places)) pages) image (good_in_page size page places inside) (is_near page parts.0) (few page)
    ∙ pages_add size base places pages (fold (with_base base) image (places_in page places)) inside few parts.1
    ∙ sym (fold-append (with_base base) image (places_in page places) (flat_map (λ page. places_in page places) pages))

-- the relocation blocks add it at all places
pub blocks_add : (parts : DriverParts) (size base : ℕ) (image : List ℕ) → list_any (λ offset. nat_lt (length parts.code) (offset + 8)) parts.relocs ≡ false → 512 + length parts.code ≤ size → size ≤ 33554432
    → fold (relocated base) image (entries_of_directory (relocation_blocks parts)) ≡ fold (with_base base) image (places_of parts)
unfolding page_blocks
blocks_add parts size base image good room small =
    let places = places_of parts in
    let inside = places_inside parts size good room in
    let rises = rise-sorted_once (map (λ offset. 512 + offset) parts.relocs) in
    pages_add size base places (pages_of places) image inside (λ page. few_in_page page places rises) (pages_near size places inside small)
    ∙ ap (fold (with_base base) image) (all_pages (length places) places (omega arith) rises)

-- ---- the image before relocation

get_or-zeros : (k i : ℕ) → slice_index (replicate k 0) i ≡ 0
get_or-zeros k i =
    elim (cases_lt i k) [
      | inl inside ↦ get_or-replicate k i 0 0 inside
      | inr past ↦ get_or_past (replicate k 0) i 0 (omega (arith, length-replicate {A = ℕ} k 0))
    ]

-- the bytes that pad others are zeros
zero_after : (bytes : List ℕ) (place : ℕ) → length bytes ≤ place → slice_index (padded_bytes bytes) place ≡ 0
zero_after bytes place past =
    get_or-append_right bytes (replicate (aligned (length bytes) - length bytes) 0) (length bytes) place 0 refl past ∙ get_or-zeros (aligned (length bytes) - length bytes) (place - length bytes)

-- a made image has zeros after the code, and after the relocations
made_zeros : (parts : DriverParts) (place : ℕ) → 512 + length parts.code ≤ place → place < 512 + aligned (length parts.code) → slice_index (made_image parts) place ≡ 0
unfolding made_image
made_zeros parts place past below =
    let blocks = relocation_blocks parts in
    let headers = header_bytes parts.entry parts.subsystem (length parts.code) (length blocks) in
    let size = length-header_bytes parts.entry parts.subsystem (length parts.code) (length blocks) in
    get_or_append_left (headers ++ padded_bytes parts.code) (padded_bytes blocks) 0 place (omega (arith, length-append headers (padded_bytes parts.code), size, length-padded_bytes parts.code))
    ∙ get_or-append_right headers (padded_bytes parts.code) 512 place 0 size (omega arith)
    ∙ zero_after parts.code (place - 512) (omega arith)

made_zeros-end : (parts : DriverParts) (place : ℕ) → 512 + aligned (length parts.code) + length (relocation_blocks parts) ≤ place → slice_index (made_image parts) place ≡ 0
unfolding made_image
made_zeros-end parts place past =
    let blocks = relocation_blocks parts in
    let headers = header_bytes parts.entry parts.subsystem (length parts.code) (length blocks) in
    let front : length (headers ++ padded_bytes parts.code) ≡ 512 + aligned (length parts.code) =
    omega (arith, length-append headers (padded_bytes parts.code), length-header_bytes parts.entry parts.subsystem (length parts.code) (length blocks), length-padded_bytes parts.code) in
    get_or-append_right (headers ++ padded_bytes parts.code) (padded_bytes blocks) (512 + aligned (length parts.code)) place 0 front (omega arith)
    ∙ zero_after blocks (place - (512 + aligned (length parts.code))) (omega arith)

-- a byte of the headers followed by zeros, in a file that has zeros there
header_byte : (file : List ℕ) (size image place : ℕ) → size ≤ length file → (size ≤ place → slice_index file place ≡ 0) → slice_index (take size file ++ replicate (image - size) 0) place ≡ slice_index file place
header_byte file size image place in_file zeros =
    elim (cases_lt place size) [
      | inl inside ↦ get_or_append_left (take size file) (replicate (image - size) 0) 0 place (omega (arith, length-take-le size file in_file)) ∙ get_or-take size file place 0 inside
      | inr past ↦ get_or-append_right (take size file) (replicate (image - size) 0) size place 0 (length-take-le size file in_file) past ∙ get_or-zeros (image - size) (place - size) ∙ sym (zeros past)
    ]

-- a section at the same place of the file and of the image
same_place : (place : ℕ) (section : SectionHeader) → section.file_offset ≡ section.address → has_copied place 1 section ≡ true → file_place place section ≡ place
same_place place section same has = grind (arith, nat_tests)

-- if no section has a place, it lies before it or after what it copies
not_copied : (place : ℕ) (section : SectionHeader) → has_copied place 1 section ≡ false → (place < section.address) ⊎ (section.address + copied_size section ≤ place)
not_copied place section none = grind (arith, nat_tests)

copied-code : (size : ℕ) → 0 < size → copied_size (code_section size) ≡ size
unfolding code_section
copied-code size some = let virtual : nat_eq size 0 ≡ false = grind (arith, nat_tests) in rw virtual (omega arith)

copied-relocations : (place size : ℕ) → 0 < size → copied_size (relocation_section place size) ≡ size
unfolding relocation_section
copied-relocations place size some = let virtual : nat_eq size 0 ≡ false = grind (arith, nat_tests) in rw virtual (omega arith)

in_place-code : (size : ℕ) → (code_section size).file_offset ≡ (code_section size).address
unfolding code_section
in_place-code size = refl

in_place-relocations : (place size : ℕ) → (relocation_section place size).file_offset ≡ (relocation_section place size).address
unfolding relocation_section
in_place-relocations place size = refl

address-code : (size : ℕ) → (code_section size).address ≡ 512
unfolding code_section
address-code size = refl

address-relocations : (place size : ℕ) → (relocation_section place size).address ≡ place
unfolding relocation_section
address-relocations place size = refl

-- a byte of the image, over two sections in their places or one
byte-two : (file : List ℕ) (place : ℕ) (one two : SectionHeader) (under : ℕ) → one.file_offset ≡ one.address → two.file_offset ≡ two.address
    → (has_copied place 1 one ≡ false → has_copied place 1 two ≡ false → under ≡ slice_index file place)
    → option_map_or (λ section. slice_index file (file_place place section)) (find (has_copied place 1) (one ∷ two ∷ [])) under ≡ slice_index file place
byte-two file place one two under same_one same_two none = by_case (has_copied place 1 one) (has_copied place 1 two) refl refl
  where
    by_case : (a b : Bool) → has_copied place 1 one ≡ a → has_copied place 1 two ≡ b
        → option_map_or (λ section. slice_index file (file_place place section)) (cond a (Some one) (cond b (Some two) None)) under ≡ slice_index file place
    by_case true b has _ = ap (slice_index file) (same_place place one same_one has)
    by_case false true _ has = ap (slice_index file) (same_place place two same_two has)
    by_case false false missed neither = none missed neither

byte-one : (file : List ℕ) (place : ℕ) (one : SectionHeader) (under : ℕ) → one.file_offset ≡ one.address
    → (has_copied place 1 one ≡ false → under ≡ slice_index file place)
    → option_map_or (λ section. slice_index file (file_place place section)) (find (has_copied place 1) (one ∷ [])) under ≡ slice_index file place
byte-one file place one under same none = by_case (has_copied place 1 one) refl
  where
    by_case : (a : Bool) → has_copied place 1 one ≡ a → option_map_or (λ section. slice_index file (file_place place section)) (cond a (Some one) None) under ≡ slice_index file place
    by_case true has = ap (slice_index file) (same_place place one same has)
    by_case false missed = none missed

-- a place that the code section has not copied lies before it or after the code
outside_code : (size place : ℕ) → 0 < size → has_copied place 1 (code_section size) ≡ false → (place < 512) ⊎ (512 + size ≤ place)
outside_code size place some missed = rw (address-code size, copied-code size some) at (not_copied place (code_section size) missed)

outside_relocations : (at size place : ℕ) → 0 < size → has_copied place 1 (relocation_section at size) ≡ false → (place < at) ⊎ (at + size ≤ place)
outside_relocations at size place some missed = rw (address-relocations at size, copied-relocations at size some) at (not_copied place (relocation_section at size) missed)

-- outside the sections a made image has zeros after the headers
zeros_without : (parts : DriverParts) (place : ℕ) → length (relocation_blocks parts) ≡ 0 → 512 ≤ place → (place < 512) ⊎ (512 + length parts.code ≤ place) → slice_index (made_image parts) place ≡ 0
zeros_without parts place none behind (inl before) = absurd (omega arith)
zeros_without parts place none behind (inr past) =
    elim (cases_lt place (512 + aligned (length parts.code))) [
      | inl below ↦ made_zeros parts place past below
      | inr end ↦ made_zeros-end parts place (omega arith)
    ]

zeros_with : (parts : DriverParts) (place : ℕ) → 512 ≤ place → (place < 512) ⊎ (512 + length parts.code ≤ place) → (place < 512 + aligned (length parts.code)) ⊎ (512 + aligned (length parts.code) + length (relocation_blocks parts) ≤ place)
    → slice_index (made_image parts) place ≡ 0
zeros_with parts place behind (inl before) other = absurd (omega arith)
zeros_with parts place behind (inr past) (inl below) = made_zeros parts place past below
zeros_with parts place behind (inr past) (inr end) = made_zeros-end parts place end

header_alone : (file : List ℕ) (entry subsystem size relocations sections place : ℕ) → MadeHeaders file entry subsystem size relocations sections → 512 ≤ length file → (512 ≤ place → slice_index file place ≡ 0) → slice_index (headers_alone file) place ≡ slice_index file place
unfolding headers_alone
header_alone file entry subsystem size relocations sections place h in_file zeros =
    rw (h.signature, h.size_of_headers, h.size_of_image) (header_byte file 512 (512 + aligned size + aligned relocations) place in_file zeros)

-- each byte of a made image is in its place
made_byte-without : (parts : DriverParts) (place : ℕ) → IsBuildable parts → length (relocation_blocks parts) ≡ 0 → byte_at (made_image parts) place ≡ slice_index (made_image parts) place
made_byte-without parts place ok none =
    let file = made_image parts in
    let size = length parts.code in
    let headers = headers_without parts ok none in
    let whole = made_image_size parts in
    let some : 0 < size = omega (arith, ok.inside) in
    rw (sections-one file parts.entry parts.subsystem size headers)
    (byte-one file place (code_section size) (slice_index (headers_alone file) place) (in_place-code size)
    (λ missed. header_alone file parts.entry parts.subsystem size 0 1 place headers (omega arith) (λ behind. zeros_without parts place none behind (outside_code size place some missed))))

made_byte-with : (parts : DriverParts) (place : ℕ) → IsBuildable parts → nat_eq (length (relocation_blocks parts)) 0 ≡ false → byte_at (made_image parts) place ≡ slice_index (made_image parts) place
made_byte-with parts place ok more =
    let file = made_image parts in
    let size = length parts.code in
    let at : ℕ = 512 + aligned size in
    let relocations = length (relocation_blocks parts) in
    let headers = headers_with parts ok more in
    let whole = made_image_size parts in
    let some : 0 < size = omega (arith, ok.inside) in
    let many : 0 < relocations = grind (arith, nat_tests) in
    rw (sections-two file parts.entry parts.subsystem size relocations at headers (section_with parts ok more))
    (byte-two file place (code_section size) (relocation_section at relocations) (slice_index (headers_alone file) place) (in_place-code size) (in_place-relocations at relocations)
    (λ missed neither. header_alone file parts.entry parts.subsystem size relocations 2 place headers (omega arith)
    (λ behind. zeros_with parts place behind (outside_code size place some missed) (outside_relocations at relocations place many neither))))

-- ---- the laid image

delta_by : (base image_base : ℕ) → image_base ≡ 0 → base < 18446744073709551616 → (base + (18446744073709551616 - image_base)) % 18446744073709551616 ≡ base
delta_by base image_base at_zero small = omega arith

made_delta : (file : List ℕ) (entry subsystem size relocations sections base : ℕ) → MadeHeaders file entry subsystem size relocations sections → base < 18446744073709551616 → delta_of file base ≡ base
made_delta file entry subsystem size relocations sections base h small = rw h.signature (delta_by base (uint64_at 112 file) h.image_base small)

made_size : (file : List ℕ) (entry subsystem size relocations sections : ℕ) → MadeHeaders file entry subsystem size relocations sections → (headers_of file).size_of_image ≡ 512 + aligned size + aligned relocations
made_size file entry subsystem size relocations sections h = rw (h.signature, h.size_of_image) refl

entries_without : (parts : DriverParts) → IsBuildable parts → length (relocation_blocks parts) ≡ 0 → entries_of (made_image parts) ≡ entries_of_directory (relocation_blocks parts)
unfolding entries_of has_directory
entries_without parts ok none =
    let h = headers_without parts ok none in
    rw (h.signature, h.directory_count, h.optional_size, h.size_of_relocations) (sym (entries_of_directory-none (relocation_blocks parts) none))

there : (parts : DriverParts) → IsBuildable parts → nat_eq (length (relocation_blocks parts)) 0 ≡ false → has_directory (made_image parts) ≡ true
unfolding has_directory
there parts ok some =
    let h = headers_with parts ok some in
    rw (h.signature, h.directory_count, h.optional_size, h.size_of_relocations, some) refl

entries_with : (parts : DriverParts) → IsBuildable parts → nat_eq (length (relocation_blocks parts)) 0 ≡ false → entries_of (made_image parts) ≡ entries_of_directory (relocation_blocks parts)
unfolding entries_of
entries_with parts ok some =
    let file = made_image parts in
    let size = length parts.code in
    let relocations = length (relocation_blocks parts) in
    let h = headers_with parts ok some in
    let coded : 0 < size = omega (arith, ok.inside) in
    let many : 0 < relocations = grind (arith, nat_tests) in
    rw (there parts ok some, directory_found file parts.entry parts.subsystem size relocations many coded h (section_with parts ok some), h.signature, h.size_of_relocations, blocks_there parts) refl

-- all that the law needs, with relocations or without
record LaidFacts (parts : DriverParts) (base : ℕ) : Type 0 where
  delta : delta_of (made_image parts) base ≡ base
  plain : plain_image (made_image parts) ≡ made_image parts
  entries : entries_of (made_image parts) ≡ entries_of_directory (relocation_blocks parts)

laid_facts : (parts : DriverParts) (base : ℕ) → IsBuildable parts → base < 18446744073709551616 → LaidFacts parts base
laid_facts parts base ok small = by_case (nat_eq (length (relocation_blocks parts)) 0) refl
  where
    by_case : (b : Bool) → nat_eq (length (relocation_blocks parts)) 0 ≡ b → LaidFacts parts base
    by_case true none =
        let file = made_image parts in
        let size = length parts.code in
        let empty : length (relocation_blocks parts) ≡ 0 = grind (arith, nat_tests) in
        let h = headers_without parts ok empty in
        let whole = made_image_size parts in
        record {
          delta = made_delta file parts.entry parts.subsystem size 0 1 base h small;
          plain = sym (plain_image-by_place file file (omega (arith, made_size file parts.entry parts.subsystem size 0 1 h)) (λ place. sym (made_byte-without parts place ok empty)));
          entries = entries_without parts ok empty;
        }
    by_case false some =
        let file = made_image parts in
        let size = length parts.code in
        let relocations = length (relocation_blocks parts) in
        let h = headers_with parts ok some in
        let whole = made_image_size parts in
        record {
          delta = made_delta file parts.entry parts.subsystem size relocations 2 base h small;
          plain = sym (plain_image-by_place file file (omega (arith, made_size file parts.entry parts.subsystem size relocations 2 h)) (λ place. sym (made_byte-with parts place ok some)));
          entries = entries_with parts ok some;
        }

-- a made image that is laid
pub laid-made_image : (parts : DriverParts) (base : ℕ) → fault_of parts ≡ None → base < 18446744073709551616 → laid (made_image parts) base ≡ fold (with_base base) (made_image parts) (places_of parts)
unfolding laid
laid-made_image parts base h small =
    let ok = buildable parts h in
    let facts = laid_facts parts base ok small in
    let whole = made_image_size parts in
    let room : 512 + length parts.code ≤ length (made_image parts) = omega arith in
    rw (facts.delta, facts.plain, facts.entries) (blocks_add parts (length (made_image parts)) base (made_image parts) ok.relocs room (omega (arith, ok.short)))
