-- A made image is accepted: it breaks none of the rules.
use Rattle.std.proofs.Common.{◌≡◌, ◌⊎◌, ◌≤◌, ◌<◌, ◌+◌, ◌-◌, ◌*◌, ◌%◌, ℕ, min, Bool, true, false, nat_eq, nat_lt, nat_le, ◌&&◌, ◌||◌, not, List, [], ◌∷◌, ◌++◌, length, take, drop, replicate, Some, None, refl, ap, inl, inr, arith}
use Rattle.std.proofs.lemmas.Bool.Decides.{nat_tests}
use Rattle.std.proofs.lemmas.List.{length-append, take_at, drop_at, append_assoc}
use Rattle.pe_image.specs.Headers.{sections_of, end_of, has_copied, file_place}
use Rattle.pe_image.specs.Relocations.{has_directory, directory_place, is_bad_directory}
use Rattle.pe_image.specs.ImageRules.{is_short, lacks_mz, lacks_pe, is_for_another_machine, lacks_optional_header, is_driver, is_no_driver, is_stripped, has_bad_size, has_bad_headers, is_misplaced, has_misplaced_section, has_bad_relocations, has_bad_entry, refusal_of}
use Rattle.pe_image.specs.declared.sections.SectionHeader.{SectionHeader}
use Rattle.rom_builder.specs.MadeImage.{aligned, header_bytes, padded_bytes, made_image, relocation_blocks}
use Rattle.rom_builder.specs.declared.parts.DriverParts.{DriverParts}
use Rattle.rom_builder.proofs.SizeLemmas.{length-header_bytes, length-padded_bytes, made_image_size, IsBuildable}
use Rattle.rom_builder.proofs.HeaderLemmas.{MadeHeaders, MadeSection, Fits, made_headers-none, made_headers-some, made_section}
use Rattle.rom_builder.proofs.BlockLemmas.{good_blocks}

-- ---- the sections

-- the sections of code and of relocations
unfoldable pub code_section : ℕ → SectionHeader
code_section size = record { virtual_size = size; address = 512; raw_size = aligned size; file_offset = 512 }

unfoldable pub relocation_section : ℕ → ℕ → SectionHeader
relocation_section place size = record { virtual_size = size; address = place; raw_size = aligned size; file_offset = place }

pub sections-one : (file : List ℕ) (entry subsystem size : ℕ) → MadeHeaders file entry subsystem size 0 1 → sections_of file ≡ code_section size ∷ []
unfolding sections_of code_section
sections-one file entry subsystem size h =
    rw (h.signature, h.section_count, h.optional_size, h.code_size, h.code_address, h.code_raw_size, h.code_offset) refl

pub sections-two : (file : List ℕ) (entry subsystem size relocations place : ℕ) → MadeHeaders file entry subsystem size relocations 2 → MadeSection file place relocations
    → sections_of file ≡ code_section size ∷ relocation_section place relocations ∷ []
unfolding sections_of code_section relocation_section
sections-two file entry subsystem size relocations place h s =
    rw (h.signature, h.section_count, h.optional_size, h.code_size, h.code_address, h.code_raw_size, h.code_offset, s.size, s.address, s.raw_size, s.offset) refl

-- a section that comes after what is before it, in the image and in the file, at the same place
in_place : (front place size raw image file : ℕ) → front ≤ place → place + size ≤ image → place + size ≤ file
    → (nat_lt place front || nat_lt image (place + size) || (not (nat_eq (min size raw) 0) && nat_lt file (place + min size raw))) ≡ false
in_place front place size raw image file behind inside in_file = grind (arith, nat_tests)

placed_code : (file image size : ℕ) → 0 < size → 512 + size ≤ image → 512 + size ≤ file → is_misplaced file image (512, code_section size) ≡ false
unfolding code_section
placed_code file image size some inside in_file =
    let virtual : nat_eq size 0 ≡ false = grind (arith, nat_tests) in
    rw virtual (in_place 512 512 size (aligned size) image file (omega arith) inside in_file)

placed_relocations : (file image front place size : ℕ) → 0 < size → front ≤ place → place + size ≤ image → place + size ≤ file → is_misplaced file image (front, relocation_section place size) ≡ false
unfolding relocation_section
placed_relocations file image front place size some behind inside in_file =
    let virtual : nat_eq size 0 ≡ false = grind (arith, nat_tests) in
    rw virtual (in_place front place size (aligned size) image file behind inside in_file)

pub end_of-code : (size : ℕ) → 0 < size → end_of (code_section size) ≡ 512 + size
unfolding code_section
end_of-code size some = let virtual : nat_eq size 0 ≡ false = grind (arith, nat_tests) in rw virtual refl

-- the directory is the section of relocations
code_has_none : (size place count : ℕ) → 0 < size → 512 + size ≤ place → 0 < count → has_copied place count (code_section size) ≡ false
unfolding code_section
code_has_none size place count some behind more =
    let virtual : nat_eq size 0 ≡ false = grind (arith, nat_tests) in
    rw virtual (past size (aligned size) place count behind more)
  where
    past : (size raw place count : ℕ) → 512 + size ≤ place → 0 < count → (nat_le 512 place && nat_le (place + count) (512 + min size raw)) ≡ false
    past size raw place count behind more = grind (arith, nat_tests)

relocations_have_all : (place size : ℕ) → 0 < size → has_copied place size (relocation_section place size) ≡ true
unfolding relocation_section
relocations_have_all place size some =
    let virtual : nat_eq size 0 ≡ false = grind (arith, nat_tests) in
    rw virtual (all place size (aligned size) (omega arith))
  where
    all : (place size raw : ℕ) → size ≤ raw → (nat_le place place && nat_le (place + size) (place + min size raw)) ≡ true
    all place size raw fits = grind (arith, nat_tests)

file_place-relocations : (place size : ℕ) → file_place place (relocation_section place size) ≡ place
unfolding relocation_section
file_place-relocations place size = omega arith

-- ---- the rules that look at the headers

record Sizes (file : List ℕ) (entry subsystem size relocations : ℕ) : Type 0 where
  whole : length file ≡ 512 + aligned size + aligned relocations
  short : length file ≤ 16777216
  even : entry % 2 ≡ 0
  inside : entry < size
  driver : (subsystem ≡ 11) ⊎ (subsystem ≡ 12)

not_below : (n m : ℕ) → m ≤ n → nat_lt n m ≡ false
not_below n m h = grind (arith, nat_tests)

driver_test : (subsystem : ℕ) → (subsystem ≡ 11) ⊎ (subsystem ≡ 12) → not (is_driver subsystem) ≡ false
driver_test subsystem (inl e) = rw e refl
driver_test subsystem (inr e) = rw e refl

size_test : (size : ℕ) → 0 < size → size ≤ 16777216 → (nat_eq size 0 || nat_lt 16777216 size) ≡ false
size_test size some short = grind (arith, nat_tests)

headers_test : (image file sections : ℕ) → 512 ≤ image → 512 ≤ file → sections ≤ 2 → (nat_lt image 512 || nat_lt file 512 || nat_lt 96 sections || nat_lt 512 (248 + 40 * sections)) ≡ false
headers_test image file sections a b few = grind (arith, nat_tests)

entry_test : (entry size : ℕ) → entry % 2 ≡ 0 → 512 + entry < size → (nat_eq ((512 + entry) % 2) 1 || nat_le size (512 + entry)) ≡ false
entry_test entry size even inside =
    let same : (512 + entry) % 2 ≡ 0 = omega arith in
    rw same (below (512 + entry) size inside)
  where
    below : (n size : ℕ) → n < size → nat_le size n ≡ false
    below n size h = grind (arith, nat_tests)

record KeepsHeaderRules (file : List ℕ) : Type 0 where
  short : is_short file ≡ false
  mz : lacks_mz file ≡ false
  pe : lacks_pe file ≡ false
  machine : is_for_another_machine file ≡ false
  optional : lacks_optional_header file ≡ false
  driver : is_no_driver file ≡ false
  kept : is_stripped file ≡ false
  size : has_bad_size file ≡ false
  headers : has_bad_headers file ≡ false
  entry_point : has_bad_entry file ≡ false

header_rules : (file : List ℕ) (entry subsystem size relocations sections : ℕ) → MadeHeaders file entry subsystem size relocations sections → Sizes file entry subsystem size relocations → sections ≤ 2 → KeepsHeaderRules file
unfolding is_short lacks_mz lacks_pe is_for_another_machine lacks_optional_header is_no_driver is_stripped has_bad_size has_bad_headers has_bad_entry
header_rules file entry subsystem size relocations sections h s few =
    let least : 1024 ≤ length file = omega (arith, s.whole, s.inside) in
    record {
      short = not_below (length file) 64 (omega arith);
      mz = rw h.mz refl;
      pe = rw (h.signature, not_below (length file) 88 (omega arith), h.pe) refl;
      machine = rw (h.signature, h.machine) refl;
      optional = rw (h.signature, h.optional_size, h.magic, not_below (length file) 248 (omega arith)) refl;
      driver = rw (h.signature, h.subsystem_is) (driver_test subsystem s.driver);
      kept = rw (h.signature, h.characteristics) refl;
      size = rw (h.signature, h.size_of_image, ← s.whole) (size_test (length file) (omega arith) s.short);
      headers = rw (h.signature, h.size_of_image, h.size_of_headers, h.section_count, h.optional_size, ← s.whole) (headers_test (length file) (length file) sections (omega arith) (omega arith) few);
      entry_point = rw (h.signature, h.entry_is, h.size_of_image) (entry_test entry (512 + aligned size + aligned relocations) s.even (omega (arith, s.inside)));
    }

-- ---- the other two rules

-- an image without relocations
sections_rule-one : (file : List ℕ) (entry subsystem size : ℕ) → MadeHeaders file entry subsystem size 0 1 → Sizes file entry subsystem size 0 → has_misplaced_section file ≡ false
unfolding has_misplaced_section
sections_rule-one file entry subsystem size h s =
    let image : ℕ = 512 + aligned size + aligned 0 in
    rw (sections-one file entry subsystem size h, h.signature, h.size_of_image, h.size_of_headers, placed_code (length file) image size (omega (arith, s.inside)) (omega arith) (omega (arith, s.whole))) refl

relocations_rule-one : (file : List ℕ) (entry subsystem size : ℕ) → MadeHeaders file entry subsystem size 0 1 → has_bad_relocations file ≡ false
unfolding has_bad_relocations has_directory
relocations_rule-one file entry subsystem size h = rw (h.signature, h.directory_count, h.optional_size, h.size_of_relocations) refl

-- an image with relocations
sections_rule-two : (file : List ℕ) (entry subsystem size relocations : ℕ) → 0 < relocations → MadeHeaders file entry subsystem size relocations 2 → MadeSection file (512 + aligned size) relocations → Sizes file entry subsystem size relocations
    → has_misplaced_section file ≡ false
unfolding has_misplaced_section
sections_rule-two file entry subsystem size relocations more h m s =
    let place : ℕ = 512 + aligned size in
    let image : ℕ = place + aligned relocations in
    let some : 0 < size = omega (arith, s.inside) in
    rw (sections-two file entry subsystem size relocations place h m, h.signature, h.size_of_image, h.size_of_headers, placed_code (length file) image size some (omega arith) (omega (arith, s.whole)))
    (rw (end_of-code size some, placed_relocations (length file) image (512 + size) place relocations more (omega arith) (omega arith) (omega (arith, s.whole))) refl)

pub directory_found : (file : List ℕ) (entry subsystem size relocations : ℕ) → 0 < relocations → 0 < size → MadeHeaders file entry subsystem size relocations 2 → MadeSection file (512 + aligned size) relocations
    → directory_place file ≡ Some (512 + aligned size)
unfolding directory_place
directory_found file entry subsystem size relocations more some h m =
    let place : ℕ = 512 + aligned size in
    rw (sections-two file entry subsystem size relocations place h m, h.signature, m.directory, h.size_of_relocations, code_has_none size place relocations some (omega arith) more, relocations_have_all place relocations more)
    (ap Some (file_place-relocations place relocations))

relocations_rule-two : (file blocks : List ℕ) (entry subsystem size relocations : ℕ) → 0 < relocations → 0 < size → MadeHeaders file entry subsystem size relocations 2 → MadeSection file (512 + aligned size) relocations
    → take relocations (drop (512 + aligned size) file) ≡ blocks → is_bad_directory (512 + aligned size + aligned relocations) blocks ≡ false
    → has_bad_relocations file ≡ false
unfolding has_bad_relocations
relocations_rule-two file blocks entry subsystem size relocations more some h m there good =
    rw (directory_found file entry subsystem size relocations more some h m, h.signature, h.size_of_relocations, h.size_of_image, there, good) (and_false (has_directory file))
  where
    and_false : (b : Bool) → (b && false) ≡ false
    and_false true = refl
    and_false false = refl

-- ---- all twelve

accepted_by : (file : List ℕ) → KeepsHeaderRules file → has_misplaced_section file ≡ false → has_bad_relocations file ≡ false → refusal_of file ≡ None
unfolding refusal_of
accepted_by file h sections relocations =
    rw (h.short, h.mz, h.pe, h.machine, h.optional, h.driver, h.kept, h.size, h.headers, sections, relocations, h.entry_point) refl

-- the file after the headers
after_headers : (parts : DriverParts) → List ℕ
after_headers parts = padded_bytes parts.code ++ padded_bytes (relocation_blocks parts)

made_split : (parts : DriverParts) → made_image parts ≡ header_bytes parts.entry parts.subsystem (length parts.code) (length (relocation_blocks parts)) ++ after_headers parts
unfolding made_image after_headers
made_split parts = append_assoc (header_bytes parts.entry parts.subsystem (length parts.code) (length (relocation_blocks parts))) (padded_bytes parts.code) (padded_bytes (relocation_blocks parts))

made_fits : (parts : DriverParts) → IsBuildable parts → Fits parts.entry parts.subsystem (length parts.code) (length (relocation_blocks parts))
made_fits parts ok =
    let size = made_image_size parts in
    record {
      entry_fits = omega (arith, ok.short, ok.inside);
      subsystem_fits = driver_fits parts.subsystem ok.driver;
      size_fits = omega (arith, ok.short);
      relocations_fit = omega (arith, ok.short);
    }
  where
    driver_fits : (subsystem : ℕ) → (subsystem ≡ 11) ⊎ (subsystem ≡ 12) → subsystem < 65536
    driver_fits subsystem (inl e) = omega arith
    driver_fits subsystem (inr e) = omega arith

made_sizes : (parts : DriverParts) → IsBuildable parts → Sizes (made_image parts) parts.entry parts.subsystem (length parts.code) (length (relocation_blocks parts))
made_sizes parts ok = record { whole = made_image_size parts; short = ok.short; even = ok.even; inside = ok.inside; driver = ok.driver }

-- the relocation blocks follow the code
pub blocks_there : (parts : DriverParts) → take (length (relocation_blocks parts)) (drop (512 + aligned (length parts.code)) (made_image parts)) ≡ relocation_blocks parts
unfolding made_image
blocks_there parts =
    let blocks = relocation_blocks parts in
    let headers = header_bytes parts.entry parts.subsystem (length parts.code) (length blocks) in
    let front = headers ++ padded_bytes parts.code in
    let size : length front ≡ 512 + aligned (length parts.code) = omega (arith, length-append headers (padded_bytes parts.code), length-header_bytes parts.entry parts.subsystem (length parts.code) (length blocks), length-padded_bytes parts.code) in
    rw (drop_at front (padded_bytes blocks) (512 + aligned (length parts.code)) size) (take_at blocks (replicate (aligned (length blocks) - length blocks) 0) (length blocks) refl)

-- the headers of a made image, without relocations and with them
pub headers_without : (parts : DriverParts) → IsBuildable parts → length (relocation_blocks parts) ≡ 0 → MadeHeaders (made_image parts) parts.entry parts.subsystem (length parts.code) 0 1
headers_without parts ok none =
    let size = length parts.code in
    let fits : Fits parts.entry parts.subsystem size 0 = rw none at (made_fits parts ok) in
    let split : made_image parts ≡ header_bytes parts.entry parts.subsystem size 0 ++ after_headers parts = rw none at (made_split parts) in
    rw split (made_headers-none parts.entry parts.subsystem size (after_headers parts) fits)

pub headers_with : (parts : DriverParts) → IsBuildable parts → nat_eq (length (relocation_blocks parts)) 0 ≡ false → MadeHeaders (made_image parts) parts.entry parts.subsystem (length parts.code) (length (relocation_blocks parts)) 2
headers_with parts ok some =
    rw (made_split parts) (made_headers-some parts.entry parts.subsystem (length parts.code) (length (relocation_blocks parts)) (after_headers parts) some (made_fits parts ok))

pub section_with : (parts : DriverParts) → IsBuildable parts → nat_eq (length (relocation_blocks parts)) 0 ≡ false → MadeSection (made_image parts) (512 + aligned (length parts.code)) (length (relocation_blocks parts))
section_with parts ok some =
    rw (made_split parts) (made_section parts.entry parts.subsystem (length parts.code) (length (relocation_blocks parts)) (after_headers parts) some (made_fits parts ok))

accepted_without : (parts : DriverParts) → IsBuildable parts → length (relocation_blocks parts) ≡ 0 → refusal_of (made_image parts) ≡ None
accepted_without parts ok none =
    let file = made_image parts in
    let size = length parts.code in
    let sizes : Sizes file parts.entry parts.subsystem size 0 = rw none at (made_sizes parts ok) in
    let headers = headers_without parts ok none in
    accepted_by file (header_rules file parts.entry parts.subsystem size 0 1 headers sizes (omega arith))
    (sections_rule-one file parts.entry parts.subsystem size headers sizes)
    (relocations_rule-one file parts.entry parts.subsystem size headers)

accepted_with : (parts : DriverParts) → IsBuildable parts → nat_eq (length (relocation_blocks parts)) 0 ≡ false → refusal_of (made_image parts) ≡ None
accepted_with parts ok some =
    let file = made_image parts in
    let size = length parts.code in
    let blocks = relocation_blocks parts in
    let relocations = length blocks in
    let more : 0 < relocations = grind (arith, nat_tests) in
    let coded : 0 < size = omega (arith, ok.inside) in
    let fits = made_fits parts ok in
    let sizes = made_sizes parts ok in
    let headers = headers_with parts ok some in
    let section = section_with parts ok some in
    accepted_by file (header_rules file parts.entry parts.subsystem size relocations 2 headers sizes (omega arith))
    (sections_rule-two file parts.entry parts.subsystem size relocations more headers section sizes)
    (relocations_rule-two file blocks parts.entry parts.subsystem size relocations more coded headers section (blocks_there parts)
    (good_blocks parts (512 + aligned size + aligned relocations) ok.relocs (omega arith) (omega (arith, fits.size_fits, fits.relocations_fit))))

-- a made image is accepted
pub made_accepted : (parts : DriverParts) → IsBuildable parts → refusal_of (made_image parts) ≡ None
made_accepted parts ok = by_case (nat_eq (length (relocation_blocks parts)) 0) refl
  where
    by_case : (b : Bool) → nat_eq (length (relocation_blocks parts)) 0 ≡ b → refusal_of (made_image parts) ≡ None
    by_case true none = accepted_without parts ok (grind (arith, nat_tests))
    by_case false some = accepted_with parts ok some
