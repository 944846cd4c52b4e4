-- Where the code of a made image is.
use Rattle.std.proofs.Common.{◌≡◌, ◌<◌, ◌≤◌, ◌+◌, ◌-◌, ◌%◌, ℕ, Bool, true, false, nat_eq, nat_le, nat_lt, ◌&&◌, ◌||◌, if◌then◌else◌, List, [], ◌∷◌, ◌++◌, length, drop, replicate, find, Some, None, refl, ap, sym, ◌∙◌, arith}
use Rattle.std.specs.Prelude.{slice_range}
use Rattle.std.specs.Option.{option_map}
use Rattle.std.proofs.lemmas.Bool.Decides.{nat_tests}
use Rattle.std.proofs.lemmas.List.{append_assoc, drop_at, take_at}
use Rattle.fw_types.specs.declared.limits.TheConstants.{MOST_FILE_BYTES}
use Rattle.pe_image.specs.Headers.{end_of, has_address, sections_of}
use Rattle.pe_image.specs.ImageRules.{code_end_of, entry_of}
use Rattle.pe_image.specs.declared.sections.SectionHeader.{SectionHeader}
use Rattle.rom_builder.specs.MadeImage.{aligned, fault_of, has_bad_entry, header_bytes, is_too_long, made_image, padded_bytes, relocation_blocks}
use Rattle.rom_builder.specs.declared.parts.BuildFault.TheVariants.{BadEntry, TooLong}
use Rattle.rom_builder.specs.declared.parts.DriverParts.{DriverParts}
use Rattle.rom_builder.proofs.SizeLemmas.{buildable, few_bytes, length-header_bytes, made_image_size}
use Rattle.rom_builder.proofs.HeaderLemmas.{MadeHeaders}
use Rattle.rom_builder.proofs.AcceptanceLemmas.{code_section, end_of-code, relocation_section, headers_with, headers_without, section_with, sections-one, sections-two}

-- the entry point that the headers say
entry-made : (file : List ℕ) (entry subsystem size relocations sections : ℕ) → MadeHeaders file entry subsystem size relocations sections → entry_of file ≡ 512 + entry
entry-made file entry subsystem size relocations sections h = rw h.signature h.entry_is

-- the first section has the entry
inside_code : (entry size : ℕ) → entry < size → (nat_le 512 (512 + entry) && nat_lt (512 + entry) (512 + size)) ≡ true
inside_code entry size inside = grind (arith, nat_tests)

code_has_entry : (size entry : ℕ) → entry < size → has_address (512 + entry) (code_section size) ≡ true
unfolding code_section
code_has_entry size entry inside =
    let virtual : nat_eq size 0 ≡ false = grind (arith, nat_tests) in
    rw virtual (inside_code entry size inside)

code-first : (size entry : ℕ) (sections : List SectionHeader) → entry < size → option_map end_of (find (has_address (512 + entry)) (code_section size ∷ sections)) ≡ Some (512 + size)
code-first size entry sections inside = rw (code_has_entry size entry inside) (ap Some (end_of-code size (omega arith)))

-- the entry and the end of the code in a file
pub record HasCode (file : List ℕ) (start size : ℕ) : Type 0 where
  pub entry : entry_of file ≡ 512 + start
  pub end : code_end_of file ≡ Some (512 + size)

has_code : (file : List ℕ) (entry size : ℕ) (others : List SectionHeader) → entry < size → entry_of file ≡ 512 + entry → sections_of file ≡ code_section size ∷ others → HasCode file entry size
unfolding code_end_of
has_code file entry size others inside at sections = record { entry = at; end = rw (at, sections) (code-first size entry others inside) }

pub made_code : (parts : DriverParts) → fault_of parts ≡ None → HasCode (made_image parts) parts.entry (length parts.code)
made_code parts h =
    let ok = buildable parts h in
    let blocks = length (relocation_blocks parts) in
    elim (nat_eq blocks 0) as (λ b. nat_eq blocks 0 ≡ b → HasCode (made_image parts) parts.entry (length parts.code)) [
      | true ↦ λ is.
          let none : blocks ≡ 0 = grind (arith, nat_tests) in
          let headers = headers_without parts ok none in
          has_code (made_image parts) parts.entry (length parts.code) [] ok.inside
          (entry-made (made_image parts) parts.entry parts.subsystem (length parts.code) 0 1 headers)
          (sections-one (made_image parts) parts.entry parts.subsystem (length parts.code) headers)
      | false ↦ λ is.
          let headers = headers_with parts ok is in
          let place = 512 + aligned (length parts.code) in
          has_code (made_image parts) parts.entry (length parts.code) (relocation_section place blocks ∷ []) ok.inside
          (entry-made (made_image parts) parts.entry parts.subsystem (length parts.code) blocks 2 headers)
          (sections-two (made_image parts) parts.entry parts.subsystem (length parts.code) blocks place headers (section_with parts ok is))
    ] refl

-- the code follows the headers
pub code_there : (parts : DriverParts) → slice_range (made_image parts) 512 (512 + length parts.code) ≡ parts.code
unfolding made_image
code_there parts =
    let code = parts.code in
    let blocks = relocation_blocks parts in
    let headers = header_bytes parts.entry parts.subsystem (length code) (length blocks) in
    let rest = padded_bytes code ++ padded_bytes blocks in
    let fill : List ℕ = replicate (aligned (length code) - length code) 0 in
    let split : headers ++ padded_bytes code ++ padded_bytes blocks ≡ headers ++ rest = append_assoc headers (padded_bytes code) (padded_bytes blocks) in
    let behind : drop 512 (headers ++ rest) ≡ rest = drop_at headers rest 512 (length-header_bytes parts.entry parts.subsystem (length code) (length blocks)) in
    let count : 512 + length code - 512 ≡ length code = omega arith in
    rw (count, split, behind, append_assoc code fill (padded_bytes blocks)) (take_at code (fill ++ padded_bytes blocks) (length code) refl)

-- ---- an entry past the longest image

same_size : (parts : DriverParts) (entry : ℕ) → length (made_image (record parts { entry = entry })) ≡ length (made_image parts)
same_size parts entry = made_image_size (record parts { entry = entry }) ∙ sym (made_image_size parts)

same_length : (parts : DriverParts) (entry : ℕ) → is_too_long (record parts { entry = entry }) ≡ is_too_long parts
unfolding is_too_long
same_length parts entry = ap (λ (n : ℕ). nat_lt MOST_FILE_BYTES n) (same_size parts entry)

code-short : (parts : DriverParts) → is_too_long parts ≡ false → length parts.code ≤ MOST_FILE_BYTES
unfolding is_too_long
code-short parts short = let few : length (made_image parts) ≤ MOST_FILE_BYTES = grind (arith, nat_tests) in (few_bytes parts few).0

far_by_length : (parts : DriverParts) (entry : ℕ) → MOST_FILE_BYTES ≤ entry → (long : Bool) → is_too_long parts ≡ long → fault_of (record parts { entry = entry }) ≡ Some (if long then TooLong else BadEntry)
unfolding fault_of has_bad_entry
far_by_length parts entry far true is = let long : is_too_long (record parts { entry = entry }) ≡ true = same_length parts entry ∙ is in rw long refl
far_by_length parts entry far false is =
    let short : is_too_long (record parts { entry = entry }) ≡ false = same_length parts entry ∙ is in
    let few = code-short parts is in
    let bad : (nat_eq (entry % 2) 1 || nat_le (length parts.code) entry) ≡ true = grind (arith, nat_tests) in
    rw (short, bad) refl

pub far_entry : (parts : DriverParts) (entry : ℕ) → MOST_FILE_BYTES ≤ entry → fault_of (record parts { entry = entry }) ≡ Some (if is_too_long parts then TooLong else BadEntry)
far_entry parts entry far = far_by_length parts entry far (is_too_long parts) refl
