-- How long the parts of a made image are.
use Rattle.std.proofs.Common.{◌≡◌, ◌⊎◌, ◌≤◌, ◌<◌, ◌+◌, ◌-◌, ◌%◌, ℕ, List, ◌++◌, length, replicate, nat_eq, nat_lt, nat_le, Bool, true, false, not, ◌||◌, cond, Option, Some, None, refl, arith}
use Rattle.std.specs.List.{list_any}
use Rattle.std.specs.Option.{option_map}
use Rattle.std.proofs.lemmas.List.{length-append, length-replicate}
use Rattle.std.proofs.lemmas.Bool.Decides.{nat_tests}
use Rattle.fw_types.specs.Layout.{put}
use Rattle.fw_types.specs.declared.image.TheConstants.{BOOT_SERVICE_DRIVER, RUNTIME_DRIVER}
use Rattle.fw_types.specs.declared.limits.TheConstants.{MOST_FILE_BYTES}
use Rattle.rom_builder.specs.MadeImage.{aligned, header_bytes, padded_bytes, made_image, relocation_blocks, is_too_long, has_bad_entry, has_bad_reloc, has_bad_subsystem, fault_of}
use Rattle.rom_builder.specs.declared.parts.DriverParts.{DriverParts}
use Rattle.rom_builder.specs.declared.parts.BuildFault.{BuildFault}
use Rattle.rom_builder.specs.declared.parts.BuildFault.TheVariants.{TooLong}

-- the headers have 512 bytes, with relocations and without
length-headers_with : (b : Bool) (entry subsystem size relocations : ℕ) → nat_eq relocations 0 ≡ b → length (header_bytes entry subsystem size relocations) ≡ 512
unfolding header_bytes put
length-headers_with true entry subsystem size relocations e = rw e refl
length-headers_with false entry subsystem size relocations e = rw e refl

pub length-header_bytes : (entry subsystem size relocations : ℕ) → length (header_bytes entry subsystem size relocations) ≡ 512
length-header_bytes entry subsystem size relocations = length-headers_with (nat_eq relocations 0) entry subsystem size relocations refl

pub length-padded_bytes : (bytes : List ℕ) → length (padded_bytes bytes) ≡ aligned (length bytes)
length-padded_bytes bytes =
    let spare : ℕ = aligned (length bytes) - length bytes in
    omega (arith, length-append bytes (replicate spare 0), length-replicate {A = ℕ} spare 0)

pub made_image_size : (parts : DriverParts) → length (made_image parts) ≡ 512 + aligned (length parts.code) + aligned (length (relocation_blocks parts))
unfolding made_image
made_image_size parts =
    let blocks = relocation_blocks parts in
    let front = header_bytes parts.entry parts.subsystem (length parts.code) (length blocks) in
    omega (arith, length-append (front ++ padded_bytes parts.code) (padded_bytes blocks), length-append front (padded_bytes parts.code), length-header_bytes parts.entry parts.subsystem (length parts.code) (length blocks), length-padded_bytes parts.code, length-padded_bytes blocks)

-- ---- what is known of parts from which an image is made

abbrev Rule : Type 0
Rule = (DriverParts → Bool) × BuildFault

-- a rule that is broken is found first
pub too_long : (parts : DriverParts) → 16776704 < length parts.code → fault_of parts ≡ Some TooLong
unfolding fault_of is_too_long
too_long parts long =
    let size = made_image_size parts in
    let broken : nat_lt MOST_FILE_BYTES (length (made_image parts)) ≡ true = grind (arith, nat_tests, size) in
    rw broken refl

-- no rule that is broken is found, so the first is not broken and none of the others is broken
first_unbroken : (b : Bool) (rule : Rule) (rest : Option Rule) → option_map (λ (rule : Rule). rule.1) (cond b (Some rule) rest) ≡ None → (b ≡ false) × (option_map (λ (rule : Rule). rule.1) rest ≡ None)
first_unbroken true rule rest h = absurd cc
first_unbroken false rule rest h = (refl, h)

pub record IsBuildable (parts : DriverParts) : Type 0 where
  pub short : length (made_image parts) ≤ MOST_FILE_BYTES
  pub even : parts.entry % 2 ≡ 0
  pub inside : parts.entry < length parts.code
  pub relocs : list_any (λ offset. nat_lt (length parts.code) (offset + 8)) parts.relocs ≡ false
  pub driver : (parts.subsystem ≡ BOOT_SERVICE_DRIVER) ⊎ (parts.subsystem ≡ RUNTIME_DRIVER)

short_numbers : (size : ℕ) → nat_lt MOST_FILE_BYTES size ≡ false → size ≤ MOST_FILE_BYTES
short_numbers size h = grind (arith, nat_tests)

entry_numbers : (entry size : ℕ) → (nat_eq (entry % 2) 1 || nat_le size entry) ≡ false → (entry % 2 ≡ 0) × (entry < size)
entry_numbers entry size h = (grind (arith, nat_tests), grind (arith, nat_tests))

driver_numbers : (subsystem : ℕ) → not (nat_eq subsystem BOOT_SERVICE_DRIVER || nat_eq subsystem RUNTIME_DRIVER) ≡ false → (subsystem ≡ BOOT_SERVICE_DRIVER) ⊎ (subsystem ≡ RUNTIME_DRIVER)
driver_numbers subsystem h = grind (arith, nat_tests)

pub buildable : (parts : DriverParts) → fault_of parts ≡ None → IsBuildable parts
unfolding fault_of is_too_long has_bad_entry has_bad_reloc has_bad_subsystem
buildable parts h =
    let a = first_unbroken (is_too_long parts) _ _ h in
    let b = first_unbroken (has_bad_entry parts) _ _ a.1 in
    let c = first_unbroken (has_bad_reloc parts) _ _ b.1 in
    let d = first_unbroken (has_bad_subsystem parts) _ _ c.1 in
    let entry = entry_numbers parts.entry (length parts.code) b.0 in
    record {
      short = short_numbers (length (made_image parts)) a.0;
      even = entry.0;
      inside = entry.1;
      relocs = c.0;
      driver = driver_numbers parts.subsystem d.0;
    }

-- the parts of a file that is not too long are not too long
pub few_bytes : (parts : DriverParts) → length (made_image parts) ≤ MOST_FILE_BYTES → (length parts.code ≤ MOST_FILE_BYTES) × (length (relocation_blocks parts) ≤ MOST_FILE_BYTES)
few_bytes parts short = let size = made_image_size parts in (omega arith, omega arith)
