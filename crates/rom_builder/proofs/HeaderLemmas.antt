-- What the headers of a made image say, read field by field.
use Rattle.std.proofs.Common.{◌≡◌, ◌≤◌, ◌<◌, ◌+◌, ℕ, true, false, nat_eq, List, [], ◌∷◌, ◌++◌, drop, replicate, codes, refl, arith}
use Rattle.std.specs.List.{starts_with}
use Rattle.byteorder.specs.Numbers.{little_number-reads_back}
use Rattle.fw_types.specs.Layout.{Field, put, put_all, uint16_at, uint32_at, uint64_at}
use Rattle.fw_types.specs.declared.image.TheConstants.{MACHINE_EBC}
use Rattle.rom_builder.specs.MadeImage.{aligned, file_fields, optional_fields, code_fields, relocation_fields, header_bytes}

-- the headers with a number of sections and some more fields
front_with : List Field → ℕ → ℕ → ℕ → ℕ → ℕ → List ℕ
front_with fields sections entry subsystem size relocations =
    put_all fields
    (put_all (code_fields size)
    (put_all (optional_fields entry (512 + aligned size + aligned relocations) subsystem)
    (put_all (file_fields sections) (replicate 512 0))))

-- what every made image says
pub record MadeHeaders (file : List ℕ) (entry subsystem size relocations sections : ℕ) : Type 0 where
  pub mz : starts_with nat_eq file (codes "MZ") ≡ true
  pub pe : starts_with nat_eq (drop 64 file) (codes "PE" ++ 0 ∷ 0 ∷ []) ≡ true
  pub signature : uint32_at 60 file ≡ 64
  pub machine : uint16_at 68 file ≡ MACHINE_EBC
  pub section_count : uint16_at 70 file ≡ sections
  pub optional_size : uint16_at 84 file ≡ 160
  pub characteristics : uint16_at 86 file ≡ 14
  pub magic : uint16_at 88 file ≡ 0x020B
  pub entry_is : uint32_at 104 file ≡ 512 + entry
  pub image_base : uint64_at 112 file ≡ 0
  pub size_of_image : uint32_at 144 file ≡ 512 + aligned size + aligned relocations
  pub size_of_headers : uint32_at 148 file ≡ 512
  pub subsystem_is : uint16_at 156 file ≡ subsystem
  pub directory_count : uint32_at 196 file ≡ 6
  pub size_of_relocations : uint32_at 244 file ≡ relocations
  pub code_size : uint32_at 256 file ≡ size
  pub code_address : uint32_at 260 file ≡ 512
  pub code_raw_size : uint32_at 264 file ≡ aligned size
  pub code_offset : uint32_at 268 file ≡ 512

-- and what one with relocations says in addition
pub record MadeSection (file : List ℕ) (place relocations : ℕ) : Type 0 where
  pub directory : uint32_at 240 file ≡ place
  pub size : uint32_at 296 file ≡ relocations
  pub address : uint32_at 300 file ≡ place
  pub raw_size : uint32_at 304 file ≡ aligned relocations
  pub offset : uint32_at 308 file ≡ place

-- numbers that the fields have room for
pub record Fits (entry subsystem size relocations : ℕ) : Type 0 where
  pub entry_fits : entry ≤ 16777216
  pub subsystem_fits : subsystem < 65536
  pub size_fits : size ≤ 16777216
  pub relocations_fit : relocations ≤ 16777216

front_none : (entry subsystem size : ℕ) (back : List ℕ) → Fits entry subsystem size 0 → MadeHeaders (front_with [] 1 entry subsystem size 0 ++ back) entry subsystem size 0 1
unfolding front_with put uint16_at uint32_at uint64_at
front_none entry subsystem size back fits = record {
  mz = refl;
  pe = refl;
  signature = refl;
  machine = refl;
  section_count = refl;
  optional_size = refl;
  characteristics = refl;
  magic = refl;
  entry_is = little_number-reads_back 4 (512 + entry) [] (omega (arith, fits.entry_fits));
  image_base = refl;
  size_of_image = little_number-reads_back 4 (512 + aligned size + aligned 0) [] (omega (arith, fits.size_fits));
  size_of_headers = refl;
  subsystem_is = little_number-reads_back 2 subsystem [] (omega (arith, fits.subsystem_fits));
  directory_count = refl;
  size_of_relocations = refl;
  code_size = little_number-reads_back 4 size [] (omega (arith, fits.size_fits));
  code_address = refl;
  code_raw_size = little_number-reads_back 4 (aligned size) [] (omega (arith, fits.size_fits));
  code_offset = refl;
}

-- the headers with relocations
front_some_headers : (entry subsystem size relocations : ℕ) (back : List ℕ) → Fits entry subsystem size relocations → MadeHeaders (front_with (relocation_fields (512 + aligned size) relocations) 2 entry subsystem size relocations ++ back) entry subsystem size relocations 2
unfolding front_with put uint16_at uint32_at uint64_at
front_some_headers entry subsystem size relocations back fits = record {
  mz = refl;
  pe = refl;
  signature = refl;
  machine = refl;
  section_count = refl;
  optional_size = refl;
  characteristics = refl;
  magic = refl;
  entry_is = little_number-reads_back 4 (512 + entry) [] (omega (arith, fits.entry_fits));
  image_base = refl;
  size_of_image = little_number-reads_back 4 (512 + aligned size + aligned relocations) [] (omega (arith, fits.size_fits, fits.relocations_fit));
  size_of_headers = refl;
  subsystem_is = little_number-reads_back 2 subsystem [] (omega (arith, fits.subsystem_fits));
  directory_count = refl;
  size_of_relocations = little_number-reads_back 4 relocations [] (omega (arith, fits.relocations_fit));
  code_size = little_number-reads_back 4 size [] (omega (arith, fits.size_fits));
  code_address = refl;
  code_raw_size = little_number-reads_back 4 (aligned size) [] (omega (arith, fits.size_fits));
  code_offset = refl;
}

front_some_section : (entry subsystem size relocations : ℕ) (back : List ℕ) → Fits entry subsystem size relocations → MadeSection (front_with (relocation_fields (512 + aligned size) relocations) 2 entry subsystem size relocations ++ back) (512 + aligned size) relocations
unfolding front_with put uint16_at uint32_at uint64_at
front_some_section entry subsystem size relocations back fits =
    let place : ℕ = 512 + aligned size in
    let near : place < 4294967296 = omega (arith, fits.size_fits) in
    record {
      directory = little_number-reads_back 4 place [] near;
      size = little_number-reads_back 4 relocations [] (omega (arith, fits.relocations_fit));
      address = little_number-reads_back 4 place [] near;
      raw_size = little_number-reads_back 4 (aligned relocations) [] (omega (arith, fits.relocations_fit));
      offset = little_number-reads_back 4 place [] near;
    }

-- ---- by whether there are relocations

header_bytes-none : (entry subsystem size : ℕ) → header_bytes entry subsystem size 0 ≡ front_with [] 1 entry subsystem size 0
unfolding header_bytes front_with
header_bytes-none entry subsystem size = refl

header_bytes-some : (entry subsystem size relocations : ℕ) → nat_eq relocations 0 ≡ false → header_bytes entry subsystem size relocations ≡ front_with (relocation_fields (512 + aligned size) relocations) 2 entry subsystem size relocations
unfolding header_bytes front_with
header_bytes-some entry subsystem size relocations some = rw some refl

pub made_headers-none : (entry subsystem size : ℕ) (back : List ℕ) → Fits entry subsystem size 0 → MadeHeaders (header_bytes entry subsystem size 0 ++ back) entry subsystem size 0 1
made_headers-none entry subsystem size back fits = rw (header_bytes-none entry subsystem size) (front_none entry subsystem size back fits)

pub made_headers-some : (entry subsystem size relocations : ℕ) (back : List ℕ) → nat_eq relocations 0 ≡ false → Fits entry subsystem size relocations → MadeHeaders (header_bytes entry subsystem size relocations ++ back) entry subsystem size relocations 2
made_headers-some entry subsystem size relocations back some fits =
    rw (header_bytes-some entry subsystem size relocations some) (front_some_headers entry subsystem size relocations back fits)

pub made_section : (entry subsystem size relocations : ℕ) (back : List ℕ) → nat_eq relocations 0 ≡ false → Fits entry subsystem size relocations → MadeSection (header_bytes entry subsystem size relocations ++ back) (512 + aligned size) relocations
made_section entry subsystem size relocations back some fits =
    rw (header_bytes-some entry subsystem size relocations some) (front_some_section entry subsystem size relocations back fits)
