-- What is known of an accepted file: it breaks none of the rules.
use Rattle.std.proofs.Common.{◌≡◌, ◌⊎◌, ◌≤◌, ◌<◌, ◌%◌, ℕ, Bool, true, false, ◌||◌, not, cond, nat_eq, nat_lt, nat_le, List, length, Option, Some, None, refl, arith}
use Rattle.std.specs.Option.{option_map}
use Rattle.std.proofs.lemmas.Bool.Decides.{nat_tests}
use Rattle.fw_types.specs.declared.image.PeRefusal.{PeRefusal}
use Rattle.fw_types.specs.declared.image.TheConstants.{BOOT_SERVICE_DRIVER, RUNTIME_DRIVER}
use Rattle.fw_types.specs.declared.limits.TheConstants.{MOST_FILE_BYTES}
use Rattle.pe_image.specs.Headers.{headers_of}
use Rattle.pe_image.specs.Relocations.{has_directory, directory_place, directory_at, is_bad_directory}
use Rattle.pe_image.specs.ImageRules.{is_short, lacks_mz, lacks_pe, is_for_another_machine, lacks_optional_header, is_no_driver, is_stripped, has_bad_size, has_bad_headers, has_misplaced_section, has_bad_relocations, has_bad_entry, refusal_of, size_of, entry_of, subsystem_of}

abbrev Rule : Type 0
Rule = (List ℕ → Bool) × PeRefusal

-- no rule that is broken is found, so the first is not broken and none of the others is broken
first_unbroken : (b : Bool) (rule : Rule) (rest : Option Rule) → option_map (λ (rule : Rule). rule.1) (cond b (Some rule) rest) ≡ None → (b ≡ false) × (option_map (λ (rule : Rule). rule.1) rest ≡ None)
first_unbroken true rule rest h = absurd cc
first_unbroken false rule rest h = (refl, h)

pub record KeepsRules (bytes : List ℕ) : Type 0 where
  pub driver : is_no_driver bytes ≡ false
  pub size : has_bad_size bytes ≡ false
  pub headers : has_bad_headers bytes ≡ false
  pub sections : has_misplaced_section bytes ≡ false
  pub relocations : has_bad_relocations bytes ≡ false
  pub entry : has_bad_entry bytes ≡ false

pub keeps_rules : (bytes : List ℕ) → refusal_of bytes ≡ None → KeepsRules bytes
unfolding refusal_of
keeps_rules bytes h =
    let a = first_unbroken (is_short bytes) _ _ h in
    let b = first_unbroken (lacks_mz bytes) _ _ a.1 in
    let c = first_unbroken (lacks_pe bytes) _ _ b.1 in
    let d = first_unbroken (is_for_another_machine bytes) _ _ c.1 in
    let e = first_unbroken (lacks_optional_header bytes) _ _ d.1 in
    let f = first_unbroken (is_no_driver bytes) _ _ e.1 in
    let g = first_unbroken (is_stripped bytes) _ _ f.1 in
    let i = first_unbroken (has_bad_size bytes) _ _ g.1 in
    let j = first_unbroken (has_bad_headers bytes) _ _ i.1 in
    let k = first_unbroken (has_misplaced_section bytes) _ _ j.1 in
    let l = first_unbroken (has_bad_relocations bytes) _ _ k.1 in
    let m = first_unbroken (has_bad_entry bytes) _ _ l.1 in
    record { driver = f.0; size = i.0; headers = j.0; sections = k.0; relocations = l.0; entry = m.0 }

-- the same in numbers
pub record KeepsLimits (bytes : List ℕ) : Type 0 where
  pub some : 1 ≤ size_of bytes
  pub at_most : size_of bytes ≤ MOST_FILE_BYTES
  pub headers_in_image : (headers_of bytes).size_of_headers ≤ size_of bytes
  pub headers_in_file : (headers_of bytes).size_of_headers ≤ length bytes
  pub entry_even : entry_of bytes % 2 ≡ 0
  pub entry_inside : entry_of bytes < size_of bytes
  pub driver : (subsystem_of bytes ≡ BOOT_SERVICE_DRIVER) ⊎ (subsystem_of bytes ≡ RUNTIME_DRIVER)

size_numbers : (size : ℕ) → (nat_eq size 0 || nat_lt MOST_FILE_BYTES size) ≡ false → (1 ≤ size) × (size ≤ MOST_FILE_BYTES)
size_numbers size h = (grind (arith, nat_tests), grind (arith, nat_tests))

headers_numbers : (image headers file : ℕ) (more : Bool) → (nat_lt image headers || nat_lt file headers || more) ≡ false → (headers ≤ image) × (headers ≤ file)
headers_numbers image headers file more h = (grind (arith, nat_tests), grind (arith, nat_tests))

entry_numbers : (entry size : ℕ) → (nat_eq (entry % 2) 1 || nat_le size entry) ≡ false → (entry % 2 ≡ 0) × (entry < size)
entry_numbers entry size h = (grind (arith, nat_tests), grind (arith, nat_tests))

driver_numbers : (subsystem : ℕ) → not (nat_eq subsystem BOOT_SERVICE_DRIVER || nat_eq subsystem RUNTIME_DRIVER) ≡ false → (subsystem ≡ BOOT_SERVICE_DRIVER) ⊎ (subsystem ≡ RUNTIME_DRIVER)
driver_numbers subsystem h = grind (arith, nat_tests)

pub keeps_limits : (bytes : List ℕ) → refusal_of bytes ≡ None → KeepsLimits bytes
unfolding is_no_driver has_bad_size has_bad_headers has_bad_entry
keeps_limits bytes h =
    let rules = keeps_rules bytes h in
    let size = size_numbers (size_of bytes) rules.size in
    let headers = headers_of bytes in
    let kept = headers_numbers headers.size_of_image headers.size_of_headers (length bytes) (nat_lt 96 headers.section_count) (or_first _ _ rules.headers) in
    let entry = entry_numbers (entry_of bytes) (size_of bytes) rules.entry in
    record {
      some = size.0;
      at_most = size.1;
      headers_in_image = kept.0;
      headers_in_file = kept.1;
      entry_even = entry.0;
      entry_inside = entry.1;
      driver = driver_numbers (subsystem_of bytes) rules.driver;
    }
  where
    or_first : (a b : Bool) → (a || b) ≡ false → a ≡ false
    or_first true b h = absurd cc
    or_first false b h = refl

-- the directory that an accepted file has is good
pub good_relocations : (bytes : List ℕ) (place : ℕ) → refusal_of bytes ≡ None → has_directory bytes ≡ true → directory_place bytes ≡ Some place → is_bad_directory (size_of bytes) (directory_at bytes place) ≡ false
unfolding has_bad_relocations
good_relocations bytes place h there found = rw (there, found) at (keeps_rules bytes h).relocations
