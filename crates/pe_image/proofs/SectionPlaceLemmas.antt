-- The sections of an accepted file follow one another in the image.
use Rattle.std.proofs.Common.{◌≡◌, ◌≤◌, ◌<◌, ◌+◌, ◌*◌, ℕ, zero, suc, Bool, true, false, ◌||◌, cond, List, [], ◌∷◌, length, drop, find, get_or, Some, None, refl, add-one, arith}
use Rattle.std.specs.List.{list_any, AllPairs}
use Rattle.std.proofs.lemmas.Bool.Decides.{nat_tests}
use Rattle.pe_image.specs.Headers.{headers_of, section_table, section_at, sections_of, copied_size, end_of, has_address, has_copied}
use Rattle.pe_image.specs.ImageRules.{placed_from, is_misplaced, has_misplaced_section}
use Rattle.pe_image.specs.declared.sections.SectionHeader.{SectionHeader}
use Rattle.pe_image.proofs.SectionLemmas.{drop-sections_of}

-- a section that is not misplaced
record IsPlaced (file image front : ℕ) (section : SectionHeader) : Type 0 where
  pub behind : front ≤ section.address
  pub inside : end_of section ≤ image
  pub in_file : 0 < copied_size section → section.file_offset + copied_size section ≤ file

placed : (file image front : ℕ) (section : SectionHeader) → is_misplaced file image (front, section) ≡ false → IsPlaced file image front section
placed file image front section good = record {
  behind = grind (arith, nat_tests);
  inside = grind (arith, nat_tests);
  in_file = λ some. grind (arith, nat_tests);
}

or_false : (a b : Bool) → (a || b) ≡ false → (a ≡ false) × (b ≡ false)
or_false true b h = absurd cc
or_false false b h = (refl, h)

-- the first of sections is placed, and the others come after it
split : (file image front : ℕ) (section : SectionHeader) (rest : List SectionHeader) → list_any (is_misplaced file image) (placed_from front (section ∷ rest)) ≡ false
    → IsPlaced file image front section × (list_any (is_misplaced file image) (placed_from (end_of section) rest) ≡ false)
split file image front section rest good =
    let parts = or_false (is_misplaced file image (front, section)) (list_any (is_misplaced file image) (placed_from (end_of section) rest)) good in
    (placed file image front section parts.0, parts.1)

not_below : (section : SectionHeader) (place count : ℕ) → place < section.address → has_copied place count section ≡ false
not_below section place count below = grind (arith, nat_tests)

-- no byte before sections is copied from one of them
none_below : (file image front : ℕ) (sections : List SectionHeader) (place : ℕ) → list_any (is_misplaced file image) (placed_from front sections) ≡ false → place < front → find (has_copied place 1) sections ≡ None
none_below file image front [] place good below = refl
none_below file image front (section ∷ rest) place good below =
    let parts = split file image front section rest good in
    let first = parts.0 in
    let behind : front ≤ section.address = first.behind in
    rw (not_below section place 1 (omega arith)) (none_below file image (end_of section) rest place parts.1 (omega arith))

-- a section that is found ends in the image
found_inside : (file image front : ℕ) (sections : List SectionHeader) (place : ℕ) (section : SectionHeader) → list_any (is_misplaced file image) (placed_from front sections) ≡ false → find (has_address place) sections ≡ Some section → end_of section ≤ image
found_inside file image front [] place section good found = absurd cc
found_inside file image front (first ∷ rest) place section good found =
    let parts = split file image front first rest good in
    found_cases (has_address place first) parts.0.inside found (λ later. found_inside file image (end_of first) rest place section parts.1 later)
  where
    found_cases : (b : Bool) → end_of first ≤ image → cond b (Some first) (find (has_address place) rest) ≡ Some section → (find (has_address place) rest ≡ Some section → end_of section ≤ image) → end_of section ≤ image
    found_cases true inside found later = let same : first ≡ section = cc in rw (← same) inside
    found_cases false inside found later = later found

-- and has the place
found_has : (sections : List SectionHeader) (place : ℕ) (section : SectionHeader) → find (has_address place) sections ≡ Some section → has_address place section ≡ true
found_has [] place section found = absurd cc
found_has (first ∷ rest) place section found = has_cases (has_address place first) refl found (λ later. found_has rest place section later)
  where
    has_cases : (b : Bool) → has_address place first ≡ b → cond b (Some first) (find (has_address place) rest) ≡ Some section → (find (has_address place) rest ≡ Some section → has_address place section ≡ true) → has_address place section ≡ true
    has_cases true has found later = let same : first ≡ section = cc in rw (← same) has
    has_cases false has found later = later found

-- ---- by the place in the section table

-- the sections from each one on come after something
from_each : (bytes : List ℕ) (i : ℕ) → has_misplaced_section bytes ≡ false → i ≤ (headers_of bytes).section_count
    → (front : ℕ) × (list_any (is_misplaced (length bytes) (headers_of bytes).size_of_image) (placed_from front (drop i (sections_of bytes))) ≡ false)
unfolding has_misplaced_section
from_each bytes zero good inside = ((headers_of bytes).size_of_headers, good)
from_each bytes (suc i) good inside =
    let misplaced = is_misplaced (length bytes) (headers_of bytes).size_of_image in
    let before = from_each bytes i good (omega arith) in
    let section = section_at (section_table bytes + 40 * i) bytes in
    let here : i < (headers_of bytes).section_count = omega arith in
    let parts = split (length bytes) (headers_of bytes).size_of_image before.0 section (drop (i + 1) (sections_of bytes)) (rw (drop-sections_of bytes i here) at before.1) in
    (end_of section, rw add-one at parts.1)

-- a section of an accepted file: it lies in the image and its bytes in the file, and no later section
-- has a byte before its end
pub record IsLaidOut (bytes : List ℕ) (i : ℕ) (section : SectionHeader) : Type 0 where
  pub inside : end_of section ≤ (headers_of bytes).size_of_image
  pub in_file : 0 < copied_size section → section.file_offset + copied_size section ≤ length bytes
  pub apart : (place : ℕ) → place < end_of section → find (has_copied place 1) (drop (i + 1) (sections_of bytes)) ≡ None

pub laid_out : (bytes : List ℕ) (i : ℕ) → has_misplaced_section bytes ≡ false → i < (headers_of bytes).section_count → IsLaidOut bytes i (section_at (section_table bytes + 40 * i) bytes)
laid_out bytes i good inside =
    let section = section_at (section_table bytes + 40 * i) bytes in
    let rest = drop (i + 1) (sections_of bytes) in
    let from = from_each bytes i good (omega arith) in
    let parts = split (length bytes) (headers_of bytes).size_of_image from.0 section rest (rw (drop-sections_of bytes i inside) at from.1) in
    let here = parts.0 in
    record {
      inside = here.inside;
      in_file = here.in_file;
      apart = λ place below. none_below (length bytes) (headers_of bytes).size_of_image (end_of section) rest place parts.1 below;
    }

-- ---- the section that has the entry point

-- its end lies in the image, after the place
pub record EndsBehind (bytes : List ℕ) (place : ℕ) (section : SectionHeader) : Type 0 where
  pub inside : end_of section ≤ (headers_of bytes).size_of_image
  pub behind : place < end_of section

place_below : (section : SectionHeader) (place : ℕ) → has_address place section ≡ true → place < end_of section
place_below section place has = grind (arith, nat_tests)

pub section_end : (bytes : List ℕ) (place : ℕ) (section : SectionHeader) → has_misplaced_section bytes ≡ false → find (has_address place) (sections_of bytes) ≡ Some section → EndsBehind bytes place section
unfolding has_misplaced_section
section_end bytes place section good found = record {
  inside = found_inside (length bytes) (headers_of bytes).size_of_image (headers_of bytes).size_of_headers (sections_of bytes) place section good found;
  behind = place_below section place (found_has (sections_of bytes) place section found);
}

-- ---- sections lie apart

-- each of the sections after something begins after it
all_behind : (file image front : ℕ) (sections : List SectionHeader) (j : ℕ) (d : SectionHeader) → list_any (is_misplaced file image) (placed_from front sections) ≡ false → j < length sections → front ≤ (get_or sections j d).address
all_behind file image front [] j d good inside = absurd (omega arith)
all_behind file image front (section ∷ rest) zero d good inside = (split file image front section rest good).0.behind
all_behind file image front (section ∷ rest) (suc j) d good inside =
    let parts = split file image front section rest good in
    let first : front ≤ section.address = parts.0.behind in
    let later : end_of section ≤ (get_or rest j d).address = all_behind file image (end_of section) rest j d parts.1 (omega arith) in
    omega arith

all_apart : (file image front : ℕ) (sections : List SectionHeader) (i j : ℕ) (d : SectionHeader) → list_any (is_misplaced file image) (placed_from front sections) ≡ false → i < j → j < length sections
    → end_of (get_or sections i d) ≤ (get_or sections j d).address
all_apart file image front [] i j d good below inside = absurd (omega arith)
all_apart file image front (section ∷ rest) i zero d good below inside = absurd (omega arith)
all_apart file image front (section ∷ rest) zero (suc j) d good below inside =
    all_behind file image (end_of section) rest j d (split file image front section rest good).1 (omega arith)
all_apart file image front (section ∷ rest) (suc i) (suc j) d good below inside =
    all_apart file image (end_of section) rest i j d (split file image front section rest good).1 (omega arith) (omega arith)

pub sections_apart : (bytes : List ℕ) → has_misplaced_section bytes ≡ false → AllPairs (λ former later. end_of former ≤ later.address) (sections_of bytes)
unfolding has_misplaced_section
sections_apart bytes good i j d below inside =
    all_apart (length bytes) (headers_of bytes).size_of_image (headers_of bytes).size_of_headers (sections_of bytes) i j d good below inside
