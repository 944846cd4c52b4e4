-- The sections of a file by their places in the section table.
use Rattle.std.proofs.Common.{◌≡◌, ◌<◌, ◌+◌, ◌*◌, ℕ, Bool, true, false, List, [], ◌∷◌, length, drop, get_or, refl, ap, ◌∙◌, arith}
use Rattle.std.proofs.lemmas.List.{drop_more, drop_all}
use Rattle.std.proofs.lemmas.List.FromFn.{length-map-range_with_len, get_or-map-range_with_len}
use Rattle.std.specs.List.{list_any}
use Rattle.pe_image.specs.Headers.{headers_of, section_table, section_at, sections_of, end_of}
use Rattle.pe_image.specs.ImageRules.{placed_from}
use Rattle.pe_image.specs.declared.sections.SectionHeader.{SectionHeader}

length-sections_of : (bytes : List ℕ) → length (sections_of bytes) ≡ (headers_of bytes).section_count
unfolding sections_of
length-sections_of bytes = length-map-range_with_len (λ i. section_at (section_table bytes + 40 * i) bytes) 0 (headers_of bytes).section_count

get_or-sections_of : (bytes : List ℕ) (i : ℕ) (d : SectionHeader) → i < (headers_of bytes).section_count → get_or (sections_of bytes) i d ≡ section_at (section_table bytes + 40 * i) bytes
unfolding sections_of
get_or-sections_of bytes i d inside =
    get_or-map-range_with_len (λ i. section_at (section_table bytes + 40 * i) bytes) 0 (headers_of bytes).section_count i i d inside (omega arith)

-- the sections from one on are it and those after it
pub drop-sections_of : (bytes : List ℕ) (i : ℕ) → i < (headers_of bytes).section_count → drop i (sections_of bytes) ≡ section_at (section_table bytes + 40 * i) bytes ∷ drop (i + 1) (sections_of bytes)
drop-sections_of bytes i inside =
    let section = section_at (section_table bytes + 40 * i) bytes in
    drop_more (sections_of bytes) i section (omega (arith, length-sections_of bytes))
    ∙ ap (λ (s : SectionHeader). s ∷ drop (i + 1) (sections_of bytes)) (get_or-sections_of bytes i section inside)

-- there is none after the last
pub drop-sections_of-all : (bytes : List ℕ) → drop (headers_of bytes).section_count (sections_of bytes) ≡ []
drop-sections_of-all bytes = drop_all (headers_of bytes).section_count (sections_of bytes) (omega (arith, length-sections_of bytes))

-- ---- a section after what comes before it

-- the first of the sections from one on is misplaced
pub any_placed-first : (misplaced : ℕ × SectionHeader → Bool) (bytes : List ℕ) (front i : ℕ) → i < (headers_of bytes).section_count
    → misplaced (front, section_at (section_table bytes + 40 * i) bytes) ≡ true → list_any misplaced (placed_from front (drop i (sections_of bytes))) ≡ true
any_placed-first misplaced bytes front i inside bad = rw (drop-sections_of bytes i inside, bad) refl

-- it is not, and the others come after it
pub any_placed-behind : (misplaced : ℕ × SectionHeader → Bool) (bytes : List ℕ) (front i : ℕ) → i < (headers_of bytes).section_count
    → misplaced (front, section_at (section_table bytes + 40 * i) bytes) ≡ false
    → list_any misplaced (placed_from (end_of (section_at (section_table bytes + 40 * i) bytes)) (drop (i + 1) (sections_of bytes))) ≡ list_any misplaced (placed_from front (drop i (sections_of bytes)))
any_placed-behind misplaced bytes front i inside good = rw (drop-sections_of bytes i inside, good) refl

-- no section is left
pub any_placed-none : (misplaced : ℕ × SectionHeader → Bool) (bytes : List ℕ) (front i : ℕ) → i ≡ (headers_of bytes).section_count → list_any misplaced (placed_from front (drop i (sections_of bytes))) ≡ false
any_placed-none misplaced bytes front i all = rw (all, drop-sections_of-all bytes) refl
