-- Sections that are copied one after the other to their places give the image, byte by byte.
use Rattle.std.proofs.Common.{◌≡◌, ◌⊎◌, ◌≤◌, ◌<◌, ◌+◌, ◌-◌, ℕ, Bool, true, false, List, ◌∷◌, ◌++◌, length, take, drop, replicate, find, slice_index, None, refl, ap, ◌∙◌, inl, inr, arith}
use Rattle.std.specs.Option.{option_map_or}
use Rattle.std.proofs.lemmas.List.{length-append, length-drop, length-replicate, length-take-le, get_or-take, get_or-drop, get_or_append_left, get_or-append_right}
use Rattle.std.proofs.lemmas.List.FromFn.{fill_by_all}
use Rattle.std.proofs.lemmas.Bool.{cases_lt}
use Rattle.std.proofs.lemmas.Bool.Decides.{nat_tests}
use Rattle.fw_types.specs.Layout.{put}
use Rattle.pe_image.specs.Headers.{headers_of, sections_of, copied_size, end_of, has_copied, file_place}
use Rattle.pe_image.specs.LaidImage.{headers_alone, byte_at, plain_image}
use Rattle.pe_image.specs.declared.sections.SectionHeader.{SectionHeader}

-- ---- a byte of bytes with others in their place

get_or-put-in : (a : ℕ) (others bytes : List ℕ) (place : ℕ) → a + length others ≤ length bytes → a ≤ place → place < a + length others → slice_index (put a others bytes) place ≡ slice_index others (place - a)
unfolding put
get_or-put-in a others bytes place room from below =
    let front : length (take a bytes) ≡ a = length-take-le a bytes (omega arith) in
    get_or_append_left (take a bytes ++ others) (drop (a + length others) bytes) 0 place (omega (arith, length-append (take a bytes) others))
    ∙ get_or-append_right (take a bytes) others a place 0 front from

get_or-put-below : (a : ℕ) (others bytes : List ℕ) (place : ℕ) → a + length others ≤ length bytes → place < a → slice_index (put a others bytes) place ≡ slice_index bytes place
unfolding put
get_or-put-below a others bytes place room below =
    let front : length (take a bytes) ≡ a = length-take-le a bytes (omega arith) in
    get_or_append_left (take a bytes ++ others) (drop (a + length others) bytes) 0 place (omega (arith, length-append (take a bytes) others))
    ∙ get_or_append_left (take a bytes) others 0 place (omega arith)
    ∙ get_or-take a bytes place 0 below

get_or-put-after : (a : ℕ) (others bytes : List ℕ) (place : ℕ) → a + length others ≤ length bytes → a + length others ≤ place → slice_index (put a others bytes) place ≡ slice_index bytes place
unfolding put
get_or-put-after a others bytes place room past =
    let front : length (take a bytes) ≡ a = length-take-le a bytes (omega arith) in
    let both : length (take a bytes ++ others) ≡ a + length others = omega (arith, length-append (take a bytes) others) in
    let there : a + length others + (place - (a + length others)) ≡ place = omega arith in
    get_or-append_right (take a bytes ++ others) (drop (a + length others) bytes) (a + length others) place 0 both past
    ∙ get_or-drop (a + length others) bytes (place - (a + length others)) 0
    ∙ ap (slice_index bytes) there

-- ---- a section over what is under it

-- the byte at a place, if sections lie over an image
abbrev pub byte_over : List ℕ → List SectionHeader → List ℕ → ℕ → ℕ
byte_over bytes sections under place =
    option_map_or (λ section. slice_index bytes (file_place place section)) (find (has_copied place 1) sections) (slice_index under place)

-- the bytes of a section that are copied
abbrev pub copied_bytes : List ℕ → SectionHeader → List ℕ
copied_bytes bytes section = take (copied_size section) (drop section.file_offset bytes)

-- where a place lies, by the test
copied_place : (section : SectionHeader) (place : ℕ) → has_copied place 1 section ≡ true → (section.address ≤ place) × (place < section.address + copied_size section)
copied_place section place has = (grind (arith, nat_tests), grind (arith, nat_tests))

other_place : (section : SectionHeader) (place : ℕ) → has_copied place 1 section ≡ false → (place < section.address) ⊎ (section.address + copied_size section ≤ place)
other_place section place has = grind (arith, nat_tests)

copied_in_extent : (section : SectionHeader) (place : ℕ) → place < section.address + copied_size section → place < end_of section
copied_in_extent section place below = omega arith

length-copied_bytes : (bytes : List ℕ) (section : SectionHeader) → (0 < copied_size section → section.file_offset + copied_size section ≤ length bytes) → length (copied_bytes bytes section) ≡ copied_size section
length-copied_bytes bytes section in_file =
    elim (cases_lt 0 (copied_size section)) [
      | inl some ↦ let h = in_file some in length-take-le (copied_size section) (drop section.file_offset bytes) (omega (arith, length-drop section.file_offset bytes))
      | inr none ↦ length-take-le (copied_size section) (drop section.file_offset bytes) (omega arith)
    ]

-- a section that is copied to its place gives its own bytes
pub byte_over-put : (bytes under : List ℕ) (section : SectionHeader) (rest : List SectionHeader) (place : ℕ)
    → section.address + copied_size section ≤ length under
    → (0 < copied_size section → section.file_offset + copied_size section ≤ length bytes)
    → (place < end_of section → find (has_copied place 1) rest ≡ None)
    → byte_over bytes rest (put section.address (copied_bytes bytes section) under) place ≡ byte_over bytes (section ∷ rest) under place
byte_over-put bytes under section rest place room in_file apart = by_case (has_copied place 1 section) refl
  where
    size : length (copied_bytes bytes section) ≡ copied_size section
    size = length-copied_bytes bytes section in_file

    by_case : (b : Bool) → has_copied place 1 section ≡ b → byte_over bytes rest (put section.address (copied_bytes bytes section) under) place ≡ byte_over bytes (section ∷ rest) under place
    by_case true has =
        let here = copied_place section place has in
        let below : place < section.address + copied_size section = here.1 in
        let from : section.address ≤ place = here.0 in
        let byte : slice_index (copied_bytes bytes section) (place - section.address) ≡ slice_index bytes (file_place place section) =
        get_or-take (copied_size section) (drop section.file_offset bytes) (place - section.address) 0 (omega arith) ∙ get_or-drop section.file_offset bytes (place - section.address) 0 in
        rw (has, apart (copied_in_extent section place below)) (get_or-put-in section.address (copied_bytes bytes section) under place (omega (arith, size)) from (omega (arith, size)) ∙ byte)
    by_case false has =
        let same : slice_index (put section.address (copied_bytes bytes section) under) place ≡ slice_index under place =
        elim (other_place section place has) [
          | inl below ↦ get_or-put-below section.address (copied_bytes bytes section) under place (omega (arith, size)) below
          | inr past ↦ get_or-put-after section.address (copied_bytes bytes section) under place (omega (arith, size)) (omega (arith, size))
        ] in
        rw (has, same) refl

-- over the headers followed by zeros the sections give the image
pub byte_over-start : (bytes under : List ℕ) (place : ℕ) → under ≡ headers_alone bytes → byte_over bytes (sections_of bytes) under place ≡ byte_at bytes place
byte_over-start bytes under place e = rw e refl

-- an image that has each byte is the image
pub plain_image-by_place : (bytes image : List ℕ) → length image ≡ (headers_of bytes).size_of_image → ((place : ℕ) → slice_index image place ≡ byte_at bytes place) → image ≡ plain_image bytes
unfolding plain_image
plain_image-by_place bytes image size each = fill_by_all (byte_at bytes) image (headers_of bytes).size_of_image 0 size (λ k below. each k)

-- the headers followed by zeros have the size of the image
pub length-headers_alone : (bytes : List ℕ) → (headers_of bytes).size_of_headers ≤ (headers_of bytes).size_of_image → (headers_of bytes).size_of_headers ≤ length bytes → length (headers_alone bytes) ≡ (headers_of bytes).size_of_image
unfolding headers_alone
length-headers_alone bytes inside in_file =
    let size = (headers_of bytes).size_of_headers in
    let whole = (headers_of bytes).size_of_image in
    omega (arith, length-append (take size bytes) (replicate (whole - size) 0), length-take-le size bytes in_file, length-replicate {A = ℕ} (whole - size) 0)
