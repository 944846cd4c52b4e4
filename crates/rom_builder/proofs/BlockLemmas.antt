-- The blocks of a made image are read back as they were written: well formed, and with good entries.
use Rattle.std.proofs.Common.{◌≡◌, ◌≤◌, ◌<◌, ◌+◌, ◌-◌, ◌*◌, ◌/◌, ◌%◌, ℕ, Bool, true, false, nat_eq, nat_lt, nat_le, ◌&&◌, ◌||◌, cond, List, [], ◌∷◌, ◌++◌, length, map, drop, if◌then◌else◌, refl, ap, sym, ◌∙◌, arith}
use Rattle.std.specs.List.{list_any, list_all, flat_map}
use Rattle.std.proofs.lemmas.Bool.Decides.{nat_tests}
use Rattle.std.proofs.lemmas.List.{length-append, take_at, drop_at, append_assoc}
use Rattle.byteorder.specs.Endian.{little_bytes}
use Rattle.byteorder.specs.Numbers.{little_number-reads_back}
use Rattle.fw_types.specs.Layout.{uint32_at}
use Rattle.pe_image.specs.Relocations.{Block, block_of, words_in, block_entry, is_malformed, is_bad_entry, is_bad_block, is_bad_directory}
use Rattle.pe_image.proofs.BlockLemmas.{is_bad_directory-behind, is_bad_directory-none}
use Rattle.rom_builder.specs.MadeImage.{page_block, block_with, page_blocks, entry_bytes, padded_entries, page_of, pages_of, places_in, places_of, relocation_blocks}
use Rattle.rom_builder.specs.SortedOnce.{insert_once, sorted_once}
use Rattle.rom_builder.specs.declared.parts.DriverParts.{DriverParts}
use Rattle.rom_builder.proofs.PageLemmas.{few_in_page}
use Rattle.rom_builder.proofs.SortedOnceLemmas.{rise-sorted_once}

-- ---- the entries of a block

-- a number that is written in 2 bytes is read as one word
pub words_in-word : (number : ℕ) (rest : List ℕ) → number < 65536 → words_in (little_bytes 2 number ++ rest) ≡ number ∷ words_in rest
words_in-word number rest small =
    let back : number % 256 + 256 * (number / 256 % 256) ≡ number = omega arith in
    ap (λ (n : ℕ). n ∷ words_in rest) back

-- a place of a page at which 8 bytes lie in an image
abbrev pub is_good_place : ℕ → ℕ → ℕ → Bool
is_good_place size page place = nat_eq (page_of place) page && nat_le (place + 8) size

in_page : (place page : ℕ) → nat_eq (page_of place) page ≡ true → 4096 * page + place % 4096 ≡ place
in_page place page h = let is : place / 4096 ≡ page = same (place / 4096) page h in omega (arith, is)
  where
    same : (n m : ℕ) → nat_eq n m ≡ true → n ≡ m
    same n m h = grind (arith, nat_tests)

or_parts : (a b : Bool) → (a || b) ≡ false → (a ≡ false) × (b ≡ false)
or_parts true b h = absurd cc
or_parts false b h = (refl, h)

pub and_parts : (a b : Bool) → (a && b) ≡ true → (a ≡ true) × (b ≡ true)
and_parts true b h = (refl, h)
and_parts false b h = absurd cc

-- the entry of a place of the page has type 10 and the place
pub entry_kind : (place : ℕ) → (40960 + place % 4096) / 4096 ≡ 10
entry_kind place = omega arith

pub entry_place : (page place : ℕ) → nat_eq (page_of place) page ≡ true → 4096 * page + (40960 + place % 4096) % 4096 ≡ place
entry_place page place h =
    let offset : (40960 + place % 4096) % 4096 ≡ place % 4096 = omega arith in
    omega (arith, offset, in_page place page h)

good_entry : (size page place : ℕ) → is_good_place size page place ≡ true → is_bad_entry size (block_entry (4096 * page) (40960 + place % 4096)) ≡ false
good_entry size page place good =
    let parts = and_parts (nat_eq (page_of place) page) (nat_le (place + 8) size) good in
    rw (entry_kind place, entry_place page place parts.0) (in_image size place parts.1)
  where
    in_image : (size place : ℕ) → nat_le (place + 8) size ≡ true → nat_lt size (place + 8) ≡ false
    in_image size place inside = grind (arith, nat_tests)

small_word : (place : ℕ) → 40960 + place % 4096 < 65536
small_word place = omega arith

-- the first word of the entries
pub words_in-entry : (place : ℕ) (places tail : List ℕ) → words_in (entry_bytes (place ∷ places) ++ tail) ≡ (40960 + place % 4096) ∷ words_in (entry_bytes places ++ tail)
words_in-entry place places tail =
    ap words_in (append_assoc (little_bytes 2 (40960 + place % 4096)) (entry_bytes places) tail)
    ∙ words_in-word (40960 + place % 4096) (entry_bytes places ++ tail) (small_word place)

-- good places give good entries
good_entries : (size page : ℕ) (places tail : List ℕ) → list_all (is_good_place size page) places ≡ true
    → list_any (is_bad_entry size) (map (block_entry (4096 * page)) (words_in (entry_bytes places ++ tail))) ≡ list_any (is_bad_entry size) (map (block_entry (4096 * page)) (words_in tail))
good_entries size page [] tail good = refl
good_entries size page (place ∷ places) tail good =
    let parts = and_parts (is_good_place size page place) (list_all (is_good_place size page) places) good in
    ap (λ (words : List ℕ). list_any (is_bad_entry size) (map (block_entry (4096 * page)) words)) (words_in-entry place places tail)
    ∙ rw (good_entry size page place parts.0) (good_entries size page places tail parts.1)

-- so does the padding
good_padding : (b : Bool) (size page : ℕ) → list_any (is_bad_entry size) (map (block_entry page) (words_in (if b then [] else little_bytes 2 0))) ≡ false
good_padding true size page = refl
good_padding false size page = refl

good_padded : (size page : ℕ) (places : List ℕ) → list_all (is_good_place size page) places ≡ true → list_any (is_bad_entry size) (map (block_entry (4096 * page)) (words_in (padded_entries (entry_bytes places)))) ≡ false
good_padded size page places good =
    let even = nat_eq (length (entry_bytes places) % 4) 0 in
    good_entries size page places (if even then [] else little_bytes 2 0) good ∙ good_padding even size (4096 * page)

-- ---- how long blocks are

pub length-entry_bytes : (places : List ℕ) → length (entry_bytes places) ≡ 2 * length places
length-entry_bytes [] = refl
length-entry_bytes (place ∷ places) = let rest = length-entry_bytes places in omega arith

padded_few : (b : Bool) (entries : List ℕ) → length (entries ++ (if b then [] else little_bytes 2 0)) ≤ length entries + 2
padded_few true entries = omega (arith, length-append entries [])
padded_few false entries = omega (arith, length-append entries (little_bytes 2 0))

pub short_entries : (places : List ℕ) → length places ≤ 4096 → length (padded_entries (entry_bytes places)) ≤ 8194
short_entries places few =
    omega (arith, few, length-entry_bytes places, padded_few (nat_eq (length (entry_bytes places) % 4) 0) (entry_bytes places))

-- ---- a block followed by bytes

page_made : (page size : ℕ) (entries rest : List ℕ) → page < 4294967296 → uint32_at 0 ((little_bytes 4 page ++ little_bytes 4 size ++ entries) ++ rest) ≡ page
unfolding uint32_at
page_made page size entries rest small = little_number-reads_back 4 page [] small

size_made : (page size : ℕ) (entries rest : List ℕ) → size < 4294967296 → uint32_at 4 ((little_bytes 4 page ++ little_bytes 4 size ++ entries) ++ rest) ≡ size
unfolding uint32_at
size_made page size entries rest small = little_number-reads_back 4 size [] small

pub length-made : (page : ℕ) (entries rest : List ℕ) → length (block_with page entries ++ rest) ≡ 8 + length entries + length rest
length-made page entries rest = let both = length-append entries rest in omega arith

-- the block is the one that was written
pub block_of-made : (page : ℕ) (entries rest : List ℕ) → page < 1048576 → 8 + length entries < 4294967296
    → block_of (block_with page entries ++ rest) ≡ record { page = 4096 * page; size = 8 + length entries; left = 8 + length entries + length rest; words = words_in entries }
unfolding block_of
block_of-made page entries rest near short =
    let size : ℕ = 8 + length entries in
    let back : size - 8 ≡ length entries = omega arith in
    rw (page_made (4096 * page) size entries rest (omega (arith, near)), size_made (4096 * page) size entries rest short, length-made page entries rest, back, take_at entries rest (length entries) refl) refl

well_formed : (m n : ℕ) (words : List ℕ) (page : ℕ) → m % 2 ≡ 0 → is_malformed (record { page = page; size = 8 + m; left = 8 + m + n; words = words }) ≡ false
well_formed m n words page even = grind (arith, nat_tests)

-- padding leaves an even number of bytes
even_by : (b : Bool) (entries : List ℕ) (k : ℕ) → length entries ≡ 2 * k → length (entries ++ (if b then [] else little_bytes 2 0)) % 2 ≡ 0
even_by true entries k size = let both = length-append entries [] in omega arith
even_by false entries k size = let both = length-append entries (little_bytes 2 0) in omega arith

even_padded : (places : List ℕ) → length (padded_entries (entry_bytes places)) % 2 ≡ 0
even_padded places = even_by (nat_eq (length (entry_bytes places) % 4) 0) (entry_bytes places) (length places) (length-entry_bytes places)

-- a block of good places is good
pub good_block : (size page : ℕ) (places rest : List ℕ) → list_all (is_good_place size page) places ≡ true → page < 1048576 → length places ≤ 4096 → is_bad_block size (block_of (page_block page places ++ rest)) ≡ false
good_block size page places rest good near few =
    let entries = padded_entries (entry_bytes places) in
    let short = short_entries places few in
    rw (block_of-made page entries rest near (omega (arith, short)))
    (rw (well_formed (length entries) (length rest) (words_in entries) (4096 * page) (even_padded places)) (good_padded size page places good))

-- after it come the bytes after it
pub left_after : (page : ℕ) (places rest : List ℕ) → page < 1048576 → length places ≤ 4096 → drop (block_of (page_block page places ++ rest)).size (page_block page places ++ rest) ≡ rest
left_after page places rest near few =
    let entries = padded_entries (entry_bytes places) in
    let block = page_block page places in
    let short = short_entries places few in
    let end : (block_of (block ++ rest)).size ≡ 8 + length entries = ap (λ (b : Block). b.size) (block_of-made page entries rest near (omega (arith, short))) in
    let long_block : length block ≡ 8 + length entries = omega arith in
    rw end (drop_at block rest (8 + length entries) long_block)

-- and a directory of it and a good one is good
good_after : (size page : ℕ) (places rest : List ℕ) → list_all (is_good_place size page) places ≡ true → page < 1048576 → length places ≤ 4096 → is_bad_directory size rest ≡ false → is_bad_directory size (page_block page places ++ rest) ≡ false
good_after size page places rest good near few after =
    let block = page_block page places in
    let some : 0 < length (block ++ rest) = omega (arith, length-made page (padded_entries (entry_bytes places)) rest) in
    let step = is_bad_directory-behind size (block ++ rest) some (good_block size page places rest good near few) in
    sym step ∙ rw (left_after page places rest near few) after

-- ---- all blocks

-- a test that all pass, all of these pass in rising order too
all-insert_once : (t : ℕ → Bool) (n : ℕ) (ms : List ℕ) → t n ≡ true → list_all t ms ≡ true → list_all t (insert_once n ms) ≡ true
all-insert_once t n [] one all = rw one refl
all-insert_once t n (m ∷ ms) one all =
    let parts = and_parts (t m) (list_all t ms) all in
    by_case (nat_lt n m) (nat_eq n m) parts.0 (all-insert_once t n ms one parts.1)
  where
    by_case : (less same : Bool) → t m ≡ true → list_all t (insert_once n ms) ≡ true → list_all t (cond less (n ∷ m ∷ ms) (cond same (m ∷ ms) (m ∷ insert_once n ms))) ≡ true
    by_case true same first rest = rw one all
    by_case false true first rest = all
    by_case false false first rest = rw first rest

pub all-sorted_once : (t : ℕ → Bool) (ns : List ℕ) → list_all t ns ≡ true → list_all t (sorted_once ns) ≡ true
unfolding sorted_once
all-sorted_once t [] all = refl
all-sorted_once t (n ∷ ns) all =
    let parts = and_parts (t n) (list_all t ns) all in
    all-insert_once t n (sorted_once ns) parts.0 (all-sorted_once t ns parts.1)

-- the places of good relocations lie in the image with their 8 bytes
relocs_inside : (relocs : List ℕ) (size image : ℕ) → list_any (λ offset. nat_lt size (offset + 8)) relocs ≡ false → 512 + size ≤ image → list_all (λ place. nat_le (place + 8) image) (map (λ offset. 512 + offset) relocs) ≡ true
relocs_inside [] size image good room = refl
relocs_inside (offset ∷ relocs) size image good room =
    let parts = or_parts (nat_lt size (offset + 8)) (list_any (λ offset. nat_lt size (offset + 8)) relocs) good in
    rw (inside offset size image parts.0 room) (relocs_inside relocs size image parts.1 room)
  where
    inside : (offset size image : ℕ) → nat_lt size (offset + 8) ≡ false → 512 + size ≤ image → nat_le (512 + offset + 8) image ≡ true
    inside offset size image h room = grind (arith, nat_tests)

pub places_inside : (parts : DriverParts) (image : ℕ) → list_any (λ offset. nat_lt (length parts.code) (offset + 8)) parts.relocs ≡ false → 512 + length parts.code ≤ image → list_all (λ place. nat_le (place + 8) image) (places_of parts) ≡ true
places_inside parts image good room =
    all-sorted_once (λ place. nat_le (place + 8) image) (map (λ offset. 512 + offset) parts.relocs) (relocs_inside parts.relocs (length parts.code) image good room)

-- the places of each page are good
pub good_in_page : (size page : ℕ) (places : List ℕ) → list_all (λ place. nat_le (place + 8) size) places ≡ true → list_all (is_good_place size page) (places_in page places) ≡ true
good_in_page size page [] all = refl
good_in_page size page (place ∷ places) all =
    let parts = and_parts (nat_le (place + 8) size) (list_all (λ place. nat_le (place + 8) size) places) all in
    by_case (nat_eq (page_of place) page) refl parts.0 (good_in_page size page places parts.1)
  where
    by_case : (here : Bool) → nat_eq (page_of place) page ≡ here → nat_le (place + 8) size ≡ true → list_all (is_good_place size page) (places_in page places) ≡ true
        → list_all (is_good_place size page) (cond here (place ∷ places_in page places) (places_in page places)) ≡ true
    by_case true is inside rest = rw (is, inside) rest
    by_case false is inside rest = rest

-- the pages of places in an image are few
near_pages : (size : ℕ) (places : List ℕ) → list_all (λ place. nat_le (place + 8) size) places ≡ true → size ≤ 33554432 → list_all (λ page. nat_lt page 1048576) (map page_of places) ≡ true
near_pages size [] all small = refl
near_pages size (place ∷ places) all small =
    let parts = and_parts (nat_le (place + 8) size) (list_all (λ place. nat_le (place + 8) size) places) all in
    rw (near place size parts.0 small) (near_pages size places parts.1 small)
  where
    near : (place size : ℕ) → nat_le (place + 8) size ≡ true → size ≤ 33554432 → nat_lt (place / 4096) 1048576 ≡ true
    near place size inside small = less (place / 4096) (let low : place < 33554432 = below place size inside small in omega (arith, low))
      where
        below : (place size : ℕ) → nat_le (place + 8) size ≡ true → size ≤ 33554432 → place < 33554432
        below place size inside small = grind (arith, nat_tests)

        less : (n : ℕ) → n < 1048576 → nat_lt n 1048576 ≡ true
        less n h = grind (arith, nat_tests)

pub pages_near : (size : ℕ) (places : List ℕ) → list_all (λ place. nat_le (place + 8) size) places ≡ true → size ≤ 33554432 → list_all (λ page. nat_lt page 1048576) (pages_of places) ≡ true
pages_near size places all small = all-sorted_once (λ page. nat_lt page 1048576) (map page_of places) (near_pages size places all small)

pub is_near : (page : ℕ) → nat_lt page 1048576 ≡ true → page < 1048576
is_near page h = grind (arith, nat_tests)

-- the blocks of pages are a good directory
good_pages : (size : ℕ) (places pages : List ℕ) → list_all (λ place. nat_le (place + 8) size) places ≡ true → ((page : ℕ) → length (places_in page places) ≤ 4096) → list_all (λ page. nat_lt page 1048576) pages ≡ true
    → is_bad_directory size (flat_map (λ page. page_block page (places_in page places)) pages) ≡ false
good_pages size places [] inside few near = is_bad_directory-none size [] refl
good_pages size places (page ∷ pages) inside few near =
    let parts = and_parts (nat_lt page 1048576) (list_all (λ page. nat_lt page 1048576) pages) near in
    good_after size page (places_in page places) (flat_map (λ page. page_block page (places_in page places)) pages) (good_in_page size page places inside) (is_near page parts.0) (few page)
    (good_pages size places pages inside few parts.1)

-- the relocation blocks of a made image are a good directory
pub good_blocks : (parts : DriverParts) (size : ℕ) → list_any (λ offset. nat_lt (length parts.code) (offset + 8)) parts.relocs ≡ false → 512 + length parts.code ≤ size → size ≤ 33554432 → is_bad_directory size (relocation_blocks parts) ≡ false
unfolding page_blocks
good_blocks parts size good room small =
    let places = places_of parts in
    let inside = places_inside parts size good room in
    good_pages size places (pages_of places) inside (λ page. few_in_page page places (rise-sorted_once (map (λ offset. 512 + offset) parts.relocs))) (pages_near size places inside small)
