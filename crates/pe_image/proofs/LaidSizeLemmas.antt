-- The laid image of an accepted file has the size that the file says: relocation changes bytes, and not how
-- many there are.
use Rattle.std.proofs.Common.{◌≡◌, ◌≤◌, ℕ, ◌+◌, ◌%◌, ◌^◌, Bool, true, false, ◌||◌, nat_eq, List, [], ◌∷◌, ◌++◌, length, take, drop, fold, Option, Some, None, if◌then◌else◌, refl, ◌∙◌, arith}
use Rattle.std.specs.List.{list_any, flat_map}
use Rattle.std.specs.Option.{option_map_or}
use Rattle.std.proofs.lemmas.Bool.Decides.{nat_tests}
use Rattle.std.proofs.lemmas.List.{length-append, length-drop, length-take-le}
use Rattle.std.proofs.lemmas.List.FromFn.{length-map-range_with_len}
use Rattle.byteorder.specs.Endian.{little_bytes}
use Rattle.byteorder.specs.Numbers.{length-bytes_low_first}
use Rattle.fw_types.specs.Layout.{put, uint32_at, uint64_at}
use Rattle.pe_image.specs.ImageRules.{refusal_of, size_of}
use Rattle.pe_image.specs.LaidImage.{byte_at, delta_of, laid, plain_image, relocated}
use Rattle.pe_image.specs.Relocations.{Block, blocks_of, dir_64, directory_at, directory_place, entries_in, entries_of, entries_of_directory, has_directory, high_low, is_bad_block, is_bad_directory, is_bad_entry, is_malformed}
use Rattle.pe_image.specs.declared.relocations.Entry.{Entry}
use Rattle.pe_image.proofs.RuleLemmas.{good_relocations}

-- a field put inside leaves the number of bytes
length-put : (place : ℕ) (field bytes : List ℕ) → place + length field ≤ length bytes → length (put place field bytes) ≡ length bytes
unfolding put
length-put place field bytes inside =
    omega (arith, length-take-le place bytes (omega (arith, inside)), length-drop (place + length field) bytes, length-append (take place bytes ++ field) (drop (place + length field) bytes), length-append (take place bytes) field, inside)

-- so does an entry that is not bad
length-relocated : (delta : ℕ) (image : List ℕ) (entry : Entry) → is_bad_entry (length image) entry ≡ false → length (relocated delta image entry) ≡ length image
unfolding relocated
length-relocated delta image entry good = by_kind (nat_eq entry.kind high_low) (nat_eq entry.kind dir_64) refl refl
  where
    low_half : List ℕ
    low_half = little_bytes 4 ((uint32_at entry.place image + delta % 2 ^ 32) % 2 ^ 32)

    address : List ℕ
    address = little_bytes 8 ((uint64_at entry.place image + delta) % 2 ^ 64)

    by_kind : (is_low is_whole : Bool) → nat_eq entry.kind high_low ≡ is_low → nat_eq entry.kind dir_64 ≡ is_whole
        → length (if is_low then put entry.place low_half image else if is_whole then put entry.place address image else image) ≡ length image
    by_kind true is_whole low whole =
        let four : length low_half ≡ 4 = length-bytes_low_first 0 4 ((uint32_at entry.place image + delta % 2 ^ 32) % 2 ^ 32) in
        let inside : entry.place + 4 ≤ length image = grind (arith, nat_tests, good, low) in
        length-put entry.place low_half image (omega (arith, four, inside))
    by_kind false true low whole =
        let eight : length address ≡ 8 = length-bytes_low_first 0 8 ((uint64_at entry.place image + delta) % 2 ^ 64) in
        let inside : entry.place + 8 ≤ length image = grind (arith, nat_tests, good, low, whole) in
        length-put entry.place address image (omega (arith, eight, inside))
    by_kind false false low whole = refl

or_parts : (a b : Bool) → (a || b) ≡ false → (a ≡ false) × (b ≡ false)
or_parts true b h = absurd cc
or_parts false b h = (refl, h)

-- and so do entries of which none is bad
length-relocations : (delta size : ℕ) (entries : List Entry) (image : List ℕ) → length image ≡ size → list_any (is_bad_entry size) entries ≡ false → length (fold (relocated delta) image entries) ≡ size
length-relocations delta size [] image same good = same
length-relocations delta size (entry ∷ entries) image same good =
    let parts = or_parts (is_bad_entry size entry) (list_any (is_bad_entry size) entries) good in
    length-relocations delta size entries (relocated delta image entry) (length-relocated delta image entry (rw same parts.0) ∙ same) parts.1

-- ---- the entries of an accepted file

list_any-append : (test : Entry → Bool) (some more : List Entry) → list_any test some ≡ false → list_any test more ≡ false → list_any test (some ++ more) ≡ false
list_any-append test [] more none either = either
list_any-append test (entry ∷ entries) more none either =
    let parts = or_parts (test entry) (list_any test entries) none in
    rw (parts.0, list_any-append test entries more parts.1 either) refl

good_blocks : (size : ℕ) (blocks : List Block) → list_any (is_bad_block size) blocks ≡ false → list_any (is_bad_entry size) (flat_map entries_in blocks) ≡ false
good_blocks size [] good = refl
good_blocks size (block ∷ blocks) good =
    let parts = or_parts (is_bad_block size block) (list_any (is_bad_block size) blocks) good in
    let first = or_parts (is_malformed block) (list_any (is_bad_entry size) (entries_in block)) parts.0 in
    list_any-append (is_bad_entry size) (entries_in block) (flat_map entries_in blocks) first.1 (good_blocks size blocks parts.1)

good_directory : (size : ℕ) (directory : List ℕ) → is_bad_directory size directory ≡ false → list_any (is_bad_entry size) (entries_of_directory directory) ≡ false
unfolding is_bad_directory entries_of_directory
good_directory size directory good = good_blocks size (blocks_of directory) good

good_entries : (bytes : List ℕ) → refusal_of bytes ≡ None → list_any (is_bad_entry (size_of bytes)) (entries_of bytes) ≡ false
unfolding entries_of
good_entries bytes fine = by_directory (has_directory bytes) (directory_place bytes) refl refl
  where
    by_directory : (has : Bool) (place : Option ℕ) → has_directory bytes ≡ has → directory_place bytes ≡ place
        → list_any (is_bad_entry (size_of bytes)) (if has then option_map_or (λ place. entries_of_directory (directory_at bytes place)) place [] else []) ≡ false
    by_directory true (Some place) there found = good_directory (size_of bytes) (directory_at bytes place) (good_relocations bytes place fine there found)
    by_directory true None there found = refl
    by_directory false place there found = refl

-- ---- the laid image

length-plain_image : (bytes : List ℕ) → length (plain_image bytes) ≡ size_of bytes
unfolding plain_image
length-plain_image bytes = length-map-range_with_len (byte_at bytes) 0 (size_of bytes)

pub length-laid : (bytes : List ℕ) (base : ℕ) → refusal_of bytes ≡ None → length (laid bytes base) ≡ size_of bytes
unfolding laid
length-laid bytes base fine =
    length-relocations (delta_of bytes base) (size_of bytes) (entries_of bytes) (plain_image bytes) (length-plain_image bytes) (good_entries bytes fine)
