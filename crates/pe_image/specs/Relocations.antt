-- The base relocations of a file (PE/COFF: The .reloc Section, Base Relocation Block, Base Relocation
-- Types). They are read from the file's own bytes.
use Rattle.std.specs.Prelude.{ℕ, zero, suc, ◌+◌, ◌-◌, ◌*◌, ◌/◌, ◌%◌, Bool, ◌&&◌, ◌||◌, true, false, not, nat_eq, nat_lt, nat_le, List, [], ◌∷◌, length, map, take, drop, find, Option, if◌then◌else◌}
use Rattle.std.specs.List.{list_any, flat_map}
use Rattle.std.specs.Option.{option_map, option_map_or}
use Rattle.fw_types.specs.Layout.{uint32_at}
use Rattle.pe_image.specs.Headers.{headers_of, sections_of, has_copied, file_place}
use Rattle.pe_image.specs.declared.relocations.Entry.{Entry}

-- the types of entries that images have: padding, 4 bytes and 8 bytes that hold an address
abbrev pub absolute : ℕ
absolute = 0

abbrev pub high_low : ℕ
high_low = 3

abbrev pub dir_64 : ℕ
dir_64 = 10

-- whether there is a relocation directory: it is the sixth, and has 8 bytes at 152 of the optional header
unfoldable pub has_directory : List ℕ → Bool
has_directory bytes =
    let headers = headers_of bytes in
    nat_le 6 headers.directory_count && nat_le 160 headers.optional_size && not (nat_eq headers.size_of_relocations 0)

-- where the file has the directory: in the section from which all its bytes are copied
unfoldable pub directory_place : List ℕ → Option ℕ
directory_place bytes =
    let headers = headers_of bytes in
    option_map (file_place headers.relocations)
    (find (has_copied headers.relocations headers.size_of_relocations) (sections_of bytes))

-- the bytes of the directory at a place of the file
abbrev pub directory_at : List ℕ → ℕ → List ℕ
directory_at bytes place = take (headers_of bytes).size_of_relocations (drop place bytes)

-- ---- blocks and entries

-- a block of the directory: the address of its page, its size, how many bytes the directory has from
-- the block on, and the words after the block's header
pub record Block : Type 0 where
  pub page : ℕ
  pub size : ℕ
  pub left : ℕ
  pub words : List ℕ

-- the numbers of 2 bytes each, one after the other
abbrev pub words_in : List ℕ → List ℕ
words_in [] = []
words_in (low ∷ []) = []
words_in (low ∷ high ∷ rest) = (low + 256 * high) ∷ words_in rest

-- the block at the front of bytes
unfoldable pub block_of : List ℕ → Block
block_of bytes =
    let size = uint32_at 4 bytes in
    record {
      page = uint32_at 0 bytes;
      size = size;
      left = length bytes;
      words = words_in (take (size - 8) (drop 8 bytes));
    }

-- whether a block has no header, or its size is too small for it, odd, or passes the directory's end
abbrev pub is_malformed : Block → Bool
is_malformed block =
    nat_lt block.left 8 || nat_lt block.size 8 || nat_eq (block.size % 2) 1 || nat_lt block.left block.size

-- the blocks one after the other, at most so many, and up to the first that is malformed
unfoldable pub blocks_in : ℕ → List ℕ → List Block
blocks_in zero bytes = []
blocks_in (suc most) [] = []
blocks_in (suc most) (byte ∷ bytes) =
    let block = block_of (byte ∷ bytes) in
    block ∷ (if is_malformed block then [] else blocks_in most (drop block.size (byte ∷ bytes)))

-- all the blocks of a directory: it has no more of them than bytes
abbrev pub blocks_of : List ℕ → List Block
blocks_of directory = blocks_in (length directory) directory

-- an entry has its type in bits 15 to 12 and the offset in its page in bits 11 to 0
abbrev pub block_entry : ℕ → ℕ → Entry
block_entry page word = record { kind = word / 4096; place = page + word % 4096 }

abbrev pub entries_in : Block → List Entry
entries_in block = map (block_entry block.page) block.words

-- ---- the whole file

-- whether an entry is of another type, or the bytes that it changes pass the size of the image
abbrev pub is_bad_entry : ℕ → Entry → Bool
is_bad_entry size entry =
    if nat_eq entry.kind absolute then false
    else if nat_eq entry.kind high_low then nat_lt size (entry.place + 4)
    else if nat_eq entry.kind dir_64 then nat_lt size (entry.place + 8)
    else true

abbrev pub is_bad_block : ℕ → Block → Bool
is_bad_block size block = is_malformed block || list_any (is_bad_entry size) (entries_in block)

-- whether a directory has a malformed block or a bad entry
unfoldable pub is_bad_directory : ℕ → List ℕ → Bool
is_bad_directory size directory = list_any (is_bad_block size) (blocks_of directory)

-- the entries of a directory, and those of a file, in the order of the file
unfoldable pub entries_of_directory : List ℕ → List Entry
entries_of_directory directory = flat_map entries_in (blocks_of directory)

unfoldable pub entries_of : List ℕ → List Entry
entries_of bytes =
    if has_directory bytes
    then option_map_or (λ place. entries_of_directory (directory_at bytes place)) (directory_place bytes) []
    else []
