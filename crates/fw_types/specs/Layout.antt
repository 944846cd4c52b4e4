-- Records of the standard as bytes: fields at their offsets, numbers lowest byte first (UEFI 2.8, 1.8.1
-- 'Data Structure Descriptions').
use Rattle.std.specs.Prelude.{ℕ, ◌+◌, List, [], ◌∷◌, ◌++◌, length, take, drop}
use Rattle.byteorder.specs.Endian.{little_bytes, little_number}

-- a field: its offset, its name in the standard, and its bytes
pub record Field : Type 0 where
  pub offset : ℕ
  pub name : List ℕ
  pub bytes : List ℕ

-- a number of 1, 2, 4 or 8 bytes
abbrev pub uint8 : ℕ → List ℕ → ℕ → Field
uint8 offset name value = record { offset = offset; name = name; bytes = value ∷ [] }

abbrev pub uint16 : ℕ → List ℕ → ℕ → Field
uint16 offset name value = record { offset = offset; name = name; bytes = little_bytes 2 value }

abbrev pub uint32 : ℕ → List ℕ → ℕ → Field
uint32 offset name value = record { offset = offset; name = name; bytes = little_bytes 4 value }

abbrev pub uint64 : ℕ → List ℕ → ℕ → Field
uint64 offset name value = record { offset = offset; name = name; bytes = little_bytes 8 value }

-- bytes that are given as they are
abbrev pub plain_bytes : ℕ → List ℕ → List ℕ → Field
plain_bytes offset name bytes = record { offset = offset; name = name; bytes = bytes }

-- ---- writing

-- bytes with others in the place of those from an offset on
unfoldable pub put : ℕ → List ℕ → List ℕ → List ℕ
put offset field bytes = take offset bytes ++ field ++ drop (offset + length field) bytes

-- bytes with all fields put in their places, one after the other
abbrev pub put_all : List Field → List ℕ → List ℕ
put_all [] bytes = bytes
put_all (field ∷ fields) bytes = put_all fields (put field.offset field.bytes bytes)

-- ---- reading

-- the number in the 2, 4 or 8 bytes at an offset; bytes past the end count as 0
unfoldable pub uint16_at : ℕ → List ℕ → ℕ
uint16_at offset bytes = little_number 2 (drop offset bytes)

unfoldable pub uint32_at : ℕ → List ℕ → ℕ
uint32_at offset bytes = little_number 4 (drop offset bytes)

unfoldable pub uint64_at : ℕ → List ℕ → ℕ
uint64_at offset bytes = little_number 8 (drop offset bytes)
