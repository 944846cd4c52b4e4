-- The sizes of numbers: UEFI 2.8, chapter 22 'EFI Byte Code Virtual Machine', where a word has 2 bytes,
-- a doubleword 4 and a quadword 8.
use Rattle.std.specs.Prelude.{ℕ, ◌^◌, ◌%◌}
use Rattle.ebc_decode.specs.declared.size.Size.{Size}
use Rattle.ebc_decode.specs.declared.size.Size.TheVariants.{Byte, Word, Doubleword, Quadword}

-- the number of bytes
abbrev pub byte_count : Size → ℕ
byte_count Byte = 1
byte_count Word = 2
byte_count Doubleword = 4
byte_count Quadword = 8

-- the number in the lowest bytes of a number
abbrev pub low : Size → ℕ → ℕ
low size value = value % 256 ^ byte_count size
