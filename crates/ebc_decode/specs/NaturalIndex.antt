-- Natural indices: UEFI 2.8, chapter 22 'EFI Byte Code Virtual Machine', 'Natural Indexing'.
-- An index of 2, 4 or 8 bytes has a sign, three bits of width, constant units, and natural units at
-- the bottom. A constant unit is one byte, and a natural unit is eight.
use Rattle.std.specs.Prelude.{ℕ, ◌+◌, ◌-◌, ◌*◌, ◌/◌, ◌%◌, ◌^◌, min, Bool, nat_eq, nat_lt, [], ◌∷◌, ℤ, pos, neg_ℤ, if◌then◌else◌}
use Rattle.std.specs.List.{list_any}

-- whether an index may have so many bytes
abbrev pub is_index_size : ℕ → Bool
is_index_size size = list_any (nat_eq size) (2 ∷ 4 ∷ 8 ∷ [])

-- the number of bits below the sign and the width: 12, 28 or 60
abbrev pub unit_bits : ℕ → ℕ
unit_bits size = 8 * size - 4

-- both kinds of units, as one number
abbrev pub units : ℕ → ℕ → ℕ
units raw size = raw % 2 ^ unit_bits size

-- how many of the low bits count natural units: so many bits for each byte of the index, or all
abbrev pub natural_bits : ℕ → ℕ → ℕ
natural_bits raw size = min (raw / 2 ^ unit_bits size % 8 * size) (unit_bits size)

abbrev pub natural_units : ℕ → ℕ → ℕ
natural_units raw size = units raw size % 2 ^ natural_bits raw size

abbrev pub constant_units : ℕ → ℕ → ℕ
constant_units raw size = units raw size / 2 ^ natural_bits raw size

-- the distance in bytes, without its sign
abbrev pub distance : ℕ → ℕ → ℕ
distance raw size = constant_units raw size + 8 * natural_units raw size

-- the value of an index
abbrev pub natural_value : ℕ → ℕ → ℤ
natural_value raw size =
    if nat_lt raw (2 ^ (8 * size - 1)) then pos (distance raw size) else neg_ℤ (pos (distance raw size))

-- The greatest distance that an index of a size can have. With 8 bytes at most 56 of the 60 bits count
-- natural units, so the most is 60 bits of constant units.
abbrev pub greatest_distance : ℕ → ℕ
greatest_distance size = if nat_eq size 8 then 2 ^ 60 - 1 else 8 * (2 ^ unit_bits size - 1)
