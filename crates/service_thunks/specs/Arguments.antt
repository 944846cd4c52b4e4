-- The arguments of a native call (UEFI 2.8, 22.8: EBC Instruction Set, CALL): 8 bytes each, from the caller's R0 on, as the
-- caller pushed them.
use Rattle.std.specs.Prelude.{ℕ, ◌+◌, ◌-◌, ◌*◌, ◌%◌, ◌^◌, List, [], ◌∷◌, ◌++◌, map, replicate, Option, Some, None, option_map}
use Rattle.std.specs.List.{range_with_len}
use Rattle.guest_memory.specs.GuestMemory.{number_of}
use Rattle.guest_memory.specs.declared.segment.Segment.{Segment}

-- the address of a slot, counted from 0. Addresses wrap in 64 bits.
abbrev pub slot_at : ℕ → ℕ → ℕ
slot_at sp i = (sp + 8 * i) % 2 ^ 64

-- all values, if each is there
abbrev pub all_there : List (Option ℕ) → Option (List ℕ)
all_there [] = Some []
all_there (None ∷ rest) = None
all_there (Some value ∷ rest) = option_map (λ values. value ∷ values) (all_there rest)

-- the numbers in the first n slots, if each can be read
abbrev pub slots : List Segment → ℕ → ℕ → Option (List ℕ)
slots segments sp n = all_there (map (λ i. number_of segments (slot_at sp i) 8) (range_with_len 0 n))

-- the most arguments
abbrev pub most_arguments : ℕ
most_arguments = 16

-- the first n arguments, and 0 for the others
abbrev pub arguments : List Segment → ℕ → ℕ → Option (List ℕ)
arguments segments sp n = option_map (λ values. values ++ replicate (most_arguments - n) 0) (slots segments sp n)
