-- Words in which the laws of a step are stated: UEFI 2.8, chapter 22 'EFI Byte Code Virtual Machine'.
use Rattle.std.specs.Prelude.{◌≡◌, ◌≤◌, ℕ, ◌+◌, Bool, nat_eq, List, [], ◌∷◌, ◌++◌, take, drop, length, ◌⊎◌}
use Rattle.std.specs.List.{list_any}
use Rattle.guest_memory.specs.declared.segment.Segment.{Segment}
use Rattle.guest_memory.specs.declared.segment.SegKind.{SegKind}
use Rattle.guest_memory.specs.declared.segment.SegKind.TheVariants.{Image, Pool, Stack}

-- the opcodes of JMP, JMP8, CALL and RET
abbrev pub is_jump : ℕ → Bool
is_jump opcode = list_any (nat_eq opcode) (0x01 ∷ 0x02 ∷ 0x03 ∷ 0x04 ∷ [])

-- the opcodes of CMP and CMPI, with each relation, and of LOADSP
abbrev pub sets_flags : ℕ → Bool
sets_flags opcode =
    list_any (nat_eq opcode) (0x05 ∷ 0x06 ∷ 0x07 ∷ 0x08 ∷ 0x09 ∷ 0x2d ∷ 0x2e ∷ 0x2f ∷ 0x30 ∷ 0x31 ∷ 0x29 ∷ [])

-- the segments that the code may write
abbrev pub IsWritten : SegKind → Type 0
IsWritten kind = (kind ≡ Image) ⊎ ((kind ≡ Pool) ⊎ (kind ≡ Stack))

-- Nothing changes except at most 8 bytes in a row of one segment, which the code may write.
pub record ChangesOneRange (before after : List Segment) : Type 0 where
  -- the segment, and those before it and after it
  pub front : List Segment
  pub segment : Segment
  pub back : List Segment
  -- the bytes that are new in it, and their offset in it
  pub offset : ℕ
  pub bytes : List ℕ
  pub is_there : before ≡ front ++ segment ∷ back
  pub kind : IsWritten segment.kind
  pub few : length bytes ≤ 8
  pub within : offset + length bytes ≤ length segment.bytes
  pub changes : after ≡ front ++ record segment { bytes = take offset segment.bytes ++ bytes ++ drop (offset + length bytes) segment.bytes } ∷ back
