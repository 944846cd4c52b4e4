-- The stack of a driver call, and the list of children that a Stop is given: one of each for a level.
use Rattle.std.specs.Prelude.{ℕ, ◌+◌, ◌-◌, ◌*◌, Bool, List, [], ◌∷◌, ◌++◌, flat_map, replicate}
use Rattle.std.specs.List.{list_any}
use Rattle.byteorder.specs.Endian.{little_bytes}
use Rattle.ebc_machine.specs.declared.cpu.Cpu.{Cpu}
use Rattle.guest_memory.specs.declared.address_map.TheConstants.{EXIT}
use Rattle.guest_memory.specs.declared.segment.Segment.{Segment}
use Rattle.guest_memory.specs.declared.segment.SegKind.TheVariants as kind
use Rattle.guest_memory.specs.GuestMemory.{begins, mapped, unmapped}
use Rattle.guest_memory.specs.declared.address_map.TheConstants.{CHILD_LISTS, LIST_ROOM, STACKS, STACK_SIZE}
use Rattle.world_model.specs.World.{Soft}

-- ---- their addresses

abbrev pub stack_base : ℕ → ℕ
stack_base level = STACKS + STACK_SIZE * level

abbrev pub list_base : ℕ → ℕ
list_base level = CHILD_LISTS + LIST_ROOM * level

abbrev pub has_stack : ℕ → List Segment → Bool
has_stack level segments = begins kind.Stack (stack_base level) segments

abbrev pub has_list : ℕ → List Segment → Bool
has_list level segments = begins kind.Table (list_base level) segments

-- whether an open mark keeps a level's stack, so that it is newer than the stack
abbrev pub is_marked_stack : ℕ → List Soft → Bool
is_marked_stack level kept = list_any (λ (soft : Soft). has_stack level soft.memory) kept

-- ---- what they hold

-- The frame of a call is at the end of its stack: the return address, which is the exit address,
-- 8 bytes of zeros, and sixteen slots for arguments.
abbrev pub frame_size : ℕ
frame_size = 144

unfoldable pub stack_bytes : List ℕ → List ℕ
stack_bytes slots =
    replicate (STACK_SIZE - frame_size) 0
    ++ little_bytes 8 EXIT ++ replicate 8 0 ++ flat_map (little_bytes 8) slots

-- the handles of children, 8 bytes each
abbrev pub list_bytes : List ℕ → List ℕ
list_bytes handles = flat_map (little_bytes 8) handles

abbrev pub stack_segment : ℕ → List ℕ → Segment
stack_segment level slots = record { base = stack_base level; bytes = stack_bytes slots; kind = kind.Stack }

abbrev pub list_segment : ℕ → List ℕ → Segment
list_segment level handles = record { base = list_base level; bytes = list_bytes handles; kind = kind.Table }

-- the registers as a call begins: R0 is at the frame, and everything else is 0
abbrev pub frame : ℕ → Cpu
frame level = record {
  r = (stack_base level + STACK_SIZE - frame_size) ∷ 0 ∷ 0 ∷ 0 ∷ 0 ∷ 0 ∷ 0 ∷ 0 ∷ [];
  flags = 0;
  ip = 0;
}

-- ---- pushing and popping

-- the list of children is mapped, if there are any
abbrev pub list_mapped : ℕ → List ℕ → List Segment → List Segment
list_mapped level [] segments = segments
list_mapped level (handle ∷ handles) segments = mapped (list_segment level (handle ∷ handles)) segments

abbrev pub stack_pushed : ℕ → List ℕ → List ℕ → Soft → Soft
stack_pushed level slots handles soft =
    record soft { memory = list_mapped level handles (mapped (stack_segment level slots) soft.memory) }

-- the stack of a level is unmapped, and its list of children if there is one
abbrev pub stack_popped : ℕ → Soft → Soft
stack_popped level soft =
    record soft { memory = unmapped (unmapped soft.memory (stack_base level)) (list_base level) }
