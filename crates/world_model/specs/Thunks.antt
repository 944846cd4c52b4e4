-- Thunks: addresses by which native code calls EBC code (UEFI 2.8, 22.11: EFI_EBC_PROTOCOL.CreateThunk).
-- Nothing is mapped there: a native call of a thunk's address enters the EBC code.
use Rattle.std.specs.Prelude.{ℕ, ◌+◌, ◌*◌, Bool, not, nat_eq, nat_le, List, [], ◌∷◌, ◌++◌, filter, find, Option, option_map, Result, Ok, Err, if◌then◌else◌}
use Rattle.guest_memory.specs.declared.guest.MemRefusal.{MemRefusal}
use Rattle.guest_memory.specs.declared.segment.Segment.{Segment}
use Rattle.guest_memory.specs.Segment.{has_bytes}
use Rattle.fw_types.specs.declared.limits.TheConstants.{MOST_THUNKS}
use Rattle.guest_memory.specs.declared.address_map.TheConstants.{THUNKS, THUNK_STEP}
use Rattle.world_model.specs.declared.fault.WorldFault.{WorldFault}
use Rattle.world_model.specs.declared.fault.WorldFault.TheVariants.{Full}
use Rattle.world_model.specs.declared.thunk.Thunk.{Thunk}
use Rattle.world_model.specs.World.{Soft}

-- the address of a thunk, by its number
abbrev pub thunk_address : ℕ → ℕ
thunk_address number = THUNKS + THUNK_STEP * number

-- ---- making

-- a thunk gets the next number, unless all are handed out
abbrev pub thunk_answer : Soft → Result ℕ WorldFault
thunk_answer soft = if nat_le MOST_THUNKS soft.next_thunk then Err Full else Ok (thunk_address soft.next_thunk)

-- one more thunk, of the next number
abbrev pub thunk_made : ℕ → Soft → Soft
thunk_made entry soft = record soft {
  thunks = soft.thunks ++ record { number = soft.next_thunk; entry = entry } ∷ [];
  next_thunk = soft.next_thunk + 1;
}

-- ---- looking

-- whether an address is that of a thunk
abbrev pub is_thunk_at : ℕ → Thunk → Bool
is_thunk_at at thunk = nat_eq (thunk_address thunk.number) at

-- the entry point of the live thunk of an address
abbrev pub thunk_at : ℕ → Soft → Option ℕ
thunk_at at soft = option_map (λ (thunk : Thunk). thunk.entry) (find (is_thunk_at at) soft.thunks)

-- ---- dropping

-- whether a thunk enters a segment
abbrev pub enters : Segment → Thunk → Bool
enters segment thunk = has_bytes segment thunk.entry 1

-- without the thunks that enter a segment, if there is one
abbrev pub without_thunks : Result Segment MemRefusal → List Thunk → List Thunk
without_thunks (Err refusal) thunks = thunks
without_thunks (Ok segment) thunks = filter (λ (thunk : Thunk). not (enters segment thunk)) thunks
