-- A thunk that the code asks for (UEFI 2.8, chapter 22 'EFI Byte Code Virtual Machine', BREAK, code 5): an address by
-- which native code calls EBC code.
--
-- At the place that the code names are 4 signed bytes, which count from the address after them to the entry. The traps
-- are, in their order: Memory if these 4 bytes can't be read or the 8 bytes at the place can't be written; Align if the
-- entry is odd; Fetch if it is in no image; Thunks if all thunk numbers are handed out.
use Rattle.std.specs.Prelude.{ℕ, ◌%◌, Bool, nat_eq, is_some, ok_or, Result, Ok, Err, if◌then◌else◌}
use Rattle.byteorder.specs.Endian.{twos_complement}
use Rattle.fw_types.specs.declared.event.Cause.{Cause}
use Rattle.fw_types.specs.declared.event.Cause.TheVariants.{Align, Fetch, Memory, Thunks}
use Rattle.guest_memory.specs.GuestMemory.{is_writable_range, number_of}
use Rattle.ebc_machine.specs.Operands.{◌>>=◌, above, plus}
use Rattle.ebc_machine.specs.declared.cpu.Cpu.{Cpu}
use Rattle.world_model.specs.World.{Soft}
use Rattle.world_model.specs.Images.{image_at}
use Rattle.world_model.specs.Thunks.{thunk_answer}
use Rattle.world_model.specs.declared.fault.WorldFault.{WorldFault}
use Rattle.driver_model.specs.Moves.{Operations, makes_thunk}
use Rattle.driver_model.specs.Turn.{Turn, goes_on, traps}

-- ---- the entry

abbrev pub entry_from : (place number : ℕ) → ℕ
entry_from place number = plus (above place 4) (twos_complement 4 number)

abbrev pub is_even : ℕ → Bool
is_even at = nat_eq (at % 2) 0

-- a test that must hold, or the code traps; and what comes after it
abbrev pub must : Bool → Cause → Result Unit Cause
must test cause = if test then Ok tt else Err cause

infixl 10 ◌>>◌
abbrev pub ◌>>◌ : {A : Type 0} → Result Unit Cause → Result A Cause → Result A Cause
(Ok done) >> rest = rest
(Err cause) >> rest = Err cause

-- the entry that the place names, if the address of a thunk can be stored there
abbrev pub requested_entry : (place : ℕ) → Soft → Result ℕ Cause
requested_entry place soft = do
  number ← ok_or (number_of soft.memory place 4) Memory
  must (is_writable_range soft.memory place 8) Memory
  must (is_even (entry_from place number)) Align
  must (is_some (image_at (entry_from place number) soft)) Fetch
  Ok (entry_from place number)

-- ---- the thunk

module _ {S : Type 0} (o : Operations S) where
  abbrev pub thunk_by : Result ℕ WorldFault → (place entry : ℕ) → Cpu → S → Turn S
  thunk_by (Ok at) place entry cpu w = goes_on cpu (o.make (makes_thunk place entry at) w)
  thunk_by (Err fault) place entry cpu w = traps Thunks cpu w

  abbrev pub thunk_for : Result ℕ Cause → (place : ℕ) → Cpu → S → Turn S
  thunk_for (Ok entry) place cpu w = thunk_by (thunk_answer (o.see w).soft) place entry cpu w
  thunk_for (Err cause) place cpu w = traps cause cpu w

  -- one more thunk, with its address in the 8 bytes at the place
  abbrev pub thunk_requested : (place : ℕ) → Cpu → S → Turn S
  thunk_requested place cpu w = thunk_for (requested_entry place (o.see w).soft) place cpu w
