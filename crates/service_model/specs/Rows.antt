-- What each boot service does with its arguments (UEFI 2.8, chapter 7 'Services - Boot Services').
use Rattle.std.specs.Prelude.{ℕ, ◌&&◌, nat_le, nat_lt, Result, Ok, Err, if◌then◌else◌}
use Rattle.fw_types.specs.declared.limits.TheConstants.{MOST_BYTES}
use Rattle.fw_types.specs.declared.status.TheConstants.Status.{INVALID_PARAMETER, OUT_OF_RESOURCES, SUCCESS, UNSUPPORTED}
use Rattle.world_model.specs.World.{State}
use Rattle.service_model.specs.Words.{◌>>◌, null, readable, refuse_if, writable}
use Rattle.service_model.specs.declared.numbers.TheConstants.{TPL_HIGH_LEVEL}
use Rattle.service_model.specs.declared.plan.Stop.{Stop}
use Rattle.service_model.specs.declared.plan.Stop.TheVariants.{Status}
use Rattle.service_model.specs.declared.plan.Change.{Change}
use Rattle.service_model.specs.declared.plan.Change.TheVariants.{Allot, Copy, Fill, Free, SetTpl, Value}

-- a service that is not built
abbrev pub unbuilt : State → Result Change Stop
unbuilt w = Err (Status UNSUPPORTED)

-- ---- 7.1, 'Event, Timer, and Task Priority Services'

-- RaiseTPL answers the earlier level
abbrev pub raise_tpl : (new : ℕ) → State → Result Change Stop
raise_tpl new w =
    if nat_le w.soft.tpl new && nat_le new TPL_HIGH_LEVEL then Ok (SetTpl new w.soft.tpl) else Ok (Value w.soft.tpl)

-- RestoreTPL
abbrev pub restore_tpl : (old : ℕ) → State → Result Change Stop
restore_tpl old w = if nat_le old w.soft.tpl then Ok (SetTpl old SUCCESS.0) else Ok (Value SUCCESS.0)

-- ---- 7.2, 'Memory Allocation Services'

-- AllocatePool. The type of memory is not looked at.
abbrev pub allocate_pool : (size out : ℕ) → State → Result Change Stop
allocate_pool size out w = do
  refuse_if (null out) INVALID_PARAMETER
  writable 8 out w
  refuse_if (nat_lt MOST_BYTES size) OUT_OF_RESOURCES
  Ok (Allot size out)

-- FreePool
abbrev pub free_pool : (at : ℕ) → State → Result Change Stop
free_pool at w = Ok (Free at)

-- ---- 7.5, 'Miscellaneous Boot Services'

-- Stall
abbrev pub stall : State → Result Change Stop
stall w = Ok (Value SUCCESS.0)

-- CopyMem
abbrev pub copy_mem : (to from n : ℕ) → State → Result Change Stop
copy_mem to from n w = do
  readable n from w
  writable n to w
  Ok (Copy to from n)

-- SetMem
abbrev pub set_mem : (to n byte : ℕ) → State → Result Change Stop
set_mem to n byte w = do
  writable n to w
  Ok (Fill to n byte)
