-- Native calls (UEFI 2.8, chapter 22 'EFI Byte Code Virtual Machine', CALL). All native code that a driver can reach is
-- the firmware's own: its services, the bus driver's functions, and thunks, which enter EBC code.
use Rattle.std.specs.Prelude.{ℕ, Bool, nat_eq, List, [], ◌∷◌, map, Option, Some, None, unwrap_or, if◌then◌else◌}
use Rattle.std.specs.List.{list_any, range_with_len}
use Rattle.fw_types.specs.declared.event.Cause.TheVariants.{BadCall, Budget, Fetch, Nest}
use Rattle.fw_types.specs.declared.limits.TheConstants.{CALL_PRICE}
use Rattle.guest_memory.specs.GuestMemory.{number_of}
use Rattle.guest_memory.specs.declared.address_map.TheConstants.{BUS_GET_DRIVER, BUS_START, BUS_STOP, BUS_SUPPORTED}
use Rattle.ebc_machine.specs.Operands.{register, with_register}
use Rattle.ebc_machine.specs.declared.cpu.Cpu.{Cpu}
use Rattle.service_thunks.specs.Arguments.{slot_at}
use Rattle.service_thunks.specs.Services.{service_of}
use Rattle.service_thunks.specs.declared.service.Service.{Service}
use Rattle.service_thunks.specs.declared.service.Service.TheVariants.{Unbuilt}
use Rattle.world_model.specs.World.{State}
use Rattle.world_model.specs.World.{Soft}
use Rattle.world_model.specs.Thunks.{thunk_at}
use Rattle.service_model.specs.BootServices.{served}
use Rattle.service_model.specs.declared.call.Caller.{Caller}
use Rattle.service_model.specs.declared.call.Served.{Served}
use Rattle.service_model.specs.declared.call.Served.TheVariants as served_as
use Rattle.driver_model.specs.Moves.{Operations, pays, serves}
use Rattle.driver_model.specs.Level.{Level}
use Rattle.driver_model.specs.Activations.{is_short}
use Rattle.driver_model.specs.GoingOn.{gone_on}
use Rattle.driver_model.specs.Turn.{Turn, ends, goes_on, traps}
use Rattle.driver_model.specs.declared.call.Callee.{Callee}
use Rattle.driver_model.specs.declared.call.Callee.TheVariants.{AService, AThunk, Nothing}
use Rattle.driver_model.specs.declared.call.RunEnd.{RunEnd}
use Rattle.driver_model.specs.declared.call.RunEnd.TheVariants.{Returned, Over}
use Rattle.driver_model.specs.declared.call.Scope.{Scope}
use Rattle.driver_model.specs.declared.settings.Settings.{Settings}

-- ---- what is at an address

-- the bus driver's functions, which drivers find in its binding and in its override
abbrev pub bus_functions : List ℕ
bus_functions = BUS_SUPPORTED ∷ BUS_START ∷ BUS_STOP ∷ BUS_GET_DRIVER ∷ []

abbrev pub is_bus_function : ℕ → Bool
is_bus_function at = list_any (nat_eq at) bus_functions

abbrev pub thunk_or_nothing : Option ℕ → Callee
thunk_or_nothing (Some entry) = AThunk entry
thunk_or_nothing None = Nothing

-- a service; a function of the bus driver, which a driver may not call, so that it answers as a service that is not
-- built; a live thunk; or nothing
abbrev pub callee_by : Option Service → (at : ℕ) → Soft → Callee
callee_by (Some service) at soft = AService service
callee_by None at soft = if is_bus_function at then AService Unbuilt else thunk_or_nothing (thunk_at at soft)

unfoldable pub callee : (at : ℕ) → Soft → Callee
callee at soft = callee_by (service_of at) at soft

-- ---- the arguments

-- who calls a service: the image, at this level, with its arguments from R0 on
abbrev pub caller : (image level : ℕ) → Cpu → Caller
caller image level cpu = record { image = image; level = level; sp = register cpu 0 }

-- the caller's 16 arguments, as a thunk gets them; one that can't be read is 0
abbrev pub passed_slots : Cpu → State → List ℕ
passed_slots cpu w = map (λ i. unwrap_or (number_of w.soft.memory (slot_at (register cpu 0) i) 8) 0) (range_with_len 0 16)

module _ {S : Type 0} (o : Operations S) where
  -- ---- a service

  -- the value goes to R7, and the other registers keep theirs
  abbrev pub returned : Cpu → Served × S → Turn S
  returned cpu (served_as.Value value, w) = goes_on (with_register cpu 7 value) w
  returned cpu (served_as.Trap cause, w) = traps cause cpu w
  -- no service goes on twice
  returned cpu (served_as.Again reentry, w) = goes_on cpu w

  -- a service is called by the image that holds the instruction; no code runs outside of an image
  abbrev pub service_called : Settings → Option (Level S) → Scope → (level : ℕ) → Service → (image : Option ℕ) → Cpu → S → Turn S
  service_called settings below scope level service None cpu w = traps Fetch cpu w
  service_called settings below scope level service (Some image) cpu w =
      returned cpu (gone_on o settings below scope
      ((served service (caller image level cpu) (o.see w)).0, o.make (serves service (caller image level cpu)) w))

  -- ---- a thunk: a price, the next level, no event and no mark

  -- a trap in it ends the caller's driver call too
  abbrev pub thunk_returned : Cpu → RunEnd × S → Turn S
  thunk_returned cpu (Returned value, w) = goes_on (with_register cpu 7 value) w
  thunk_returned cpu (Over outcome, w) = ends (Over outcome) cpu w

  abbrev pub thunk_entered : Option (Level S) → Scope → (entry : ℕ) → Cpu → S → Turn S
  thunk_entered None scope entry cpu w = traps Nest cpu w
  thunk_entered (Some below) scope entry cpu w = thunk_returned cpu (below.thunk scope entry (passed_slots cpu (o.see w)) w)

  abbrev pub thunk_called : Option (Level S) → Scope → (entry : ℕ) → Cpu → S → Turn S
  thunk_called below scope entry cpu w =
      if is_short o w then traps Budget cpu w else thunk_entered below scope entry cpu (o.make (pays CALL_PRICE) w)

  -- ---- the call

  abbrev pub native_called : Settings → Option (Level S) → Scope → (level : ℕ) → Callee → (image : Option ℕ) → Cpu → S → Turn S
  native_called settings below scope level (AService service) image cpu w = service_called settings below scope level service image cpu w
  native_called settings below scope level (AThunk entry) image cpu w = thunk_called below scope entry cpu w
  native_called settings below scope level Nothing image cpu w = traps BadCall cpu w
