-- A driver call: of an image's entry point (UEFI 2.8, 4.1: EFI_IMAGE_ENTRY_POINT) or Unload (9.1: EFI Loaded Image
-- Protocol), or of a driver's Supported, Start or Stop (11.1: EFI Driver Binding Protocol).
--
-- The rules, in their order:
--  1. A call may spend the smaller of the call budget and what its caller has left. If that is less than its price, the
--     outcome is the trap Budget, nothing is spent and there is no event (`allowance`, `called`).
--  2. The price is paid, and the event begins (`begun`).
--  3. What is called (`code_of`): the entry point of an image; a live thunk; the bus driver's own functions, by its own
--     binding; one of these functions in any other binding, which answers UNSUPPORTED; anything else traps with BadCall.
--  4. The code runs on a new stack of its level, with its arguments (`ran_on_stack`).
--  5. It ends with the value of R7, or with a trap, which ends the innermost driver call (`entered_by`).
--  6. The task priority level is as at the beginning, and the event ends (`ended`). Supported never commits. The other
--     kinds commit exactly if the value has bit 63 clear. A call that does not commit leaves the soft part as it was when
--     it began. Units and events are never undone (`kept_or_undone`).
use Rattle.std.specs.Prelude.{ℕ, Bool, false, ◌&&◌, min, nat_eq, nat_lt, List, [], slice_index, Option, Some, None, if◌then◌else◌}
use Rattle.fw_types.specs.declared.event.Cause.TheVariants.{BadCall, Budget}
use Rattle.fw_types.specs.declared.event.EventKind.{EventKind}
use Rattle.fw_types.specs.declared.event.EventKind.TheVariants as event
use Rattle.fw_types.specs.declared.event.Outcome.{Outcome}
use Rattle.fw_types.specs.declared.event.Outcome.TheVariants.{Value, Trapped}
use Rattle.fw_types.specs.declared.limits.TheConstants.{CALL_PRICE}
use Rattle.fw_types.specs.declared.status.TheConstants.Status.{UNSUPPORTED}
use Rattle.guest_memory.specs.declared.address_map.TheConstants.{BUS_BINDING, BUS_START, BUS_STOP, BUS_SUPPORTED}
use Rattle.ebc_machine.specs.declared.cpu.Cpu.{Cpu}
use Rattle.world_model.specs.World.{Soft, State}
use Rattle.world_model.specs.Interfaces.{bus_driver}
use Rattle.world_model.specs.Units.{units_aside}
use Rattle.world_model.specs.Events.{next_serial}
use Rattle.world_model.specs.Stacks.{frame}
use Rattle.world_model.specs.Thunks.{thunk_at}
use Rattle.driver_model.specs.Moves.{Operations, begins_event, caps, ends_event, pays, pops, pushes, puts_back, returns, sets_tpl}
use Rattle.driver_model.specs.Level.{Level}
use Rattle.driver_model.specs.Activations.{is_success, next_scope}
use Rattle.driver_model.specs.BusDriver.{bus_started, bus_stopped}
use Rattle.driver_model.specs.BusSupport.{functions_chosen, support_status}
use Rattle.driver_model.specs.GuestRun.{run}
use Rattle.driver_model.specs.declared.call.Call.{Call}
use Rattle.driver_model.specs.declared.call.CallKind.{CallKind}
use Rattle.driver_model.specs.declared.call.CallKind.TheVariants.{Entry, Supported, Start, Stop, Unload}
use Rattle.driver_model.specs.declared.call.Code.{Code}
use Rattle.driver_model.specs.declared.call.Code.TheVariants.{Ebc, BusSupported, BusStart, BusStop, Foreign, NoCode}
use Rattle.driver_model.specs.declared.call.RunEnd.{RunEnd}
use Rattle.driver_model.specs.declared.call.RunEnd.TheVariants.{Returned, Over}
use Rattle.driver_model.specs.declared.call.Scope.{Scope}
use Rattle.driver_model.specs.declared.settings.Settings.{Settings}

-- ---- rule 1

abbrev pub allowance : Settings → State → ℕ
allowance settings w = min settings.call_budget w.hard.units

-- ---- rule 3

-- the function of the bus driver at an address, if there is one
abbrev pub bus_code : (at : ℕ) → Option Code
bus_code at =
    if nat_eq at BUS_SUPPORTED then Some BusSupported
    else if nat_eq at BUS_START then Some BusStart
    else if nat_eq at BUS_STOP then Some BusStop
    else None

-- whether the bus driver is called by its own binding
abbrev pub is_bus_driver_call : Call → Bool
is_bus_driver_call call = nat_eq call.driver bus_driver && nat_eq call.binding BUS_BINDING

-- a function of the bus driver is called as its own only by its own binding
abbrev pub native_code : Option Code → Call → Code
native_code None call = NoCode
native_code (Some code) call = if is_bus_driver_call call then code else if nat_eq call.binding 0 then NoCode else Foreign

abbrev pub code_by : (thunk : Option ℕ) → Call → Code
code_by (Some entry) call = Ebc entry
code_by None call = native_code (bus_code call.address) call

-- an entry point is called at its address, everything else by a thunk or as native code
abbrev pub code_for : CallKind → Call → Soft → Code
code_for Entry call soft = Ebc call.address
code_for Supported call soft = code_by (thunk_at call.address soft) call
code_for Start call soft = code_by (thunk_at call.address soft) call
code_for Stop call soft = code_by (thunk_at call.address soft) call
code_for Unload call soft = code_by (thunk_at call.address soft) call

unfoldable pub code_of : Call → Soft → Code
code_of call soft = code_for call.kind call soft

-- ---- rule 2

-- the kind of the call's event
abbrev pub event_kind : CallKind → EventKind
event_kind Entry = event.Entry
event_kind Supported = event.Supported
event_kind Start = event.Start
event_kind Stop = event.Stop
event_kind Unload = event.Unload

-- ---- rule 6

abbrev pub commits : CallKind → Outcome → Bool
commits Supported outcome = false
commits Entry outcome = is_success outcome
commits Start outcome = is_success outcome
commits Stop outcome = is_success outcome
commits Unload outcome = is_success outcome

-- ---- rule 5

-- how a call ends if its run ends like this
abbrev pub outcome_of : RunEnd → Outcome
outcome_of (Returned value) = Value (record { 0 = value })
outcome_of (Over outcome) = outcome

-- ---- rule 4

-- the remaining device path of Supported and Start, their third argument
abbrev pub path_of : Call → ℕ
path_of call = slice_index call.slots 2

-- the registers at the beginning of a run on a new stack: IP is at the entry, and R0 at the frame
abbrev pub entry_cpu : (level entry : ℕ) → Cpu
entry_cpu level entry = record (frame level) { ip = entry }

module _ {S : Type 0} (o : Operations S) where
  abbrev pub popped : (level : ℕ) → RunEnd × S → RunEnd × S
  popped level r = (r.0, o.make (pops level) r.1)

  -- the stack has the arguments and, next to them, the list of children
  unfoldable pub ran_on_stack : Settings → Option (Level S) → Scope → (level entry : ℕ) → (slots children : List ℕ) → S → RunEnd × S
  ran_on_stack settings below scope level entry slots children w =
      popped level (run o settings below scope level (entry_cpu level entry) (o.make (pushes level slots children) w))

  abbrev pub with_outcome : RunEnd × S → Outcome × S
  with_outcome r = (outcome_of r.0, r.1)

  abbrev pub entered_by : Code → Settings → Option (Level S) → Scope → (level : ℕ) → Call → (children : List ℕ) → S → Outcome × S
  entered_by (Ebc entry) settings below scope level call children w =
      with_outcome (ran_on_stack settings below scope level entry call.slots children w)
  entered_by BusSupported settings below scope level call children w =
      (Value (support_status (functions_chosen call.controller (path_of call) (o.see w))), w)
  entered_by BusStart settings below scope level call children w = bus_started o below scope call.controller (path_of call) w
  entered_by BusStop settings below scope level call children w = bus_stopped o settings below scope call.controller children w
  entered_by Foreign settings below scope level call children w = (Value UNSUPPORTED, w)
  entered_by NoCode settings below scope level call children w = (Trapped BadCall, w)

  unfoldable pub entered : Settings → Option (Level S) → Scope → (level : ℕ) → Call → (children : List ℕ) → S → Outcome × S
  entered settings below scope level call children w =
      entered_by (code_of call (o.see w).soft) settings below scope level call children w

  -- ---- rules 1, 2 and 6: around the code

  -- no more units than the allowance are left while the call lasts
  abbrev pub begun : Settings → Scope → Call → S → S
  begun settings scope call w =
      o.make (begins_event scope.event (event_kind call.kind) call.driver call.controller call.extra)
      (o.make (pays CALL_PRICE) (o.make (caps settings.call_budget) w))

  -- afterwards the units that it was not allowed to spend are the caller's again
  abbrev pub ended : Settings → (before : State) → Outcome × S → Outcome × S
  ended settings before r = (
    r.0,
    o.make (returns (units_aside settings.call_budget before.hard))
        (o.make (ends_event (next_serial before.hard) r.0) (o.make (sets_tpl before.soft.tpl) r.1)),
  )

  abbrev pub kept_or_undone : CallKind → (before : Soft) → Outcome × S → Outcome × S
  kept_or_undone kind before r = (r.0, if commits kind r.0 then r.1 else o.make (puts_back before) r.1)

  -- ---- all rules

  unfoldable pub called : Settings → Option (Level S) → (level : ℕ) → Scope → Call → (children : List ℕ) → S → Outcome × S
  called settings below level scope call children w =
      if nat_lt (allowance settings (o.see w)) CALL_PRICE then (Trapped Budget, w)
      else kept_or_undone call.kind (o.see w).soft
      (ended settings (o.see w) (entered settings below (next_scope o w) level call children (begun settings scope call w)))

  -- ---- a thunk that a driver calls is no driver call: its code runs on a stack of its level, in the caller's event

  abbrev pub thunk_ran : Settings → Option (Level S) → (level : ℕ) → Scope → (entry : ℕ) → (slots : List ℕ) → S → RunEnd × S
  thunk_ran settings below level scope entry slots w = ran_on_stack settings below scope level entry slots [] w
