-- The second look of an OpenProtocol for which a driver was disconnected (UEFI 2.8, 7.3: OpenProtocol). The driver's Stop may
-- have changed anything, so the open is looked at again, with the arguments and the GUID as they were first read.
use Rattle.std.specs.Prelude.{◌≡◌, ℕ, true, false, ◌&&◌, nat_eq, None, Some, Option, Result, Ok}
use Rattle.fw_types.specs.Attr.{has_bit_of}
use Rattle.fw_types.specs.declared.attr.TheConstants.Attr.{BY_CHILD_CONTROLLER, CONTROLLER_BITS, HOLDING_BITS}
use Rattle.fw_types.specs.declared.status.TheConstants.Status.{ACCESS_DENIED, INVALID_PARAMETER, UNSUPPORTED}
use Rattle.handle_db.specs.Database.{interface_of}
use Rattle.world_model.specs.World.{State}
use Rattle.world_model.specs.Kept.{IsKept}
use Rattle.world_model.specs.Marks.{stacks}
use Rattle.service_model.specs.Words.{◌>>=◌, ◌>>◌, alive, dead, legal, refuse_if, writable}
use Rattle.service_model.specs.Protocols.{has_record, live_or_zero, out_of, out_size}
use Rattle.service_model.specs.BootServices.{end_of_row}
use Rattle.service_model.specs.Untouched.{goes_on}
use Rattle.service_model.specs.Allowed.{is_allowed}
use Rattle.service_model.specs.declared.call.Opening.{Opening}
use Rattle.service_model.specs.declared.call.Served.{Served}
use Rattle.service_model.specs.declared.plan.Change.{Change}
use Rattle.service_model.specs.declared.plan.Change.TheVariants.{Open, Store}
use Rattle.service_model.specs.declared.plan.Stop.{Stop}

-- 0 is stored if the handle does not have the protocol any more; no record with BY_DRIVER or EXCLUSIVE may be there
abbrev pub open_after_removal : Option (ℕ × ℕ) → Opening → State → Result Change Stop
open_after_removal None o w = Ok (Store (out_of o.attr o.out) 0 UNSUPPORTED)
open_after_removal (Some found) o w = do
  refuse_if (has_record o.handle o.guid None None HOLDING_BITS w) ACCESS_DENIED
  Ok (Open o.handle o.guid o.agent (live_or_zero o.controller w) o.attr (out_of o.attr o.out) found.0)

-- The conditions of the open before its records are looked at, in their order. An open that a driver is in the way of is
-- exclusive, so its agent must be live, whatever its bits.
abbrev pub second_look : Opening → State → Result Change Stop
second_look o w = do
  handle ← alive o.handle INVALID_PARAMETER w
  writable (out_size o.attr) o.out w
  attr ← legal o.attr
  refuse_if (dead o.agent w) INVALID_PARAMETER
  refuse_if (has_bit_of CONTROLLER_BITS attr && dead o.controller w) INVALID_PARAMETER
  refuse_if (nat_eq attr BY_CHILD_CONTROLLER && nat_eq handle o.controller) INVALID_PARAMETER
  open_after_removal (interface_of o.handle o.guid w.soft.database) o w

-- what it answers, and the state that it leaves; it spends nothing
unfoldable pub looked_again : Opening → State → Served × State
looked_again o w = end_of_row w (second_look o w)

-- ---- its laws

-- it ends with no change that cannot be applied
abbrev pub SecondLooksAreAllowed : Type 0
SecondLooksAreAllowed = (o : Opening) (w : State) (change : Change) → second_look o w ≡ Ok change → is_allowed change w ≡ true

-- it does not enter the driver model again
abbrev pub SecondLooksEnd : Type 0
SecondLooksEnd = (o : Opening) (w : State) → goes_on (looked_again o w).0 ≡ false

-- which levels have a stack
abbrev pub SecondLooksLeaveStacks : Type 0
SecondLooksLeaveStacks = (o : Opening) (w : State) → IsKept w.soft → stacks (looked_again o w).1.soft ≡ stacks w.soft

-- neither units nor events
abbrev pub SpendsNothing : Type 0
SpendsNothing = (o : Opening) (w : State) → (looked_again o w).1.hard ≡ w.hard
