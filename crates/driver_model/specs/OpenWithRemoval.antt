-- OpenProtocol with EXCLUSIVE, of an interface that a driver manages (UEFI 2.8, 7.3: OpenProtocol): the driver is
-- disconnected first, and then the open is looked at again.
--
-- The rules, in their order:
--  1. DisconnectController(handle, driver, NULL) at the level of the caller (`removed`).
--  2. If it answers OUT_OF_RESOURCES or ABORTED, that is the answer of the open (`after_removal`).
--  3. Otherwise the second look is the answer (`looked_again` of `service_model`): the open's own conditions again, then
--     ACCESS_DENIED if any record has BY_DRIVER or EXCLUSIVE.
use Rattle.std.specs.Prelude.{Bool, ◌||◌, nat_eq, Option, if◌then◌else◌}
use Rattle.fw_types.specs.declared.status.Status.{Status}
use Rattle.fw_types.specs.declared.status.TheConstants.Status.{ABORTED, OUT_OF_RESOURCES}
use Rattle.service_model.specs.SecondLook.{looked_again}
use Rattle.service_model.specs.declared.call.Removal.{Removal}
use Rattle.service_model.specs.declared.call.Served.{Served}
use Rattle.service_model.specs.declared.call.Served.TheVariants.{Value}
use Rattle.driver_model.specs.Moves.{Operations, looks_again}
use Rattle.driver_model.specs.Level.{Level}
use Rattle.driver_model.specs.Disconnect.{disconnect}
use Rattle.driver_model.specs.declared.call.Scope.{Scope}

-- whether an open or an uninstall answers what its disconnect answered
abbrev pub is_passed_on : Status → Bool
is_passed_on status = nat_eq status.0 OUT_OF_RESOURCES.0 || nat_eq status.0 ABORTED.0

-- a status as the answer of a service
abbrev pub status_answer : {S : Type 0} → Status × S → Served × S
status_answer r = (Value r.0.0, r.1)

module _ {S : Type 0} (o : Operations S) where
  abbrev pub after_removal : Removal → Status × S → Served × S
  after_removal removal r =
      if is_passed_on r.0 then status_answer r
      else ((looked_again removal.opening (o.see r.1)).0, o.make (looks_again removal.opening) r.1)

  unfoldable pub removed : Option (Level S) → Scope → Removal → S → Served × S
  removed below scope removal w =
      after_removal removal (disconnect o below scope (record { controller = removal.opening.handle; driver = removal.victim; child = 0 }) w)
