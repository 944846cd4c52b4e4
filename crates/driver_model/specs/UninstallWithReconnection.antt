-- UninstallProtocolInterface and UninstallMultipleProtocolInterfaces, of an interface that may be in use (UEFI 2.8, 7.3).
--
-- The rules of one uninstall, in their order:
--  1. NOT_FOUND if the handle does not have that interface. ACCESS_DENIED if a driver asks for an interface that the
--     firmware owns (`uninstalled`).
--  2. If a driver manages the handle by the interface, DisconnectController(handle, driver, NULL) at the level of the
--     caller. If it answers OUT_OF_RESOURCES or ABORTED, that is the answer (`released`, `after_release`).
--  3. NOT_FOUND if the handle does not have that interface any more (`after_release`).
--  4. The records with BY_HANDLE_PROTOCOL, GET_PROTOCOL and TEST_PROTOCOL are removed (`after_release`).
--  5. If any record is left, the handle is connected again at the level of the caller, with no context, no path, and its
--     children too. Whatever that answers, the answer is ACCESS_DENIED (`unless_open`).
--  6. Otherwise the interface is removed, and the answer is SUCCESS (`unless_open`).
use Rattle.std.specs.Prelude.{ℕ, Bool, true, false, ◌&&◌, not, nat_eq, List, [], ◌∷◌, find, Option, Some, None, option_map, if◌then◌else◌}
use Rattle.fw_types.specs.declared.status.Status.{Status}
use Rattle.fw_types.specs.declared.status.TheConstants.Status.{ACCESS_DENIED, INVALID_PARAMETER, NOT_FOUND, SUCCESS}
use Rattle.handle_db.specs.Database.{interface_of}
use Rattle.open_records.specs.OpenRecords.{records_of}
use Rattle.open_records.specs.Managing.{is_managing}
use Rattle.open_records.specs.declared.open_record.Rec.{Rec}
use Rattle.world_model.specs.World.{Soft}
use Rattle.world_model.specs.Interfaces.{firmware}
use Rattle.service_model.specs.declared.call.HandleInterface.{HandleInterface}
use Rattle.driver_model.specs.Moves.{Operations, drops_weak, puts_back, uninstalls}
use Rattle.driver_model.specs.Level.{Level}
use Rattle.driver_model.specs.Connect.{child_connection, connect}
use Rattle.driver_model.specs.Disconnect.{disconnect}
use Rattle.driver_model.specs.OpenWithRemoval.{is_passed_on}
use Rattle.driver_model.specs.declared.call.Scope.{Scope}
use Rattle.driver_model.specs.declared.request.Remover.{Remover}
use Rattle.driver_model.specs.declared.request.Remover.TheVariants.{TheFirmware, ADriver}
use Rattle.driver_model.specs.declared.settings.Settings.{Settings}

-- ---- is it there?

-- the interface of the protocol, and its owner
abbrev pub interface_on : HandleInterface → Soft → Option (ℕ × ℕ)
interface_on i soft = interface_of i.handle i.guid soft.database

-- For the firmware, an interface of another owner counts as absent.
abbrev pub is_first_there : Remover → (interface : ℕ) → Option (ℕ × ℕ) → Bool
is_first_there remover interface None = false
is_first_there TheFirmware interface (Some found) = nat_eq found.0 interface && nat_eq found.1 firmware
is_first_there ADriver interface (Some found) = nat_eq found.0 interface

-- At the second look, for a driver an interface of the firmware counts as absent. No run gets to that case: a handle
-- that is live never gains an interface of the firmware.
abbrev pub is_still_there : Remover → (interface : ℕ) → Option (ℕ × ℕ) → Bool
is_still_there remover interface None = false
is_still_there TheFirmware interface (Some found) = nat_eq found.0 interface && nat_eq found.1 firmware
is_still_there ADriver interface (Some found) = nat_eq found.0 interface && not (nat_eq found.1 firmware)

-- whether it is the firmware's, and a driver asks
abbrev pub is_kept_from : Remover → Option (ℕ × ℕ) → Bool
is_kept_from remover None = false
is_kept_from TheFirmware (Some found) = false
is_kept_from ADriver (Some found) = nat_eq found.1 firmware

-- ---- its records

abbrev pub records_on : HandleInterface → Soft → List Rec
records_on i soft = records_of soft.records.entries i.handle i.guid

-- the driver that manages the handle by the interface
abbrev pub manager_on : HandleInterface → Soft → Option ℕ
manager_on i soft = option_map (λ (rec : Rec). rec.agent) (find is_managing (records_on i soft))

module _ {S : Type 0} (o : Operations S) where
  -- ---- rules 5 and 6

  abbrev pub unless_open : Settings → Option (Level S) → Scope → HandleInterface → (records : List Rec) → S → Status × S
  unless_open settings below scope i [] w = (SUCCESS, o.make (uninstalls i.handle i.guid) w)
  unless_open settings below scope i (rec ∷ records) w =
      (ACCESS_DENIED, (connect o settings below scope (child_connection i.handle) [] w).1)

  unfoldable pub taken_away : Settings → Option (Level S) → Scope → HandleInterface → S → Status × S
  taken_away settings below scope i w = unless_open settings below scope i (records_on i (o.see w).soft) w

  -- ---- rules 3 and 4, after the release

  unfoldable pub after_release : Settings → Option (Level S) → Scope → Remover → HandleInterface → Status × S → Status × S
  after_release settings below scope remover i r =
      if is_passed_on r.0 then r
      else if is_still_there remover i.interface (interface_on i (o.see r.1).soft)
      then taken_away settings below scope i (o.make (drops_weak i.handle i.guid) r.1)
      else (NOT_FOUND, r.1)

  -- ---- rule 2

  abbrev pub released : Option (Level S) → Scope → HandleInterface → (manager : Option ℕ) → S → Status × S
  released below scope i None w = (SUCCESS, w)
  released below scope i (Some agent) w = disconnect o below scope (record { controller = i.handle; driver = agent; child = 0 }) w

  -- ---- all rules

  unfoldable pub uninstalled : Settings → Option (Level S) → Scope → Remover → HandleInterface → S → Status × S
  uninstalled settings below scope remover i w =
      if not (is_first_there remover i.interface (interface_on i (o.see w).soft)) then (NOT_FOUND, w)
      else if is_kept_from remover (interface_on i (o.see w).soft) then (ACCESS_DENIED, w)
      else after_release settings below scope remover i (released below scope i (manager_on i (o.see w).soft) w)

  -- ---- several pairs

  -- one after the other, as long as each is uninstalled
  abbrev pub if_uninstalled : (S → Bool × S) → Status × S → Bool × S
  if_uninstalled others r = if nat_eq r.0.0 SUCCESS.0 then others r.1 else (false, r.1)

  unfoldable pub each_uninstalled : Settings → Option (Level S) → Scope → Remover → List HandleInterface → S → Bool × S
  each_uninstalled settings below scope remover [] w = (true, w)
  each_uninstalled settings below scope remover (i ∷ interfaces) w =
      if_uninstalled (each_uninstalled settings below scope remover interfaces) (uninstalled settings below scope remover i w)

  -- For a driver: at the first answer that is not SUCCESS the soft part is as it was at the beginning, and the answer is
  -- INVALID_PARAMETER.
  abbrev pub all_or_none : (before : Soft) → Bool × S → Status × S
  all_or_none before (true, w) = (SUCCESS, w)
  all_or_none before (false, w) = (INVALID_PARAMETER, o.make (puts_back before) w)

  unfoldable pub many_uninstalled : Settings → Option (Level S) → Scope → List HandleInterface → S → Status × S
  many_uninstalled settings below scope interfaces w =
      all_or_none (o.see w).soft (each_uninstalled settings below scope ADriver interfaces w)
