-- An uninstall of several interfaces that is refused for certain before a driver is called, or before another one is
-- (UEFI 2.8, 7.3: UninstallMultipleProtocolInterfaces).
--
-- It reaches a pair that is refused, and no interface before that one has a record with BY_CHILD_CONTROLLER, BY_DRIVER
-- or EXCLUSIVE. So up to there no driver is disconnected and no handle is connected again. All that happens is that
-- interfaces are removed with their records, and come back.
use Rattle.std.specs.Prelude.{◌≡◌, Bool, true, false, ◌&&◌, ◌||◌, not, List, [], ◌∷◌, ◌++◌, Option, None}
use Rattle.std.specs.List.{list_any}
use Rattle.fw_types.specs.declared.attr.TheConstants.Attr.{AGENT_BITS}
use Rattle.fw_types.specs.declared.status.Status.{Status}
use Rattle.fw_types.specs.declared.status.TheConstants.Status.{INVALID_PARAMETER}
use Rattle.open_records.specs.Keyed.{is_same}
use Rattle.open_records.specs.Leaving.{is_meant}
use Rattle.world_model.specs.World.{Hard, Soft, State}
use Rattle.world_model.specs.Kept.{IsKept}
use Rattle.service_model.specs.declared.call.HandleInterface.{HandleInterface}
use Rattle.driver_model.specs.Moves.{plain}
use Rattle.driver_model.specs.Level.{Level}
use Rattle.driver_model.specs.UninstallWithReconnection.{after_release, each_uninstalled, if_uninstalled, interface_on, is_first_there, is_kept_from, many_uninstalled, records_on}
use Rattle.driver_model.specs.declared.call.Scope.{Scope}
use Rattle.driver_model.specs.declared.request.Remover.TheVariants.{ADriver}
use Rattle.driver_model.specs.declared.settings.Settings.{Settings}

-- whether one of these pairs has the handle and the protocol of a pair
abbrev pub is_listed : HandleInterface → List HandleInterface → Bool
is_listed i pairs = list_any (λ (one : HandleInterface). is_same one.handle one.guid i.handle i.guid) pairs

-- whether a pair is refused when those before it are gone: it is not there, or is the firmware's
abbrev pub is_refused_after : (before : List HandleInterface) → HandleInterface → Soft → Bool
is_refused_after before i soft =
    is_listed i before || not (is_first_there ADriver i.interface (interface_on i soft))
    || is_kept_from ADriver (interface_on i soft)

-- whether an interface has a record with BY_CHILD_CONTROLLER, BY_DRIVER or EXCLUSIVE
abbrev pub is_in_use : HandleInterface → Soft → Bool
is_in_use i soft = list_any (is_meant None None AGENT_BITS) (records_on i soft)

-- whether one of the pairs is refused after those that went before it, and no earlier one is in use
abbrev pub refused_after : (before : List HandleInterface) → List HandleInterface → Soft → Bool
refused_after before [] soft = false
refused_after before (i ∷ interfaces) soft =
    is_refused_after before i soft || not (is_in_use i soft) && refused_after (before ++ i ∷ []) interfaces soft

abbrev pub refused_early : List HandleInterface → Soft → Bool
refused_early interfaces soft = refused_after [] interfaces soft

-- Such an uninstall answers INVALID_PARAMETER and changes nothing, units and events included, whatever the levels below do.
abbrev pub EarlyRefusalsChangeNothing : Type 0
EarlyRefusalsChangeNothing =
    (settings : Settings) (below : Option (Level State)) (scope : Scope) (interfaces : List HandleInterface) (w : State) → IsKept w.soft
    → refused_early interfaces w.soft ≡ true → many_uninstalled plain settings below scope interfaces w ≡ (INVALID_PARAMETER, w)

-- several uninstalls ended with one that was refused, and with these units, events and devices
pub record IsRefused (last : Hard) (r : Bool × State) : Type 0 where
  pub answer : r.0 ≡ false
  pub hard : r.1.hard ≡ last

-- The same after the driver that managed the first pair's handle was disconnected, whatever that answered. If the list from
-- that pair on is then refused early, one of its pairs is refused, and until then nothing but the soft part changes, which
-- is put back.
abbrev pub LateRefusalsChangeTheSoftPartAlone : Type 0
LateRefusalsChangeTheSoftPartAlone =
    (settings : Settings) (below : Option (Level State)) (scope : Scope) (i : HandleInterface) (interfaces : List HandleInterface) (status : Status) (w : State) → IsKept w.soft
    → refused_early (i ∷ interfaces) w.soft ≡ true
    → IsRefused w.hard
    (if_uninstalled plain (each_uninstalled plain settings below scope ADriver interfaces) (after_release plain settings below scope ADriver i (status, w)))
