-- How a service goes on if it enters the driver model again (UEFI 2.8, 7.3).
use Rattle.std.specs.Prelude.{Option}
use Rattle.service_model.specs.declared.call.Reentry.{Reentry}
use Rattle.service_model.specs.declared.call.Reentry.TheVariants.{Connect, Disconnect, Remove, Uninstall, UninstallMany}
use Rattle.service_model.specs.declared.call.Served.{Served}
use Rattle.service_model.specs.declared.call.Served.TheVariants.{Value, Trap, Again}
use Rattle.driver_model.specs.Moves.{Operations}
use Rattle.driver_model.specs.Level.{Level}
use Rattle.driver_model.specs.Connect.{connect}
use Rattle.driver_model.specs.Disconnect.{disconnect}
use Rattle.driver_model.specs.OpenWithRemoval.{removed, status_answer}
use Rattle.driver_model.specs.UninstallWithReconnection.{many_uninstalled, uninstalled}
use Rattle.driver_model.specs.declared.call.Scope.{Scope}
use Rattle.driver_model.specs.declared.request.Remover.TheVariants.{ADriver}
use Rattle.driver_model.specs.declared.settings.Settings.{Settings}

module _ {S : Type 0} (o : Operations S) where
  -- at the level of the caller
  unfoldable pub reentered : Settings → Option (Level S) → Scope → Reentry → S → Served × S
  reentered settings below scope (Connect controller context path at_end recursive) w =
      status_answer (connect o settings below scope (record { controller = controller; path = path; at_end = at_end; recursive = recursive }) context w)
  reentered settings below scope (Disconnect controller driver child) w =
      status_answer (disconnect o below scope (record { controller = controller; driver = driver; child = child }) w)
  reentered settings below scope (Remove removal) w = removed o below scope removal w
  reentered settings below scope (Uninstall i) w = status_answer (uninstalled o settings below scope ADriver i w)
  reentered settings below scope (UninstallMany interfaces) w = status_answer (many_uninstalled o settings below scope interfaces w)

  -- what a service answers in the end
  abbrev pub gone_on : Settings → Option (Level S) → Scope → Served × S → Served × S
  gone_on settings below scope (Value value, w) = (Value value, w)
  gone_on settings below scope (Trap cause, w) = (Trap cause, w)
  gone_on settings below scope (Again reentry, w) = reentered settings below scope reentry w
