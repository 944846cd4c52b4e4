-- What driver calls, runs, activations, loads and unloads spend at all levels, as the statements on spending say it.
use Rattle.std.proofs.Common.{suc, refl}
use Rattle.service_model.specs.SecondLook.{SpendsNothing}
use Rattle.service_model.proofs.UntouchedParts.{events-stay, units-never-rise}
use Rattle.driver_model.specs.Moves.{plain}
use Rattle.driver_model.specs.Levels.{below, level_over, level_with}
use Rattle.driver_model.specs.Spending.{CallsSpend, ConnectsSpend, DisconnectsSpend, LoadsSpend, RunsSpend, ServicesGoingOnSpend, UnloadsSpend}
use Rattle.driver_model.proofs.AllLevels.{level_itself, levels_below}
use Rattle.driver_model.proofs.ImageLoads.{load_keeps}
use Rattle.driver_model.proofs.Keeping.{KeepsEachMove, KeepsMoves, connect_keeps, disconnect_keeps, reentered_keeps, run_keeps}
use Rattle.driver_model.proofs.Unloads.{unload_keeps}
use Rattle.driver_model.proofs.Spending.{SpendsAt, any_list, each_move_spends, spending_kept}

module _ (looks : SpendsNothing) where
  spends_kept : KeepsMoves plain any_list SpendsAt
  spends_kept = spending_kept events-stay units-never-rise looks

  each_spends : KeepsEachMove plain SpendsAt
  each_spends = each_move_spends events-stay units-never-rise looks

  pub calls_spend : CallsSpend
  calls_spend settings room scope call children w lt sixteen = (level_itself plain any_list SpendsAt spends_kept settings room lt).call scope call children w sixteen refl

  pub runs_spend : RunsSpend
  runs_spend settings room scope level cpu w le =
      run_keeps plain any_list SpendsAt spends_kept settings (level_with room) (below plain settings room) (levels_below plain any_list SpendsAt spends_kept settings room le) scope level cpu w

  pub connects_spend : ConnectsSpend
  connects_spend settings room scope c context w le =
      connect_keeps plain any_list SpendsAt spends_kept settings (level_with room) (below plain settings room) (levels_below plain any_list SpendsAt spends_kept settings room le) scope c context w

  pub disconnects_spend : DisconnectsSpend
  disconnects_spend settings room scope d w le =
      disconnect_keeps plain any_list SpendsAt spends_kept settings (level_with room) (below plain settings room) (levels_below plain any_list SpendsAt spends_kept settings room le) scope d w

  pub services_going_on_spend : ServicesGoingOnSpend
  services_going_on_spend settings room scope reentry w le =
      reentered_keeps plain any_list SpendsAt spends_kept settings (level_with room) (below plain settings room) (levels_below plain any_list SpendsAt spends_kept settings room le) scope reentry w

  pub loads_spend : LoadsSpend
  loads_spend settings room scope file device w lt =
      load_keeps plain any_list SpendsAt spends_kept (level_with (suc room)) (level_over plain settings (level_with room) (below plain settings room))
      (level_itself plain any_list SpendsAt spends_kept settings room lt) scope file device w

  pub unloads_spend : UnloadsSpend
  unloads_spend settings room scope handle w lt =
      unload_keeps plain any_list SpendsAt spends_kept each_spends (level_with (suc room)) (level_over plain settings (level_with room) (below plain settings room))
      (level_itself plain any_list SpendsAt spends_kept settings room lt) scope handle w
