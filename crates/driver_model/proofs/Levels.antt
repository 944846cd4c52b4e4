-- What activations, driver calls, runs, loads and unloads leave at all levels, as the statements on staying say it.
use Rattle.std.proofs.Common.{suc, [], refl}
use Rattle.world_model.proofs.Levels.{rest_is_free}
use Rattle.driver_model.specs.Moves.{plain}
use Rattle.driver_model.specs.Levels.{below, level_over, level_with}
use Rattle.driver_model.specs.Staying.{CallsStay, ConnectsStay, DisconnectsStay, FreeStays, LoadsStay, ManyUninstallsStay, RemovalsStay, RestCanRun, RunsStay, ServicesGoingOnStay, StepsLeaveStacks, ThunksStay, TurnsStay, UninstallsStay, UnloadsStay, fits_list}
use Rattle.driver_model.specs.declared.request.Remover.TheVariants.{ADriver}
use Rattle.driver_model.proofs.AllLevels.{level_itself, levels_below}
use Rattle.driver_model.proofs.ImageLoads.{load_keeps}
use Rattle.driver_model.proofs.Keeping.{connect_keeps, disconnect_keeps, many_keeps, reentered_keeps, removed_keeps, run_keeps, turn_keeps, uninstalled_keeps}
use Rattle.driver_model.proofs.SingleMoves.{step_leaves_stacks}
use Rattle.driver_model.proofs.Unloads.{unload_keeps}
use Rattle.driver_model.proofs.Staying.{StaysAt, each_move_stays, stays_kept}

-- ---- driver calls, thunks and runs

pub calls_stay : CallsStay
calls_stay settings room scope call children w lt sixteen few can = (level_itself plain fits_list StaysAt stays_kept settings room lt).call scope call children w sixteen few can

pub thunks_stay : ThunksStay
thunks_stay settings room scope entry slots w lt sixteen can = (level_itself plain fits_list StaysAt stays_kept settings room lt).thunk scope entry slots w sixteen can

pub runs_stay : RunsStay
runs_stay settings room scope level cpu w le can =
    run_keeps plain fits_list StaysAt stays_kept settings (level_with room) (below plain settings room) (levels_below plain fits_list StaysAt stays_kept settings room le) scope level cpu w can

pub turns_stay : TurnsStay
turns_stay settings room scope level cpu w le can =
    turn_keeps plain fits_list StaysAt stays_kept settings (level_with room) (below plain settings room) (levels_below plain fits_list StaysAt stays_kept settings room le) scope level cpu w can

-- ---- activations, and services that go on

pub connects_stay : ConnectsStay
connects_stay settings room scope c context w le can =
    connect_keeps plain fits_list StaysAt stays_kept settings (level_with room) (below plain settings room) (levels_below plain fits_list StaysAt stays_kept settings room le) scope c context w can

pub disconnects_stay : DisconnectsStay
disconnects_stay settings room scope d w le can =
    disconnect_keeps plain fits_list StaysAt stays_kept settings (level_with room) (below plain settings room) (levels_below plain fits_list StaysAt stays_kept settings room le) scope d w can

pub removals_stay : RemovalsStay
removals_stay settings room scope removal w le can =
    removed_keeps plain fits_list StaysAt stays_kept settings (level_with room) (below plain settings room) (levels_below plain fits_list StaysAt stays_kept settings room le) scope removal w can

pub uninstalls_stay : UninstallsStay
uninstalls_stay settings room scope i w le can =
    uninstalled_keeps plain fits_list StaysAt stays_kept settings (level_with room) (below plain settings room) (levels_below plain fits_list StaysAt stays_kept settings room le) scope ADriver i refl w can

pub many_uninstalls_stay : ManyUninstallsStay
many_uninstalls_stay settings room scope interfaces w le can =
    many_keeps plain fits_list StaysAt stays_kept settings (level_with room) (below plain settings room) (levels_below plain fits_list StaysAt stays_kept settings room le) scope interfaces w can

pub services_going_on_stay : ServicesGoingOnStay
services_going_on_stay settings room scope reentry w le can =
    reentered_keeps plain fits_list StaysAt stays_kept settings (level_with room) (below plain settings room) (levels_below plain fits_list StaysAt stays_kept settings room le) scope reentry w can

-- ---- loads and unloads

pub loads_stay : LoadsStay
loads_stay settings room scope file device w lt can =
    load_keeps plain fits_list StaysAt stays_kept (level_with (suc room)) (level_over plain settings (level_with room) (below plain settings room)) (level_itself plain fits_list StaysAt stays_kept settings room lt) scope file device w can

pub unloads_stay : UnloadsStay
unloads_stay settings room scope handle w lt can =
    unload_keeps plain fits_list StaysAt stays_kept each_move_stays (level_with (suc room)) (level_over plain settings (level_with room) (below plain settings room)) (level_itself plain fits_list StaysAt stays_kept settings room lt) scope handle w can

-- ---- how it begins, and what code needs of it

pub rest_can_run : RestCanRun
rest_can_run soft kept none = record {
  kept = kept;
  free = rest_is_free (record { now = record { soft = soft; hard = record { units = 0; events = []; board = record { lines = []; devices = [] }; roms = [] } }; marks = [] }) (record { no_stack = none; no_mark = refl });
}

pub free_stays : FreeStays
free_stays old new room marks stays free = rw stays.stacks free

pub steps_leave_stacks : StepsLeaveStacks
steps_leave_stacks = step_leaves_stacks
