-- Every relation that single moves keep holds through all levels, and so does that of chains.
use Rattle.std.proofs.Common.{ℕ, suc, refl}
use Rattle.world_model.specs.World.{State}
use Rattle.driver_model.specs.Moves.{plain}
use Rattle.driver_model.specs.Chains.{CallsAreChains, Chain, ConnectsAreChains, DisconnectsAreChains, LoadsAreChains, RunsAreChains, UnloadsAreChains, begins, joined, moves, none, on_stack, sets_aside, undoes}
use Rattle.driver_model.specs.Levels.{below, level_over, level_with}
use Rattle.driver_model.proofs.AllLevels.{level_itself, levels_below}
use Rattle.driver_model.proofs.ImageLoads.{load_keeps}
use Rattle.driver_model.proofs.Keeping.{KeepsEachMove, KeepsMoves, allowed_in_calls, connect_keeps, disconnect_keeps, run_keeps}
use Rattle.driver_model.proofs.Spending.{any_list}
use Rattle.driver_model.proofs.Unloads.{unload_keeps}

abbrev ChainAt : ℕ → State → State → Type 0
ChainAt level old new = Chain old new

chains_kept : KeepsMoves plain any_list ChainAt
chains_kept = record {
  sees = λ move w. refl;
  same = λ level w. none w;
  joined = λ level a b c one two. joined a b c one two;
  moves = λ level move w can. moves move w (allowed_in_calls move w can);
  begins = λ level parent kind driver controller extra w enough. begins parent kind driver controller extra w enough;
  capped = λ level most w v inner. sets_aside most w v inner;
  stacked = λ level slots children w v lt sixteen few inner. on_stack level slots children w v lt sixteen inner;
  childless = refl;
  few = λ level controller agent child w v goes. goes refl;
  deeper = λ level w v inner. inner;
  undone = λ level w v inner. undoes w v inner;
}

each_move : KeepsEachMove plain ChainAt
each_move level move w can = moves move w can

pub calls_are_chains : CallsAreChains
calls_are_chains settings room scope call children w lt sixteen = (level_itself plain any_list ChainAt chains_kept settings room lt).call scope call children w sixteen refl

pub runs_are_chains : RunsAreChains
runs_are_chains settings room scope level cpu w le =
    run_keeps plain any_list ChainAt chains_kept settings (level_with room) (below plain settings room) (levels_below plain any_list ChainAt chains_kept settings room le) scope level cpu w

pub connects_are_chains : ConnectsAreChains
connects_are_chains settings room scope c context w le =
    connect_keeps plain any_list ChainAt chains_kept settings (level_with room) (below plain settings room) (levels_below plain any_list ChainAt chains_kept settings room le) scope c context w

pub disconnects_are_chains : DisconnectsAreChains
disconnects_are_chains settings room scope d w le =
    disconnect_keeps plain any_list ChainAt chains_kept settings (level_with room) (below plain settings room) (levels_below plain any_list ChainAt chains_kept settings room le) scope d w

pub loads_are_chains : LoadsAreChains
loads_are_chains settings room scope file device w lt =
    load_keeps plain any_list ChainAt chains_kept (level_with (suc room)) (level_over plain settings (level_with room) (below plain settings room))
    (level_itself plain any_list ChainAt chains_kept settings room lt) scope file device w

pub unloads_are_chains : UnloadsAreChains
unloads_are_chains settings room scope handle w lt =
    unload_keeps plain any_list ChainAt chains_kept each_move (level_with (suc room)) (level_over plain settings (level_with room) (below plain settings room))
    (level_itself plain any_list ChainAt chains_kept settings room lt) scope handle w
