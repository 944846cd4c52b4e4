use Rattle.world_model.proofs.OpeningState.{opening_kept}
use Rattle.world_model.proofs.KeepingBlocks.{allotting, freeing, putting, tpl_set, writing}
use Rattle.world_model.proofs.KeepingInterfaces.{installing, uninstalling}
use Rattle.world_model.proofs.KeepingImages.{adding, dropping}
use Rattle.world_model.proofs.KeepingSweeps.{sweeping}
use Rattle.world_model.proofs.KeepingStacks.{popping, pushing}
use Rattle.world_model.proofs.KeepingRecords.{all_leaving, child_leaving, entering, kept_with, leaving, live_kept, none_kept, weak_dropping}
use Rattle.world_model.proofs.KeepingThunks.{making}
use Rattle.world_model.proofs.KeepingChildren.{bus_list_set, noting}
use Rattle.world_model.proofs.laws.changes_keep.Goals as goal

pub returns : goal.returns
returns c = record {
  opening = opening_kept;
  writing = writing;
  putting = putting;
  tpl = tpl_set;
  allotting = allotting;
  freeing = freeing;
  installing = installing;
  uninstalling = uninstalling;
  entering = entering;
  leaving = leaving;
  all_leaving = all_leaving;
  child_leaving = child_leaving;
  weak_dropping = weak_dropping;
  adding = adding;
  dropping = dropping;
  sweeping = sweeping;
  making = making;
  noting = noting;
  bus_list = bus_list_set;
  pushing = pushing;
  popping = popping;
  records = kept_with;
  no_records = none_kept;
  live_parties = live_kept;
}
