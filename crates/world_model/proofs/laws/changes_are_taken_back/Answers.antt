use Rattle.world_model.proofs.UndoNoted.{add_image_is_noted, allot_is_noted, bus_list_is_noted, child_is_noted, free_is_noted, install_is_noted, put_is_noted, thunk_is_noted, tpl_is_noted, write_is_noted}
use Rattle.world_model.proofs.UndoRecords.{drop_image_is_noted, uninstall_is_noted}
use Rattle.world_model.proofs.laws.changes_are_taken_back.Goals as goal

pub returns : goal.returns
returns c = record {
  tpl = tpl_is_noted;
  write = write_is_noted;
  put = put_is_noted;
  allot = allot_is_noted;
  free = free_is_noted;
  install = install_is_noted;
  uninstall = uninstall_is_noted;
  drop_image = drop_image_is_noted;
  add_image = add_image_is_noted;
  thunk = thunk_is_noted;
  child = child_is_noted;
  bus_list = bus_list_is_noted;
}
