use Rattle.world_model.proofs.NestedLaws.{all_leaving, child_leaving, entering, installing, leaving, new_handle, uninstalling, weak_dropping}
use Rattle.world_model.proofs.laws.changes_in_view.Goals as goal

pub returns : goal.returns
returns c = record {
  new_handle = new_handle;
  installing = installing;
  uninstalling = uninstalling;
  entering = entering;
  leaving = leaving;
  all_leaving = all_leaving;
  child_leaving = child_leaving;
  weak_dropping = weak_dropping;
}
