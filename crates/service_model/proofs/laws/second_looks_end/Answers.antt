use Rattle.service_model.proofs.SecondLooks.{looks-allowed, looks-end, looks-leave-stacks}
use Rattle.service_model.proofs.SoftPart.{Changes, Ground, kept-by}
use Rattle.service_model.proofs.laws.second_looks_end.Goals as goal

pub returns-clause-allowed : goal.returns-clause-allowed
returns-clause-allowed c = looks-allowed

pub returns-clause-ends : goal.returns-clause-ends
returns-clause-ends c = looks-end

pub returns-clause-stacks : goal.returns-clause-stacks
returns-clause-stacks c =
    let changes : Changes = record {
      puts = c.changes_keep.ensures.putting;
      sets = c.changes_keep.ensures.tpl;
      allots = c.changes_keep.ensures.allotting;
      frees = c.changes_keep.ensures.freeing;
      installs = c.changes_keep.ensures.installing;
      enters = c.changes_keep.ensures.entering;
      leaves = c.changes_keep.ensures.leaving;
    } in
    let ground : Ground = record { keeps = kept-by changes; fits = c.segments_fit.ensures.block; puts = c.puts_leave_writable.ensures } in
    looks-leave-stacks c.stacks_stand.ensures.putting c.stacks_stand.ensures.allotting c.stacks_stand.ensures.freeing ground
