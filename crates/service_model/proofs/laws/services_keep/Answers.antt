use Rattle.service_model.proofs.SoftPart.{Changes, Ground, fixed-stay, kept-by, kept-stays, stacks-stay}
use Rattle.service_model.proofs.laws.services_keep.Goals as goal

pub returns-clause-fixed_segments : goal.returns-clause-fixed_segments
returns-clause-fixed_segments c =
    let changes : Changes = record {
      puts = c.changes_keep.ensures.putting;
      sets = c.changes_keep.ensures.tpl;
      allots = c.changes_keep.ensures.allotting;
      frees = c.changes_keep.ensures.freeing;
      installs = c.changes_keep.ensures.installing;
      enters = c.changes_keep.ensures.entering;
      leaves = c.changes_keep.ensures.leaving;
    } in
    let ground : Ground = record { keeps = kept-by changes; fits = c.segments_fit.ensures.block; puts = c.puts_leave_writable.ensures } in
    fixed-stay c.fixed_segments_stay.ensures.putting c.fixed_segments_stay.ensures.mapping ground c.rows_are_allowed.ensures

pub returns-clause-stacks : goal.returns-clause-stacks
returns-clause-stacks c =
    let changes : Changes = record {
      puts = c.changes_keep.ensures.putting;
      sets = c.changes_keep.ensures.tpl;
      allots = c.changes_keep.ensures.allotting;
      frees = c.changes_keep.ensures.freeing;
      installs = c.changes_keep.ensures.installing;
      enters = c.changes_keep.ensures.entering;
      leaves = c.changes_keep.ensures.leaving;
    } in
    let ground : Ground = record { keeps = kept-by changes; fits = c.segments_fit.ensures.block; puts = c.puts_leave_writable.ensures } in
    stacks-stay c.stacks_stand.ensures.putting c.stacks_stand.ensures.allotting c.stacks_stand.ensures.freeing ground c.rows_are_allowed.ensures

pub returns-clause-kept : goal.returns-clause-kept
returns-clause-kept c =
    let changes : Changes = record {
      puts = c.changes_keep.ensures.putting;
      sets = c.changes_keep.ensures.tpl;
      allots = c.changes_keep.ensures.allotting;
      frees = c.changes_keep.ensures.freeing;
      installs = c.changes_keep.ensures.installing;
      enters = c.changes_keep.ensures.entering;
      leaves = c.changes_keep.ensures.leaving;
    } in
    let ground : Ground = record { keeps = kept-by changes; fits = c.segments_fit.ensures.block; puts = c.puts_leave_writable.ensures } in
    kept-stays ground c.rows_are_allowed.ensures
