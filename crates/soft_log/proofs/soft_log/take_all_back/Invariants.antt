use Rattle.std.proofs.Common.{◌≡◌, []}
use Rattle.undo_log.specs.Log.{depth}
use Rattle.world_model.specs.Marks.{stacks}
use Rattle.soft_log.specs.Keeping.{AreKept, kept_from, newest_of}
use Rattle.soft_log.proofs.TakingBack.{count_left}
use Rattle.soft_log.proofs.soft_log.take_all_back.Given as goal

-- what the marks keep stays, and so do the stacks
abbrev pub invariant-back : goal.invariant-back
invariant-back l = record {
  marks : kept_from [] l.log.marks l.soft ≡ kept_from [] l.initial.log.marks l.initial.soft;
  kept : AreKept [] l.log.marks l.soft;
  stacks : stacks l.soft ≡ stacks (newest_of (kept_from [] l.initial.log.marks l.initial.soft) l.soft);
  newest : l.mark ≡ depth l.log;
  now : newest_of (kept_from [] l.initial.log.marks l.initial.soft) l.soft ≡ newest_of (kept_from [] l.initial.log.marks l.initial.soft) l.initial.soft;
}

abbrev pub decreases-back : goal.decreases-back
decreases-back l = count_left l.log.marks
