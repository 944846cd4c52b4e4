use Rattle.std.proofs.Common.{◌≡◌, [], length, sym, ap, ◌∙◌}
use Rattle.world_model.specs.Marks.{older_marks}
use Rattle.soft_log.proofs.TakingBack.{are_committed, kept_committed, length-kept_from}
use Rattle.soft_log.proofs.soft_log.put_back.Goals as goal

pub commit-requires : goal.commit-requires
commit-requires c =
    let same : length c.args.log.now.marks ≡ length c.take_all_back.new.log.marks =
    sym (length-kept_from [] c.args.log.now.marks c.args.soft.now) ∙ ap length (sym c.in_ok-take_all_back.ensures.marks) ∙ length-kept_from [] c.take_all_back.new.log.marks c.take_all_back.new.soft in
    record { newest = c.requires.newest ∙ same }

pub returns-clause-kept : goal.returns-clause-kept
returns-clause-kept c = rw c.commit.ensures (are_committed c.take_all_back.new.log.marks c.take_all_back.new.soft c.in_ok-take_all_back.ensures.kept)

pub returns-clause-marks : goal.returns-clause-marks
returns-clause-marks c = rw c.commit.ensures (kept_committed c.take_all_back.new.log.marks c.take_all_back.new.soft) ∙ ap older_marks c.in_ok-take_all_back.ensures.marks
