use Rattle.std.proofs.Common.{ap}
use Rattle.world_model.specs.World.{Soft}
use Rattle.soft_log.specs.Keeping.{MarkedSoft}
use Rattle.soft_log.proofs.Merged.{none_here}
use Rattle.soft_log.proofs.soft_log.SoftLog.clear_path.Goals as goal

pub invariant_of-self : goal.invariant_of-self
invariant_of-self c =
    let inside = c.self.inside in
    (none_here inside.log.marks inside.soft c.clear_path.new.self inside.records c.args.self.now.marks c.self.invariant (ap (λ (v : MarkedSoft). v.marks) c.self.view_is) c.requires.unmarked (ap (λ (s : Soft). s.database) c.clear_path.ensures)).0

pub returns-clause-marks : goal.returns-clause-marks
returns-clause-marks c =
    let inside = c.self.inside in
    (none_here inside.log.marks inside.soft c.clear_path.new.self inside.records c.args.self.now.marks c.self.invariant (ap (λ (v : MarkedSoft). v.marks) c.self.view_is) c.requires.unmarked (ap (λ (s : Soft). s.database) c.clear_path.ensures)).1
