use Rattle.std.proofs.Common.{◌≡◌, ℕ, List, ap}
use Rattle.std.specs.Prelude.{Result, Ok, Err, OnErr, OnOk}
use Rattle.world_model.specs.CommandPath.{path_set}
use Rattle.world_model.specs.World.{Soft}
use Rattle.soft_log.specs.Keeping.{MarkedSoft}
use Rattle.soft_log.proofs.Merged.{none_here}
use Rattle.soft_log.proofs.soft_log.SoftLog.set_path.Goals as goal

path_database : {T E : Type 0} (result : Result T E) (before after : Soft) (bytes : List ℕ) → OnOk result (after ≡ path_set bytes before) → OnErr result (after ≡ before) → after.database ≡ before.database
path_database (Ok done) before after bytes ok err = ap (λ (s : Soft). s.database) ok
path_database (Err error) before after bytes ok err = ap (λ (s : Soft). s.database) err

pub invariant_of-self : goal.invariant_of-self
invariant_of-self c =
    let inside = c.self.inside in
    (none_here inside.log.marks inside.soft c.set_path.new.self inside.records c.args.self.now.marks c.self.invariant (ap (λ (v : MarkedSoft). v.marks) c.self.view_is) c.requires.unmarked (path_database c.set_path.result inside.soft c.set_path.new.self c.args.bytes.items c.set_path.ensures.ok c.set_path.ensures.err)).0

pub returns-clause-marks : goal.returns-clause-marks
returns-clause-marks c =
    let inside = c.self.inside in
    (none_here inside.log.marks inside.soft c.set_path.new.self inside.records c.args.self.now.marks c.self.invariant (ap (λ (v : MarkedSoft). v.marks) c.self.view_is) c.requires.unmarked (path_database c.set_path.result inside.soft c.set_path.new.self c.args.bytes.items c.set_path.ensures.ok c.set_path.ensures.err)).1
