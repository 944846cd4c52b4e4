-- A mark is spent by putting the soft part back or by leaving it.
use Rattle.std.proofs.Common.{List, ap}
use Rattle.world_model.specs.World.{Soft}
use Rattle.world_model.specs.Marks.{CommitSpendsMark, RollbackPutsBack, older_marks, put_back}

pub rollback : RollbackPutsBack
rollback before after same = ap (λ (marks : List Soft). record { now = put_back marks after.now; marks = older_marks marks }) same

pub commit : CommitSpendsMark
commit before after same = ap (λ (marks : List Soft). record after { marks = older_marks marks }) same
