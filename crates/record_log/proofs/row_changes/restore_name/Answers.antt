use Rattle.std.proofs.Common.{subst, sym}
use Rattle.record_rows.specs.Asking.{HasName}
use Rattle.record_log.proofs.row_changes.restore_name.Goals as goal

pub restore_name-requires : goal.restore_name-requires
restore_name-requires c = subst (λ n. HasName n c.args.rows.now) (sym c.get.ensures.value) (rw c.in-Some.is at c.requires)
