use Rattle.leaf_services.proofs.AllowedChanges.{change_is_allowed}
use Rattle.leaf_services.proofs.boot_services.allowed_change.Goals as goal

pub returns-clause-allowed : goal.returns-clause-allowed
returns-clause-allowed c = change_is_allowed c.rows_are_allowed.ensures c.args.s c.args.c.now c.args.a.now c.args.w.now.now c.change_for.result c.change_for.ensures
