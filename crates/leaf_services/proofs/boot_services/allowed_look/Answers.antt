use Rattle.leaf_services.proofs.AllowedChanges.{look_is_allowed}
use Rattle.leaf_services.proofs.boot_services.allowed_look.Goals as goal

pub returns-clause-allowed : goal.returns-clause-allowed
returns-clause-allowed c = look_is_allowed c.second_looks_end.ensures.allowed c.args.o.now c.args.w.now.now c.second_look.result c.second_look.ensures
