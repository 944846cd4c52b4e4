use Rattle.std.proofs.Common.{sym, subst}
use Rattle.world_model.specs.Kept.{IsKept}
use Rattle.world_model.proofs.OpeningState.{firmware_kept}
use Rattle.soft_part.proofs.soft_part.SoftPart.without_roots.Goals as goal

pub invariant_of-result : goal.invariant_of-result
invariant_of-result c = rw (c.in_ok-tables.ensures, c.in_ok-opening.ensures) (subst IsKept (sym c.in_ok-new.ensures) (firmware_kept c.args.functions))
