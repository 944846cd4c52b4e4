use Rattle.std.proofs.Common.{◌∙◌}
use Rattle.bind_plan.proofs.NullHandle.{no_binding}
use Rattle.bind_plan.proofs.bindings.binding.Goals as goal

pub returns-in_err-handle : goal.returns-in_err-handle
returns-in_err-handle c = c.from_residual.ensures ∙ no_binding c.args.world.now.now.soft c.args.handle c.is_kept.ensures c.in_err-handle.ensures
