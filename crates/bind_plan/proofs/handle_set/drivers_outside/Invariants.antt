use Rattle.std.proofs.Common.{◌≡◌, not, take}
use Rattle.std.specs.Prelude.{filter}
use Rattle.std.specs.Ordering.{nat_cmp}
use Rattle.std.specs.BTreeSet.{contains}
use Rattle.driver_model.specs.declared.binding.BindingBlock.{BindingBlock}
use Rattle.bind_plan.proofs.handle_set.drivers_outside.Given as goal

-- the drivers so far that are outside the set
abbrev pub invariant-loop-block : goal.invariant-loop-block
invariant-loop-block l = l.others.items ≡ filter (λ (block : BindingBlock). not (contains nat_cmp l.handles block.handle)) (take l.block-index l.blocks)
