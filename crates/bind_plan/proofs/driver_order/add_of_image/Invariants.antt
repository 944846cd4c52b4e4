use Rattle.std.proofs.Common.{◌≡◌, ◌++◌, take, nat_eq}
use Rattle.std.specs.Prelude.{filter}
use Rattle.driver_model.specs.declared.binding.BindingBlock.{BindingBlock}
use Rattle.bind_plan.proofs.driver_order.add_of_image.Given as goal

abbrev pub invariant-loop-block : goal.invariant-loop-block
invariant-loop-block l = l.blocks.items ≡ l.initial.blocks.items ++ filter (λ (block : BindingBlock). nat_eq block.image l.image) (take l.block-index l.all)
