use Rattle.std.proofs.Common.{rules, ℕ}
use Rattle.std.proofs.lemmas.Fn.{always_returns_same}
use Rattle.std.specs.declared.cmp.Reverse.{Reverse}
use Rattle.driver_model.specs.declared.binding.BindingBlock.{BindingBlock}
use Rattle.bind_plan.proofs.SortedVersions.{by_version_from_sort}
use Rattle.bind_plan.proofs.driver_order.sort_by_version.Goals as goal

pub returns : goal.returns
returns c =
    let key = λ (block : BindingBlock). let k : Reverse ℕ = record { 0 = block.version } in k in
    by_version_from_sort c.lists_of_drivers.ensures.versions _ _ c.requires
    (c.in_ok-sort_by_key.ensures.sorted key (always_returns_same _ _ _ (λ a r q k. search rules)))
    (c.sort_by_key.ensures.stable key (always_returns_same _ _ _ (λ a r q k. search rules)))
