-- Bindings of handles that are not marked.
use Rattle.std.specs.Prelude.{ℕ, nat_eq, List, Option, None, if◌then◌else◌}
use Rattle.std.specs.List.{filter_map, list_any}
use Rattle.world_model.specs.World.{Soft}
use Rattle.driver_model.specs.Bindings.{binding}
use Rattle.driver_model.specs.declared.binding.BindingBlock.{BindingBlock}

-- the binding of a handle, or none if the handle is marked
abbrev pub unmarked_binding : (marked : List ℕ) → ℕ → Soft → Option BindingBlock
unmarked_binding marked handle soft = if list_any (nat_eq handle) marked then None else binding handle soft

-- the bindings of the unmarked ones among these handles, in their order
abbrev pub unmarked_bindings : (marked handles : List ℕ) → Soft → List BindingBlock
unmarked_bindings marked handles soft = filter_map (λ handle. unmarked_binding marked handle soft) handles
