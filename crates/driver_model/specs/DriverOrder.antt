-- Which drivers are asked for a controller, and in what order (UEFI 2.8, 7.3: ConnectController, its five rules
-- of precedence). The driver family override is not built.
use Rattle.std.specs.Prelude.{ℕ, Bool, ◌&&◌, ◌||◌, not, nat_eq, nat_lt, List, [], ◌∷◌, ◌++◌, filter, flat_map, find, Option, Some, None, if◌then◌else◌}
use Rattle.world_model.specs.World.{Soft}
use Rattle.world_model.specs.BusChildren.{bus_list, child_function}
use Rattle.driver_model.specs.Bindings.{all_bindings, binding, bindings_of}
use Rattle.driver_model.specs.declared.binding.BindingBlock.{BindingBlock}
use Rattle.driver_model.specs.declared.settings.PlatformList.{PlatformList}
use Rattle.driver_model.specs.declared.settings.Settings.{Settings}

-- ---- 1. the context: the handles that the caller gives, in their order

abbrev pub context_group : (context : List ℕ) → Soft → List BindingBlock
context_group context soft = bindings_of context soft

-- ---- 2. the platform driver override: the list that the script gives for the controller

-- In this list and the next one, a handle that has no binding means the drivers of the image of that handle, by
-- rising handle.
abbrev pub drivers_meant : ℕ → Option BindingBlock → Soft → List BindingBlock
drivers_meant handle (Some block) soft = block ∷ []
drivers_meant handle None soft = filter (λ (block : BindingBlock). nat_eq block.image handle) (all_bindings soft)

abbrev pub drivers_by : Soft → ℕ → List BindingBlock
drivers_by soft handle = drivers_meant handle (binding handle soft) soft

abbrev pub drivers_in : Option PlatformList → List ℕ
drivers_in None = []
drivers_in (Some list) = list.drivers

abbrev pub platform_list : Settings → (controller : ℕ) → List ℕ
platform_list settings controller = drivers_in (find (λ (list : PlatformList). nat_eq list.controller controller) settings.platform)

abbrev pub platform_group : (platform : List ℕ) → Soft → List BindingBlock
platform_group platform soft = flat_map (drivers_by soft) platform

-- ---- 3. the bus specific driver override: the list that the bus driver keeps for the controller's function

-- a controller that is no child of the bus has none
abbrev pub bus_list_of : (function : Option ℕ) → Soft → List ℕ
bus_list_of None soft = []
bus_list_of (Some number) soft = bus_list number soft

abbrev pub bus_group : (controller : ℕ) → Soft → List BindingBlock
bus_group controller soft = flat_map (drivers_by soft) (bus_list_of (child_function controller soft) soft)

-- ---- 4. all driver bindings: the highest Version first, and of equal Versions the lowest handle first

abbrev pub precedes : BindingBlock → BindingBlock → Bool
precedes one other = nat_lt other.version one.version || (nat_eq one.version other.version && nat_lt one.handle other.handle)

abbrev pub inserted : BindingBlock → List BindingBlock → List BindingBlock
inserted block [] = block ∷ []
inserted block (other ∷ others) = if precedes block other then block ∷ other ∷ others else other ∷ inserted block others

abbrev pub by_version : List BindingBlock → List BindingBlock
by_version [] = []
by_version (block ∷ blocks) = inserted block (by_version blocks)

abbrev pub version_group : Soft → List BindingBlock
version_group soft = by_version (all_bindings soft)

-- ---- the order

-- each driver once, at its first place
abbrev pub first_places : List BindingBlock → List BindingBlock
first_places [] = []
first_places (block ∷ blocks) = block ∷ filter (λ (other : BindingBlock). not (nat_eq other.handle block.handle)) (first_places blocks)

-- the four groups one after the other
unfoldable pub order : (controller : ℕ) → (context platform : List ℕ) → Soft → List BindingBlock
order controller context platform soft =
    first_places (context_group context soft ++ platform_group platform soft ++ bus_group controller soft ++ version_group soft)
