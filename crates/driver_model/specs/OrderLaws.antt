-- What holds of the order of drivers (UEFI 2.8, 7.3: ConnectController), in the words of the standard.
use Rattle.std.specs.Prelude.{◌≡◌, ℕ, Bool, true, ◌&&◌, not, nat_eq, nat_le, nat_lt, List, [], ◌∷◌, ◌++◌, filter, Some, if◌then◌else◌}
use Rattle.std.specs.List.{All, list_all, list_any}
use Rattle.world_model.specs.World.{Soft}
use Rattle.world_model.specs.Kept.{IsKept}
use Rattle.driver_model.specs.Bindings.{all_bindings, binding}
use Rattle.driver_model.specs.DriverOrder.{bus_group, by_version, context_group, first_places, order, platform_group, precedes, version_group}
use Rattle.driver_model.specs.declared.binding.BindingBlock.{BindingBlock}

-- ---- each driver once

abbrev pub is_handle : (handle : ℕ) → BindingBlock → Bool
is_handle handle block = nat_eq block.handle handle

-- whether no two drivers of a list have the same handle
abbrev pub is_each_once : List BindingBlock → Bool
is_each_once [] = true
is_each_once (block ∷ blocks) = not (list_any (is_handle block.handle) blocks) && is_each_once blocks

-- each driver is in the order once
abbrev pub EachOnce : Type 0
EachOnce = (controller : ℕ) (context platform : List ℕ) (soft : Soft) → is_each_once (order controller context platform soft) ≡ true

-- each has its binding
abbrev pub EachHasItsBinding : Type 0
EachHasItsBinding =
    (controller : ℕ) (context platform : List ℕ) (soft : Soft)
    → All (λ (block : BindingBlock). binding block.handle soft ≡ Some block) (order controller context platform soft)

-- and every handle with a binding is there
abbrev pub EveryBindingIsThere : Type 0
EveryBindingIsThere =
    (controller : ℕ) (context platform : List ℕ) (soft : Soft) (handle : ℕ) (block : BindingBlock)
    → binding handle soft ≡ Some block → list_any (is_handle handle) (order controller context platform soft) ≡ true

-- ---- the drivers that are chosen, and the others

-- the drivers before those that go by Version
abbrev pub chosen_first : (controller : ℕ) → (context platform : List ℕ) → Soft → List BindingBlock
chosen_first controller context platform soft = first_places (context_group context soft ++ platform_group platform soft ++ bus_group controller soft)

abbrev pub is_among : List BindingBlock → BindingBlock → Bool
is_among blocks block = list_any (is_handle block.handle) blocks

-- First come the drivers of the context, the platform list and the bus list. The others follow, in their order by Version.
abbrev pub OthersGoByVersion : Type 0
OthersGoByVersion =
    (controller : ℕ) (context platform : List ℕ) (soft : Soft) → IsKept soft
    → order controller context platform soft
    ≡ chosen_first controller context platform soft ++ filter (λ block. not (is_among (chosen_first controller context platform soft) block)) (version_group soft)

-- one more driver comes last among the first places, unless it is there already
abbrev pub OneMoreComesLast : Type 0
OneMoreComesLast =
    (blocks : List BindingBlock) (block : BindingBlock)
    → first_places (blocks ++ block ∷ []) ≡ first_places blocks ++ (if is_among (first_places blocks) block then [] else block ∷ [])

-- ---- the order by Version

-- whether no driver of a list precedes an earlier one
abbrev pub is_by_version : List BindingBlock → Bool
is_by_version [] = true
is_by_version (block ∷ blocks) = not (list_any (λ (later : BindingBlock). precedes later block) blocks) && is_by_version blocks

-- by Version, the highest first, and of equal Versions by handle, the lowest first
abbrev pub VersionsFall : Type 0
VersionsFall = (soft : Soft) → is_by_version (version_group soft) ≡ true

-- whether the handles of a list rise
abbrev pub has_handle_above : (handle : ℕ) → BindingBlock → Bool
has_handle_above handle block = nat_lt handle block.handle

abbrev pub is_by_handle : List BindingBlock → Bool
is_by_handle [] = true
is_by_handle (block ∷ blocks) = list_all (has_handle_above block.handle) blocks && is_by_handle blocks

-- all bindings go by rising handle
abbrev pub BindingsRise : Type 0
BindingsRise = (soft : Soft) → IsKept soft → is_by_handle (all_bindings soft) ≡ true

-- whether the Versions of a list never rise
abbrev pub has_version_up_to : (version : ℕ) → BindingBlock → Bool
has_version_up_to version block = nat_le block.version version

abbrev pub is_falling : List BindingBlock → Bool
is_falling [] = true
is_falling (block ∷ blocks) = list_all (has_version_up_to block.version) blocks && is_falling blocks

abbrev pub has_version : (version : ℕ) → BindingBlock → Bool
has_version version block = nat_eq block.version version

-- A list in which Versions never rise, and drivers with the same Version stay in their order by handle, is the
-- order by Version.
abbrev pub FallingIsByVersion : Type 0
FallingIsByVersion =
    (blocks sorted : List BindingBlock) → is_by_handle blocks ≡ true → is_falling sorted ≡ true
    → ((version : ℕ) → filter (has_version version) sorted ≡ filter (has_version version) blocks)
    → sorted ≡ by_version blocks
