-- The order of drivers.
use Rattle.std.proofs.Common.{◌≡◌, ℕ, Bool, true, false, nat_eq, List, [], ◌∷◌, ◌++◌, refl, ap, ◌∙◌, sym, subst, if◌then◌else◌}
use Rattle.std.specs.Prelude.{Option, Some, None, filter, flat_map}
use Rattle.std.specs.List.{All, cons_option, list_any}
use Rattle.std.proofs.lemmas.Bool.{or_right}
use Rattle.std.proofs.lemmas.List.Elements.{All-append, All-cons, All-filter, All-head, All-nil, All-tail}
use Rattle.std.proofs.lemmas.List.Folds.{list_any-append}
use Rattle.world_model.specs.World.{Soft}
use Rattle.driver_model.specs.Bindings.{all_bindings, binding, bindings_of}
use Rattle.driver_model.specs.DriverOrder.{bus_group, bus_list_of, by_version, context_group, drivers_by, drivers_meant, first_places, inserted, order, platform_group, precedes, version_group}
use Rattle.world_model.specs.BusChildren.{child_function}
use Rattle.driver_model.specs.OrderLaws.{EachHasItsBinding, EachOnce, EveryBindingIsThere, OthersGoByVersion, VersionsFall, is_handle, is_each_once}
use Rattle.driver_model.specs.declared.binding.BindingBlock.{BindingBlock}
use Rattle.driver_model.proofs.Bindings.{among-all_bindings, handle-binding, rise-law}
use Rattle.driver_model.proofs.FirstPlaces.{among_first_places, first_places-append, first_places_of_once, first_places_once, is_new, is_other, rising_once}
use Rattle.driver_model.proofs.VersionOrder.{any-by_version, falls-by_version, once-by_version}

pub once-law : EachOnce
unfolding order
once-law controller context platform soft =
    first_places_once (context_group context soft ++ platform_group platform soft ++ bus_group controller soft ++ version_group soft)

pub falls-law : VersionsFall
falls-law soft = falls-by_version (all_bindings soft)

-- ---- each has its binding

module _ (soft : Soft) where
  abbrev HasItsBinding : BindingBlock → Type 0
  HasItsBinding block = binding block.handle soft ≡ Some block

  all-bindings_of : (handles : List ℕ) → All HasItsBinding (bindings_of handles soft)
  all-bindings_of [] = All-nil HasItsBinding
  all-bindings_of (handle ∷ handles) = by_binding (binding handle soft) refl (all-bindings_of handles)
    where
      by_binding : (found : Option BindingBlock) → binding handle soft ≡ found → All HasItsBinding (bindings_of handles soft) → All HasItsBinding (cons_option found (bindings_of handles soft))
      by_binding None is later = later
      by_binding (Some block) is later =
          let its : HasItsBinding block = subst (λ (n : ℕ). binding n soft ≡ Some block) (sym (handle-binding handle soft block is)) is in
          All-cons HasItsBinding block (bindings_of handles soft) its later

  all-drivers_by : (handle : ℕ) → All HasItsBinding (drivers_by soft handle)
  all-drivers_by handle = by_binding (binding handle soft) refl
    where
      by_binding : (found : Option BindingBlock) → binding handle soft ≡ found → All HasItsBinding (drivers_meant handle found soft)
      by_binding None is = All-filter (λ (block : BindingBlock). nat_eq block.image handle) HasItsBinding (all_bindings soft) (all-bindings_of _)
      by_binding (Some block) is =
          let its : HasItsBinding block = subst (λ (n : ℕ). binding n soft ≡ Some block) (sym (handle-binding handle soft block is)) is in
          All-cons HasItsBinding block [] its (All-nil HasItsBinding)

  all-lists : (handles : List ℕ) → All HasItsBinding (flat_map (drivers_by soft) handles)
  all-lists [] = All-nil HasItsBinding
  all-lists (handle ∷ handles) = All-append HasItsBinding (drivers_by soft handle) (flat_map (drivers_by soft) handles) (all-drivers_by handle) (all-lists handles)

  all-inserted : (block : BindingBlock) (blocks : List BindingBlock) → HasItsBinding block → All HasItsBinding blocks → All HasItsBinding (inserted block blocks)
  all-inserted block [] its all = All-cons HasItsBinding block [] its all
  all-inserted block (other ∷ others) its all = by_test (precedes block other) (all-inserted block others its (All-tail HasItsBinding other others all))
    where
      by_test : (first : Bool) → All HasItsBinding (inserted block others) → All HasItsBinding (if first then block ∷ other ∷ others else other ∷ inserted block others)
      by_test true later = All-cons HasItsBinding block (other ∷ others) its all
      by_test false later = All-cons HasItsBinding other (inserted block others) (All-head HasItsBinding other others all) later

  all-by_version : (blocks : List BindingBlock) → All HasItsBinding blocks → All HasItsBinding (by_version blocks)
  all-by_version [] all = all
  all-by_version (block ∷ blocks) all =
      all-inserted block (by_version blocks) (All-head HasItsBinding block blocks all) (all-by_version blocks (All-tail HasItsBinding block blocks all))

  all-first_places : (blocks : List BindingBlock) → All HasItsBinding blocks → All HasItsBinding (first_places blocks)
  all-first_places [] all = all
  all-first_places (block ∷ blocks) all =
      All-cons HasItsBinding block (filter (is_other block.handle) (first_places blocks)) (All-head HasItsBinding block blocks all)
      (All-filter (is_other block.handle) HasItsBinding (first_places blocks) (all-first_places blocks (All-tail HasItsBinding block blocks all)))

pub binding-law : EachHasItsBinding
unfolding order
binding-law controller context platform soft =
    let P : BindingBlock → Type 0 = λ block. binding block.handle soft ≡ Some block in
    let first : List BindingBlock = context_group context soft ++ platform_group platform soft in
    let chosen : List BindingBlock = first ++ bus_group controller soft in
    all-first_places soft (chosen ++ version_group soft)
    (All-append P chosen (version_group soft)
    (All-append P first (bus_group controller soft)
    (All-append P (context_group context soft) (platform_group platform soft) (all-bindings_of soft context) (all-lists soft platform))
    (all-lists soft (bus_list_of (child_function controller soft) soft)))
    (all-by_version soft (all_bindings soft) (all-bindings_of soft _)))

-- ---- every binding is there

pub every-law : EveryBindingIsThere
unfolding order
every-law controller context platform soft handle block is =
    let chosen : List BindingBlock = context_group context soft ++ platform_group platform soft ++ bus_group controller soft in
    among_first_places handle (chosen ++ version_group soft)
    ∙ list_any-append (is_handle handle) chosen (version_group soft)
    ∙ or_right (list_any (is_handle handle) chosen) (list_any (is_handle handle) (version_group soft))
    (any-by_version (is_handle handle) (all_bindings soft) ∙ among-all_bindings handle soft block is)

-- ---- the others go by Version

pub others-law : OthersGoByVersion
unfolding order
others-law controller context platform soft kept =
    let chosen : List BindingBlock = context_group context soft ++ platform_group platform soft ++ bus_group controller soft in
    let once : is_each_once (version_group soft) ≡ true = once-by_version (all_bindings soft) (rising_once (all_bindings soft) (rise-law soft kept)) in
    first_places-append chosen (version_group soft)
    ∙ ap (λ l. first_places chosen ++ filter (is_new (first_places chosen)) l) (first_places_of_once (version_group soft) once)
