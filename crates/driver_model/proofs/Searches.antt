-- What a search goes down, and what it leaves if it finds no driver.
use Rattle.std.proofs.Common.{◌≡◌, ℕ, Bool, true, false, not, List, [], ◌∷◌, refl, ◌∙◌, subst, if◌then◌else◌}
use Rattle.std.specs.Prelude.{Option, Some, None}
use Rattle.std.specs.List.{list_any}
use Rattle.std.proofs.lemmas.Bool.{or_from}
use Rattle.fw_types.specs.declared.event.Outcome.{Outcome}
use Rattle.world_model.specs.World.{State}
use Rattle.driver_model.specs.Moves.{plain}
use Rattle.driver_model.specs.Level.{Level}
use Rattle.driver_model.specs.Activations.{is_success}
use Rattle.driver_model.specs.Connect.{asked, driver_call, is_marked, unmarked}
use Rattle.driver_model.specs.DriverOrder.{order, platform_list}
use Rattle.driver_model.specs.CallLaws.{SearchListIsUnmarked, SearchWithoutSuccessLeaves}
use Rattle.driver_model.specs.Levels.{below, level_over, level_with}
use Rattle.driver_model.specs.declared.binding.BindingBlock.{BindingBlock}
use Rattle.driver_model.specs.declared.call.CallKind.TheVariants.{Supported}
use Rattle.driver_model.specs.declared.call.Scope.{Scope}
use Rattle.driver_model.specs.declared.request.Connection.{Connection}
use Rattle.driver_model.specs.declared.settings.Settings.{Settings}
use Rattle.driver_model.proofs.Calls.{supported-law}
use Rattle.driver_model.proofs.FirstPlaces.{once_in_part}
use Rattle.driver_model.proofs.Orders.{once-law}

-- ---- the list

none_marked : (marked : List ℕ) (blocks : List BindingBlock) → list_any (is_marked marked) (unmarked marked blocks) ≡ false
none_marked marked [] = refl
none_marked marked (block ∷ blocks) = by_test (is_marked marked block) refl (none_marked marked blocks)
  where
    by_test : (is : Bool) → is_marked marked block ≡ is → list_any (is_marked marked) (unmarked marked blocks) ≡ false
        → list_any (is_marked marked) (if not is then block ∷ unmarked marked blocks else unmarked marked blocks) ≡ false
    by_test true is later = later
    by_test false is later = or_from (is_marked marked block) (list_any (is_marked marked) (unmarked marked blocks)) is later

pub list-law : SearchListIsUnmarked
list-law settings c context marked w =
    let platform : List ℕ = platform_list settings c.controller in
    let blocks : List BindingBlock = order c.controller context platform w.soft in
    (once_in_part (λ block. not (is_marked marked block)) blocks (once-law c.controller context platform w.soft), none_marked marked blocks)

-- ---- a search that finds no driver

module _ (settings : Settings) (room : ℕ) (scope : Scope) (c : Connection) where
  abbrev level : Level State
  level = level_over plain settings (level_with room) (below plain settings room)

  -- the soft part stays if no driver is found
  abbrev Leaves : State → Option BindingBlock × State → Type 0
  Leaves w r = r.0 ≡ None → r.1.soft ≡ w.soft

  by_answer : (w : State) (block : BindingBlock) (others : State → Option BindingBlock × State) (r : Outcome × State) (yes : Bool) → r.1.soft ≡ w.soft
      → Leaves r.1 (others r.1) → Leaves w (if yes then (Some block, r.1) else others r.1)
  by_answer w block others r true same later none = absurd cc
  by_answer w block others r false same later none = later none ∙ same

  asked_leaves : (blocks : List BindingBlock) (w : State) → Leaves w (asked plain level scope c blocks w)
  unfolding asked
  asked_leaves [] w = λ none. refl
  asked_leaves (block ∷ blocks) w =
      let r : Outcome × State = level.call scope (driver_call Supported block c) [] w in
      by_answer w block (asked plain level scope c blocks) r (is_success r.0) (supported-law settings room scope (driver_call Supported block c) [] w refl) (asked_leaves blocks r.1)

pub leaves-law : SearchWithoutSuccessLeaves
leaves-law settings room scope c context marked w v is =
    let blocks : List BindingBlock = unmarked marked (order c.controller context (platform_list settings c.controller) w.soft) in
    let leaves : Leaves settings room scope c w (None, v) = subst (Leaves settings room scope c w) is (asked_leaves settings room scope c blocks w) in
    leaves refl
