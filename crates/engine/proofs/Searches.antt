-- How a search goes on after a driver is asked, and how the connection of children goes on after a child.
use Rattle.std.proofs.Common.{◌≡◌, ℕ, ◌+◌, ◌<◌, ◌≤◌, true, false, List, [], ◌∷◌, length, drop, refl, ap, ◌∙◌}
use Rattle.std.specs.Prelude.{Some, None, slice_index_or}
use Rattle.std.proofs.lemmas.List.{drop_all}
use Rattle.fw_types.specs.declared.event.Outcome.{Outcome}
use Rattle.world_model.specs.World.{State}
use Rattle.driver_model.specs.Moves.{plain}
use Rattle.driver_model.specs.Level.{Level}
use Rattle.driver_model.specs.Activations.{is_success}
use Rattle.driver_model.specs.Connect.{asked, child_visited, children_visited, driver_call}
use Rattle.driver_model.specs.declared.binding.BindingBlock.{BindingBlock}
use Rattle.driver_model.specs.declared.call.CallKind.TheVariants.{Supported}
use Rattle.driver_model.specs.declared.call.Scope.{Scope}
use Rattle.driver_model.specs.declared.request.Connection.{Connection}
use Rattle.bind_parts.proofs.Lists.{next_is}

module _ (l : Level State) (scope : Scope) (c : Connection) (blocks : List BindingBlock) (i : ℕ) (block : BindingBlock) (w v : State) (outcome : Outcome) where
  pub asked_yes : i < length blocks → block ≡ slice_index_or blocks i block → l.call scope (driver_call Supported block c) [] w ≡ (outcome, v) → is_success outcome ≡ true
      → asked plain l scope c (drop i blocks) w ≡ (Some block, v)
  unfolding asked
  asked_yes lt is call works = rw (next_is blocks i block lt is, call, works) refl

  pub asked_no : i < length blocks → block ≡ slice_index_or blocks i block → l.call scope (driver_call Supported block c) [] w ≡ (outcome, v) → is_success outcome ≡ false
      → asked plain l scope c (drop i blocks) w ≡ asked plain l scope c (drop (i + 1) blocks) v
  unfolding asked
  asked_no lt is call fails = rw (next_is blocks i block lt is, call, fails) refl

pub asked_all : (l : Level State) (scope : Scope) (c : Connection) (blocks : List BindingBlock) (i : ℕ) (w : State) → length blocks ≤ i
    → asked plain l scope c (drop i blocks) w ≡ (None, w)
unfolding asked
asked_all l scope c blocks i w le = rw (drop_all i blocks le) refl

-- ---- children

visited_first : (l : Level State) (scope : Scope) (child : ℕ) (children : List ℕ) (w : State)
    → children_visited plain l scope (child ∷ children) w ≡ children_visited plain l scope children (child_visited plain l scope child w)
unfolding children_visited
visited_first l scope child children w = refl

pub visited_next : (l : Level State) (scope : Scope) (children : List ℕ) (i child : ℕ) (w v : State) → i < length children → child ≡ slice_index_or children i child
    → child_visited plain l scope child w ≡ v
    → children_visited plain l scope (drop i children) w ≡ children_visited plain l scope (drop (i + 1) children) v
visited_next l scope children i child w v lt here is =
    rw (next_is children i child lt here)
    (visited_first l scope child (drop (i + 1) children) w ∙ ap (λ (u : State). children_visited plain l scope (drop (i + 1) children) u) is)

pub visited_all : (l : Level State) (scope : Scope) (children : List ℕ) (i : ℕ) (w : State) → length children ≤ i → children_visited plain l scope (drop i children) w ≡ w
unfolding children_visited
visited_all l scope children i w le = rw (drop_all i children le) refl
