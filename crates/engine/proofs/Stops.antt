-- How a disconnect goes on after a driver's turn.
use Rattle.std.proofs.Common.{◌≡◌, ℕ, ◌+◌, ◌-◌, ◌<◌, ◌≤◌, Bool, true, false, List, [], ◌∷◌, length, drop, refl, sym, ap, ◌∙◌}
use Rattle.std.specs.Prelude.{Option, Some, None, slice_index_or, if◌then◌else◌}
use Rattle.std.proofs.lemmas.List.{drop_all}
use Rattle.world_model.specs.World.{State}
use Rattle.driver_model.specs.Moves.{plain}
use Rattle.driver_model.specs.Level.{Level}
use Rattle.driver_model.specs.Disconnect.{disconnect_concluded, disconnected, is_meaningless, noted, stop_turn, stop_turns, stopped_by}
use Rattle.driver_model.specs.StopOrder.{stop_list}
use Rattle.driver_model.specs.declared.call.Scope.{Scope}
use Rattle.driver_model.specs.declared.request.Disconnection.{Disconnection}
use Rattle.driver_model.specs.declared.request.StopTurn.{StopTurn}
use Rattle.driver_model.specs.declared.settings.Settings.{Settings}
use Rattle.engine.specs.AtLevel.{level_at, level_below}
use Rattle.bind_parts.proofs.Lists.{next_of}
use Rattle.engine.proofs.Turns.{next_level}

module _ (l : Level State) (scope : Scope) (d : Disconnection) (agents : List ℕ) (i : ℕ) (so_far next : Bool × List ℕ) (came_to : StopTurn) (w v : State) where
  turns_first : (agent : ℕ) (rest : List ℕ)
      → stop_turns plain l scope d (agent ∷ rest) so_far w
      ≡ stop_turns plain l scope d rest (noted agent (stop_turn plain l scope d agent w).0 so_far) (stop_turn plain l scope d agent w).1
  unfolding stop_turns
  turns_first agent rest = refl

  pub turns_next : i < length agents → stop_turn plain l scope d (slice_index_or agents i 0) w ≡ (came_to, v) → noted (slice_index_or agents i 0) came_to so_far ≡ next
      → stop_turns plain l scope d (drop i agents) so_far w ≡ stop_turns plain l scope d (drop (i + 1) agents) next v
  turns_next lt is notes =
      rw (next_of agents i 0 lt)
      (turns_first (slice_index_or agents i 0) (drop (i + 1) agents)
      ∙ ap (λ (r : StopTurn × State). stop_turns plain l scope d (drop (i + 1) agents) (noted (slice_index_or agents i 0) r.0 so_far) r.1) is
      ∙ ap (λ (noted : Bool × List ℕ). stop_turns plain l scope d (drop (i + 1) agents) noted v) notes)

pub turns_all : (l : Level State) (scope : Scope) (d : Disconnection) (agents : List ℕ) (i : ℕ) (so_far : Bool × List ℕ) (w v : State) → length agents ≤ i
    → stop_turns plain l scope d agents (false, []) w ≡ stop_turns plain l scope d (drop i agents) so_far v
    → stopped_by plain l scope d (Some agents) w ≡ disconnect_concluded plain d (so_far, v)
unfolding stop_turns
turns_all l scope d agents i so_far w v le is = ap (disconnect_concluded plain d) (is ∙ end)
  where
    end : stop_turns plain l scope d (drop i agents) so_far v ≡ (so_far, v)
    end = rw (drop_all i agents le) refl

-- ---- before the turns

found_controller : (meaningless : Bool) (number controller : ℕ) → (if meaningless then None else Some number) ≡ Some controller → (meaningless ≡ false) × (number ≡ controller)
found_controller true number controller is = absurd cc
found_controller false number controller is = (refl, cc)

turns_by_list : (l : Level State) (scope : Scope) (d : Disconnection) (agents : Option (List ℕ)) (w : State) → is_meaningless d w.soft ≡ false
    → agents ≡ stop_list d.controller d.driver d.child w.soft → disconnected plain (Some l) scope d w ≡ stopped_by plain l scope d agents w
unfolding disconnected
turns_by_list l scope d agents w means lists = rw (means, ← lists) refl

pub disconnected_is : (s : Settings) (room : ℕ) (scope : Scope) (d : Disconnection) (controller : ℕ) (agents : Option (List ℕ)) (w : State) → 0 < room
    → (if is_meaningless d w.soft then None else Some d.controller) ≡ Some controller → agents ≡ stop_list controller d.driver d.child w.soft
    → disconnected plain (level_below s room) scope d w ≡ stopped_by plain (level_at s (room - 1)) scope d agents w
disconnected_is s room scope d controller agents w some found lists =
    let parts = found_controller (is_meaningless d w.soft) d.controller controller found in
    ap (λ (b : Option (Level State)). disconnected plain b scope d w) (next_level s room some)
    ∙ turns_by_list (level_at s (room - 1)) scope d agents w parts.0 (lists ∙ ap (λ (n : ℕ). stop_list n d.driver d.child w.soft) (sym parts.1))
